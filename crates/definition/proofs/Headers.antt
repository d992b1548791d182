-- Laws of headers: what the code's tables say of the definition's rows. Assumes nothing.
use mathlib.Core.Path.{◌≡◌, refl, ap}
use mathlib.Core.Bool.{Bool, true, false}
use mathlib.Core.List.{List, [], ◌∷◌}
use Prim.Native.Nat.{ℕ, suc, ◌≤◌, ◌<◌}
use native.Mathlib.Omega.{arith}
use lib.Dec.{ltb, leb, eqb}
use lib.ListN.{get_or}
use borrow.Author.Tests.{lt-ltb, leb-true, ltb-true, eqb-true}
use Rattle.base.specs.Picks.{pick}
use Rattle.base.proofs.Tests.{by_test, both_true}
use Rattle.definition.specs.Orders.{Row, rows, no_row, has_header, row_in, row_of, Place, nowhere, in_header, in_byte, in_two_bytes, place_of, own_length, mega_of, run_length, mega_length, mega_mega_length, length_at, length_of}
use Rattle.definition.specs.Codes.{kind_row, number_in, kind_number, own_at, length_number, mega_number, length_test, header_test, headers_tested, place_by, places_told}
use Rattle.definition.proofs.Table.{same_tables}

-- ---- headers

row_at : (h : ℕ) (rs : List Row) → row_in h rs ≡ get_or rs (number_in h rs) no_row
unfolding row_in number_in
row_at h [] = refl
row_at h (r ∷ rs) = go (row_at h rs) (has_header h r)
  where
    go : row_in h rs ≡ get_or rs (number_in h rs) no_row → (t : Bool) → pick t r (row_in h rs) ≡ get_or (r ∷ rs) (pick t 0 (suc (number_in h rs))) no_row
    go e true = refl
    go e false = e

-- the kind's number is the place of the header's row
pub row_is : (h : ℕ) → row_of h ≡ kind_row (kind_number h)
unfolding row_of kind_row kind_number
row_is h = row_at h rows

-- what the computed test of a header says, by the place of its length
abbrev pub Tested : Place → ℕ → ℕ → ℕ → Type 0
Tested nowhere h n mega = (1 ≤ n) × (n ≤ 248)
Tested in_header h n mega = (1 ≤ n) × (n ≤ 248)
Tested in_byte h n mega = (h < 0xF0) × (mega ≡ mega_number (kind_number h))
Tested in_two_bytes h n mega = 0xF0 ≤ h

in_header_lem : (n : ℕ) → pick (leb 1 n) (leb n 248) false ≡ true → (1 ≤ n) × (n ≤ 248)
in_header_lem n e = let t = both_true (leb 1 n) (leb n 248) e in (leb-true 1 n t.0, leb-true n 248 t.1)

test_says : (p : Place) (h n mega : ℕ) → length_test p h n mega ≡ true → Tested p h n mega
unfolding length_test
test_says nowhere h n mega e = in_header_lem n e
test_says in_header h n mega e = in_header_lem n e
test_says in_byte h n mega e =
    let t = both_true (ltb h 0xF0) (eqb mega (mega_number (kind_number h))) e in
    (ltb-true h 0xF0 t.0, eqb-true mega (mega_number (kind_number h)) t.1)
test_says in_two_bytes h n mega e = leb-true 0xF0 h e

module _ (h : ℕ) (byte : h < 256) where
  test : (length_test (place_of (row_of h) h) h (own_length h (row_of h).size (row_of h).lengths) (mega_of (row_of h).lengths) ≡ true)
      × (pick (ltb 7 (kind_number h)) (eqb (length_number h) (pick (ltb 9 (kind_number h)) 1 8)) true ≡ true)
  unfolding header_test
  test = both_true _ _ (same_tables true header_test (λ _. true) 256 headers_tested h byte)

  pub tested : Tested (place_of (row_of h) h) h (own_length h (row_of h).size (row_of h).lengths) (mega_of (row_of h).lengths)
  tested = test_says (place_of (row_of h) h) h (own_length h (row_of h).size (row_of h).lengths) (mega_of (row_of h).lengths) test.0

  -- special fg/bg images have eight pixels; white, black and no order one
  pub fixed-length : 7 < kind_number h → length_number h ≡ pick (ltb 9 (kind_number h)) 1 8
  fixed-length k = eqb-true (length_number h) (pick (ltb 9 (kind_number h)) 1 8) (rw (lt-ltb 7 (kind_number h) k) at test.1)

-- 1 to 32 is added to a length of one byte
pub mega_range : (k : ℕ) → (1 ≤ mega_number k) × (mega_number k ≤ 32)
unfolding mega_number
mega_range k =
    by_test In (eqb k 2) (λ _. (omega arith, omega arith))
    (λ _. by_test In (eqb k 6) (λ _. (omega arith, omega arith))
    (λ _. by_test In (ltb k 5) (λ _. (omega arith, omega arith)) (λ _. (omega arith, omega arith))))
  where
    In : ℕ → Type 0
    In m = (1 ≤ m) × (m ≤ 32)

-- ---- the place of a length, by the header's own length

module _ (h : ℕ) (byte : h < 256) (rest : List ℕ) where
  -- by the place: where the length stands in the header, in the next byte, or in two
  by_place : (p : Place) (n mega : ℕ) → Tested p h n mega → (0 < own_at p n → length_at p n mega rest ≡ run_length (own_at p n) rest)
      × (own_at p n ≡ 0 → h < 0xF0 → length_at p n mega rest ≡ mega_length (mega_number (kind_number h)) rest)
      × (own_at p n ≡ 0 → 0xF0 ≤ h → length_at p n mega rest ≡ mega_mega_length rest)
      × (own_at p n ≤ 248)
  unfolding own_at length_at
  by_place nowhere n mega t = (λ e. refl, λ e. absurd (omega (arith, t.0)), λ e. absurd (omega (arith, t.0)), t.1)
  by_place in_header n mega t = (λ e. refl, λ e. absurd (omega (arith, t.0)), λ e. absurd (omega (arith, t.0)), t.1)
  by_place in_byte n mega t =
      (λ e. absurd (omega arith), λ e l. ap (λ (m : ℕ). mega_length m rest) t.1, λ e l. absurd (omega (arith, t.0)), omega arith)
  by_place in_two_bytes n mega t = (λ e. absurd (omega arith), λ e l. absurd (omega (arith, t)), λ e l. refl, omega arith)

  pub by_header : (0 < length_number h → length_of (row_of h) h rest ≡ run_length (length_number h) rest)
      × (length_number h ≡ 0 → h < 0xF0 → length_of (row_of h) h rest ≡ mega_length (mega_number (kind_number h)) rest)
      × (length_number h ≡ 0 → 0xF0 ≤ h → length_of (row_of h) h rest ≡ mega_mega_length rest)
      × (length_number h ≤ 248)
  unfolding length_number length_of
  by_header = by_place (place_of (row_of h) h) (own_length h (row_of h).size (row_of h).lengths) (mega_of (row_of h).lengths) (tested h byte)

-- the place that the code tells
pub place_is : (h : ℕ) → h < 256 → place_of (row_of h) h ≡ place_by (kind_number h) (length_number h) h
place_is h byte = same_tables nowhere (λ k. place_of (row_of k) k) (λ k. place_by (kind_number k) (length_number k) k) 256 places_told h byte
