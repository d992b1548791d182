-- A header and run length in the shortest form are read back, for every kind with written lengths. Assumes nothing.
use mathlib.Core.Path.{◌≡◌, refl}
use mathlib.Core.Bool.{false}
use mathlib.Core.List.{List, ◌∷◌, ◌++◌}
use Prim.Native.Nat.{ℕ, zero, suc, ◌+◌, ◌*◌, ◌-◌, ◌/◌, ◌%◌, ◌≤◌, ◌<◌}
use native.Mathlib.Nat.{add-zero}
use native.Mathlib.Omega.{arith}
use lib.Dec.{ltb, leb, eqb, lit≤}
use lib.ListN.{length, get_or}
use borrow.Author.Tests.{le-leb, lt-ltb, eq-eqb, ne_eqb, eqb-true, ltb-true}
use Rattle.base.specs.Picks.{pick}
use Rattle.base.proofs.Tests.{by_test, both_true, clash, by_less}
use Rattle.definition.specs.Orders.{Kind, BgRun, FgRun, FgBgImage, ColorRun, ColorImage, SetFgRun, SetFgBgImage, DitheredRun, written, Row, row, rows, no_row, is_mega_mega, has_header, row_in, row_of, Place, in_header, in_byte, in_two_bytes, place_in, place_of, run_length, with_bytes, mega_length, mega_mega_length, own_length, mega_of, length_at, length_of, head, headed, head_of}
use Rattle.definition.specs.Codes.{kind_row, tabulate}
use Rattle.definition.proofs.Table.{same_tables}
use Rattle.encoding.specs.Heads.{shortest_in, written_as, head_bytes}

-- these bytes start with a header of row r and the run length n in place p, and then come the bytes `rest`
pub record Reads (r : Row) (n : ℕ) (p : Place) (rest bytes : List ℕ) : Type 0 where
  pub row : row_of (get_or bytes 0 0) ≡ r
  pub place : place_of r (get_or bytes 0 0) ≡ p
  pub is : head_of bytes ≡ head r.kind n rest

module _ (n : ℕ) (one : 1 ≤ n) (rest : List ℕ) where
  -- the run length n of row r, written in the shortest form, is read back before `rest`
  abbrev pub ReadBack : Row → Type 0
  ReadBack r = Reads r n (shortest_in r.size r.lengths n) rest (head_bytes r n ++ rest)

  -- how n stands to a row's lengths: where the header can hold it, by its low bits; else it is not below what the next byte adds
  record Fits (size unit mega : ℕ) : Type 0 where
    whole : n % unit ≡ 0 → n < size * unit → (0 < n / unit) × (n / unit < size) × (n / unit * unit ≡ n)
    reach : (n % unit ≡ 0 → n < size * unit → ⊥) → mega ≤ n

  ones : (size : ℕ) → Fits size 1 size
  ones size =
      record {
        whole = λ e h. omega arith;
        reach = λ no. by_less n size (λ h. absurd (no (omega arith) (omega arith))) (λ h. h);
      }

  eights : (size : ℕ) → Fits size 8 1
  eights size = record { whole = λ e h. omega arith; reach = λ no. one }

  -- the headers of a row are of this row by the table, with their places in it for low bits; the mega-mega one stands behind them
  module _ (k : Kind) (from size unit mega header : ℕ) (fits : Fits size unit mega)
      (own : tabulate (λ q. row_of (from + q)) 0 size ≡ tabulate (λ _. row k from size (written unit mega header)) 0 size)
      (low : tabulate (λ q. (from + q) % size) 0 size ≡ tabulate (λ q. q) 0 size)
      (last : row_of header ≡ row k from size (written unit mega header)) (some : 1 ≤ size) (behind : from + size ≤ header) where
    abbrev r : Row
    r = row k from size (written unit mega header)

    own_at_lem : (q : ℕ) → q < size → row_of (from + q) ≡ r
    own_at_lem = same_tables no_row (λ q. row_of (from + q)) (λ _. r) size own

    low_at : (q : ℕ) → q < size → (from + q) % size ≡ q
    low_at = same_tables 0 (λ q. (from + q) % size) (λ q. q) size low

    reads : (h : ℕ) (l : List ℕ) (p : Place) → row_of h ≡ r → place_of r h ≡ p → length_at p (h % size * unit) mega l ≡ run_length n rest
        → Reads r n p rest (h ∷ l)
    unfolding head_of headed length_of own_length mega_of row
    reads h l p a b c = record { row = a; place = b; is = rw (a, b, c) }

    in_header_lem : n % unit ≡ 0 → n < size * unit → Reads r n in_header rest ((from + n / unit) ∷ rest)
    unfolding place_of place_in length_at row
    in_header_lem e h =
        let q = n / unit in
        let w = fits.whole e h in
        let l = low_at q w.1 in
        reads (from + q) rest in_header (own_at_lem q w.1)
        (rw (ne_eqb (from + q) header (omega (arith, w.1)), l, ne_eqb q 0 (omega (arith, w.0)))) (rw (l, w.2))

    in_byte_lem : mega ≤ n → Reads r n in_byte rest (from ∷ (n - mega) ∷ rest)
    unfolding place_of place_in length_at mega_length with_bytes row
    in_byte_lem h =
        let e : n - mega + mega ≡ n = omega arith in
        let l : from % size ≡ 0 = rw add-zero at (low_at 0 some) in
        reads from ((n - mega) ∷ rest) in_byte (rw add-zero at (own_at_lem 0 some)) (rw (ne_eqb from header (omega arith), l))
        (rw (le-leb 1 (suc (length rest)) (omega arith), e))

    in_two : Reads r n in_two_bytes rest (header ∷ (n % 256) ∷ (n / 256) ∷ rest)
    unfolding place_of place_in length_at mega_mega_length with_bytes row
    in_two =
        let e : n % 256 + n / 256 * 256 ≡ n = omega arith in
        reads header ((n % 256) ∷ (n / 256) ∷ rest) in_two_bytes last (rw (eq-eqb header header refl))
        (rw (le-leb 2 (suc (suc (length rest))) (omega arith), e, ne_eqb n 0 (omega arith)))

    row_back : ReadBack r
    unfolding head_bytes shortest_in written_as row
    row_back =
        let a = eqb (n % unit) 0 in
        let b = ltb n (size * unit) in
        by_test Q (pick a b false)
        (λ t. let u = both_true a b t in in_header_lem (eqb-true (n % unit) 0 u.0) (ltb-true n (size * unit) u.1))
        (λ t. by_test Q (leb n (mega + 255))
        (λ _. in_byte_lem (fits.reach (λ e h. clash (rw (eq-eqb (n % unit) 0 e, lt-ltb n (size * unit) h)) t)))
        (λ _. in_two))
      where
        Q : Place → Type 0
        Q p = Reads r n p rest (written_as from (written unit mega header) n p ++ rest)

  -- the kinds with written lengths are those with the numbers below 8
  pub head-back : (c : ℕ) → c < 8 → ReadBack (kind_row c)
  unfolding kind_row rows row row_of row_in no_row has_header is_mega_mega tabulate
  head-back zero h = row_back BgRun 0x00 32 1 32 0xF0 (ones 32) refl refl refl (lit≤ tt) (lit≤ tt)
  head-back (suc zero) h = row_back FgRun 0x20 32 1 32 0xF1 (ones 32) refl refl refl (lit≤ tt) (lit≤ tt)
  head-back (suc (suc zero)) h = row_back FgBgImage 0x40 32 8 1 0xF2 (eights 32) refl refl refl (lit≤ tt) (lit≤ tt)
  head-back (suc (suc (suc zero))) h = row_back ColorRun 0x60 32 1 32 0xF3 (ones 32) refl refl refl (lit≤ tt) (lit≤ tt)
  head-back (suc (suc (suc (suc zero)))) h = row_back ColorImage 0x80 32 1 32 0xF4 (ones 32) refl refl refl (lit≤ tt) (lit≤ tt)
  head-back (suc (suc (suc (suc (suc zero))))) h = row_back SetFgRun 0xC0 16 1 16 0xF6 (ones 16) refl refl refl (lit≤ tt) (lit≤ tt)
  head-back (suc (suc (suc (suc (suc (suc zero)))))) h =
      row_back SetFgBgImage 0xD0 16 8 1 0xF7 (eights 16) refl refl refl (lit≤ tt) (lit≤ tt)
  head-back (suc (suc (suc (suc (suc (suc (suc zero))))))) h =
      row_back DitheredRun 0xE0 16 1 16 0xF8 (ones 16) refl refl refl (lit≤ tt) (lit≤ tt)
  head-back (suc (suc (suc (suc (suc (suc (suc (suc c)))))))) h = absurd (omega arith)
