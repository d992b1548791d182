-- Laws of bytes that are compared: what the first pair, one more and a block say of the bytes that are the same at the start. Assumes
-- nothing.
use mathlib.Core.Path.{◌≡◌, refl, ap, sym, ◌∙◌}
use mathlib.Core.List.{List, [], ◌∷◌}
use mathlib.Core.Bool.{Bool, true, false, ◌&&◌}
use Prim.Native.Nat.{ℕ, zero, suc, ◌+◌, ◌-◌, ◌≤◌, ◌<◌}
use native.Mathlib.Nat.{zero-add}
use native.Mathlib.Omega.{arith}
use lib.Bits.{bit_or, bit_xor}
use lib.Dec.{eqb}
use lib.ListN.{length, get_or, take, drop, length-drop}
use lib.Seq.{get_or-take, get_or-drop, length-take-le}
use borrow.Author.Tests.{eq-eqb, ne_eqb, eqb-true}
use Rattle.std.proofs.lemmas.List.Sums.{take_while-cons}
use Rattle.std.specs.List.{fold, zip, take_while}
use Rattle.std.specs.Bool.{◌==◌}
use Rattle.std.proofs.Math.Bool.{cond}
use Rattle.base.specs.Picks.{pick}
use Rattle.base.proofs.Tests.{by_test, by_less, both_true, same_test}
use Rattle.base.proofs.Differences.{gathered}
use Rattle.encoding.specs.Encode.{stretch}
use Rattle.encoding.proofs.Stretches.{stretch-is}
use Rattle.encode.specs.Bytes.{difference, same_at, same_bytes, same_start}

-- byte j of n bytes from i on
pub part : (s : List ℕ) (i n j : ℕ) → j < n → get_or (take n (drop i s)) j 0 ≡ get_or s (i + j) 0
part s i n j h = get_or-take n (drop i s) j 0 h ∙ get_or-drop i s j 0

start_cons : (x y : ℕ) (a b : List ℕ) → same_start (x ∷ a) (y ∷ b) ≡ pick (eqb x y) (suc (same_start a b)) 0
start_cons x y a b = rw take_while-cons (go (eqb x y) (take_while (λ (p : ℕ × ℕ). p.0 == p.1) (zip a b)))
  where
    go : (t : Bool) (l : List (ℕ × ℕ)) → length (cond t ((x, y) ∷ l) []) ≡ pick t (suc (length l)) 0
    go true l = refl
    go false l = refl

pub start_le : (a b : List ℕ) → same_start a b ≤ length a
start_le [] b = omega arith
start_le (x ∷ a) [] = omega arith
start_le (x ∷ a) (y ∷ b) = rw start_cons (by_test (λ n. n ≤ suc (length a)) (eqb x y) (λ _. omega (arith, start_le a b)) (λ _. omega arith))

pub start_passes : (a b : List ℕ) (i : ℕ) → i < same_start a b → get_or a i 0 ≡ get_or b i 0
start_passes [] b i h = absurd (omega arith)
start_passes (x ∷ a) [] i h = absurd (omega arith)
start_passes (x ∷ a) (y ∷ b) i h =
    by_test (λ n. i < n → get_or (x ∷ a) i 0 ≡ get_or (y ∷ b) i 0) (eqb x y) (λ t. at i (eqb-true x y t) (start_passes a b))
    (λ _ l. absurd (omega arith)) (rw start_cons at h)
  where
    at : (i : ℕ) → x ≡ y → ((j : ℕ) → j < same_start a b → get_or a j 0 ≡ get_or b j 0) → i < suc (same_start a b) → get_or (x ∷ a) i 0 ≡ get_or (y ∷ b) i 0
    at zero e later l = e
    at (suc i) e later l = later i (omega arith)

pub start_reaches : (a b : List ℕ) (m : ℕ) → m ≤ length a → m ≤ length b → ((i : ℕ) → i < m → get_or a i 0 ≡ get_or b i 0) → m ≤ same_start a b
start_reaches a b zero h g e = omega arith
start_reaches [] b (suc m) h g e = absurd (omega arith)
start_reaches (x ∷ a) [] (suc m) h g e = absurd (omega arith)
start_reaches (x ∷ a) (y ∷ b) (suc m) h g e =
    rw (start_cons, eq-eqb x y (e 0 (omega arith)))
    (omega (arith, start_reaches a b m (omega arith) (omega arith) (λ i l. e (suc i) (omega arith))))

-- the byte behind them differs
pub start-stops : (a b : List ℕ) → same_start a b < length a → same_start a b < length b → get_or a (same_start a b) 0 ≡ get_or b (same_start a b) 0 → ⊥
start-stops a b h g e =
    omega (
      arith,
      start_reaches a b (suc (same_start a b)) (omega arith) (omega arith)
          (λ i l. by_less i (same_start a b) (start_passes a b i) (λ k.
          let s : i ≡ same_start a b = omega arith in
          rw s e)),
    )

-- of two of one length they are the stretch from the first byte on
pub start-stretch : (a b : List ℕ) → length a ≡ length b → same_start a b ≡ stretch (same_at a b) 0 (length a)
start-stretch a b l =
    sym
    (stretch-is (same_at a b) 0 (length a) (same_start a b) (start_le a b) (λ i h. rw zero-add (eq-eqb (get_or a i 0) (get_or b i 0) (start_passes a b i h)))
    (λ h. rw zero-add (ne_eqb (get_or a (same_start a b) 0) (get_or b (same_start a b) 0) (start-stops a b h (omega arith)))))

-- counted from a byte among them on
pub start-rest : (a b : List ℕ) (j : ℕ) → j ≤ same_start a b → j + same_start (drop j a) (drop j b) ≡ same_start a b
start-rest a b zero h = zero-add (same_start a b)
start-rest [] b (suc j) h = absurd (omega arith)
start-rest (x ∷ a) [] (suc j) h = absurd (omega arith)
start-rest (x ∷ a) (y ∷ b) (suc j) h =
    rw start_cons
    (by_test (λ n. suc j ≤ n → suc j + same_start (drop j a) (drop j b) ≡ n) (eqb x y) (λ _ l. omega (arith, start-rest a b j (omega arith)))
    (λ _ l. absurd (omega arith)) (rw start_cons at h))

-- ---- all of them

pub all-same : (a b : List ℕ) → length a ≡ length b → same_bytes a b ≡ eqb (same_start a b) (length a)
all-same [] [] l = refl
all-same [] (y ∷ b) l = absurd (omega arith)
all-same (x ∷ a) [] l = absurd (omega arith)
all-same (x ∷ a) (y ∷ b) l = rw (all-same a b (omega arith), start_cons) (go (eqb x y))
  where
    s : ℕ
    s = same_start a b

    go : (t : Bool) → (t && eqb s (length a)) ≡ eqb (pick t (suc s) 0) (suc (length a))
    go true =
        same_test (eqb s (length a)) (eqb (suc s) (suc (length a))) (λ e. eq-eqb (suc s) (suc (length a)) (ap suc (eqb-true s (length a) e)))
        (λ e. let m = eqb-true (suc s) (suc (length a)) e in eq-eqb s (length a) (omega arith))
    go false = sym (ne_eqb 0 (suc (length a)) (λ e. omega arith))

-- ---- blocks

-- no differences, gathered to `all`: there were none before, and there is none in both
none : (a b : List ℕ) (all : ℕ) → length a ≡ length b → fold (λ all (p : ℕ × ℕ). bit_or all (bit_xor p.0 p.1)) all (zip a b) ≡ 0
    → (all ≡ 0) × ((i : ℕ) → get_or a i 0 ≡ get_or b i 0)
none [] [] all l e = (e, λ i. refl)
none [] (y ∷ b) all l e = absurd (omega arith)
none (x ∷ a) [] all l e = absurd (omega arith)
none (x ∷ a) (y ∷ b) all l e =
    let later = none a b (bit_or all (bit_xor x y)) (omega arith) e in
    let both = both_true (eqb all 0) (eqb x y) (sym (gathered all x y) ∙ eq-eqb (bit_or all (bit_xor x y)) 0 later.0) in
    (eqb-true all 0 both.0, at (eqb-true x y both.1) later.1)
  where
    at : x ≡ y → ((i : ℕ) → get_or a i 0 ≡ get_or b i 0) → (i : ℕ) → get_or (x ∷ a) i 0 ≡ get_or (y ∷ b) i 0
    at e f zero = e
    at e f (suc i) = f i

pub block_agrees : (a b : List ℕ) (i m : ℕ) → length a ≡ length b → i ≤ same_start a b → i + m ≤ length a
    → difference (take m (drop i a)) (take m (drop i b)) ≡ 0 → i + m ≤ same_start a b
block_agrees a b i m l so_far fits e =
    let long : length (take m (drop i a)) ≡ length (take m (drop i b)) =
    length-take-le m (drop i a) (rw length-drop (omega arith)) ∙ sym (length-take-le m (drop i b) (rw length-drop (omega arith))) in
    let same = none (take m (drop i a)) (take m (drop i b)) 0 long e in
    start_reaches a b (i + m) fits (omega arith) (λ j h. by_less j i (λ k. start_passes a b j (omega arith))
    (λ k.
    let g : i + (j - i) ≡ j = omega arith in
    rw g at (sym (part a i m (j - i) (omega arith)) ∙ same.1 (j - i) ∙ part b i m (j - i) (omega arith))))

-- the differences of what is the same, gathered
same_gathers : (a b : List ℕ) (all : ℕ) → length a ≡ length b → ((i : ℕ) → i < length a → get_or a i 0 ≡ get_or b i 0) → all ≡ 0
    → fold (λ all (p : ℕ × ℕ). bit_or all (bit_xor p.0 p.1)) all (zip a b) ≡ 0
same_gathers [] [] all l same e = e
same_gathers [] (y ∷ b) all l same e = absurd (omega arith)
same_gathers (x ∷ a) [] all l same e = absurd (omega arith)
same_gathers (x ∷ a) (y ∷ b) all l same e =
    same_gathers a b (bit_or all (bit_xor x y)) (omega arith) (λ i h. same (suc i) (omega arith))
    (eqb-true (bit_or all (bit_xor x y)) 0 (gathered all x y ∙ rw (eq-eqb all 0 e) (eq-eqb x y (same 0 (omega arith)))))

-- so a block that differs ends them, and one of one byte ends them where it begins
pub block_differs : (a b : List ℕ) (i m : ℕ) → length a ≡ length b → i + m ≤ length a → (difference (take m (drop i a)) (take m (drop i b)) ≡ 0 → ⊥)
    → (same_start a b < i + m) × (i ≤ same_start a b → m ≡ 1 → same_start a b ≡ i)
block_differs a b i m l fits d = (ends, λ so_far one. omega (arith, ends))
  where
    here : length (take m (drop i a)) ≡ m
    here = length-take-le m (drop i a) (rw length-drop (omega arith))

    back : length (take m (drop i b)) ≡ m
    back = length-take-le m (drop i b) (rw length-drop (omega arith))

    ends : same_start a b < i + m
    ends =
        by_less (same_start a b) (i + m) (λ h. h) (λ h.
        absurd
        (d
        (same_gathers (take m (drop i a)) (take m (drop i b)) 0 (here ∙ sym back) (λ j k.
        part a i m j (rw here at k) ∙ start_passes a b (i + j) (omega (arith, rw here at k)) ∙ sym (part b i m j (rw here at k)))
        refl)))
