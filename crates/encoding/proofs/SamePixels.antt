-- Laws of the comparison of pixels: it compares bytes, and pixels equal to one are those each equal to the one before. Assumes nothing.
use mathlib.Core.Path.{◌≡◌, refl}
use mathlib.Core.List.{List}
use mathlib.Core.Bool.{Bool, true, false}
use Prim.Native.Nat.{ℕ, zero, suc, ◌+◌, ◌-◌, ◌<◌}
use native.Mathlib.Nat.{add-zero}
use native.Mathlib.Omega.{arith}
use lib.Dec.{eqb}
use lib.ListN.{get_or}
use borrow.Author.Tests.{eq-eqb, eqb-true}
use Rattle.base.specs.Picks.{pick}
use Rattle.base.proofs.Tests.{apart, both_true, same_test}
use Rattle.picture.specs.Pixels.{Pixel}
use Rattle.encoding.specs.Encode.{stretch, pixel, same_pixel}
use Rattle.encoding.proofs.Stretches.{stretch_le, stretch_passes, stretch-is, stretch-stops}

-- ---- bytes

pub bytes_same : (p q : Pixel) → ((i : ℕ) → i < 3 → get_or p i 0 ≡ get_or q i 0) → same_pixel p q ≡ true
unfolding same_pixel
bytes_same p q e =
    rw (
      eq-eqb (get_or p 0 0) (get_or q 0 0) (e 0 (omega arith)),
      eq-eqb (get_or p 1 0) (get_or q 1 0) (e 1 (omega arith)),
      eq-eqb (get_or p 2 0) (get_or q 2 0) (e 2 (omega arith)),
    )

pub same_bytes_lem : (p q : Pixel) → same_pixel p q ≡ true → (i : ℕ) → i < 3 → get_or p i 0 ≡ get_or q i 0
unfolding same_pixel
same_bytes_lem p q e i h =
    let a = both_true (eqb (get_or p 0 0) (get_or q 0 0)) (pick (eqb (get_or p 1 0) (get_or q 1 0)) (eqb (get_or p 2 0) (get_or q 2 0)) false) e in
    let b = both_true (eqb (get_or p 1 0) (get_or q 1 0)) (eqb (get_or p 2 0) (get_or q 2 0)) a.1 in
    go (eqb-true (get_or p 0 0) (get_or q 0 0) a.0) (eqb-true (get_or p 1 0) (get_or q 1 0) b.0) (eqb-true (get_or p 2 0) (get_or q 2 0) b.1) i h
  where
    go : get_or p 0 0 ≡ get_or q 0 0 → get_or p 1 0 ≡ get_or q 1 0 → get_or p 2 0 ≡ get_or q 2 0 → (i : ℕ) → i < 3 → get_or p i 0 ≡ get_or q i 0
    go x y z zero h = x
    go x y z (suc zero) h = y
    go x y z (suc (suc zero)) h = z
    go x y z (suc (suc (suc i))) h = absurd (omega arith)

pub byte_other : (p q : Pixel) (i : ℕ) → i < 3 → (get_or p i 0 ≡ get_or q i 0 → ⊥) → same_pixel p q ≡ false
byte_other p q i h e = same_test (same_pixel p q) false (λ s. absurd (e (same_bytes_lem p q s i h))) (λ f. apart cc)

-- ---- pixels equal to one

pub same_self : (p : Pixel) → same_pixel p p ≡ true
same_self p = bytes_same p p (λ i h. refl)

same_next : (p q r : Pixel) → same_pixel q r ≡ true → same_pixel p q ≡ same_pixel p r
unfolding same_pixel
same_next p q r e =
    let b : (i : ℕ) → i < 3 → get_or q i 0 ≡ get_or r i 0 = same_bytes_lem q r e in
    rw (b 0 (omega arith), b 1 (omega arith), b 2 (omega arith))

module _ (ps : List Pixel) (k : ℕ) where
  abbrev as_first : ℕ → Bool
  as_first i = same_pixel (pixel ps i) (pixel ps k)

  abbrev as_last : ℕ → Bool
  as_last i = same_pixel (pixel ps i) (pixel ps (i - 1))

  pub equal_chain : (n : ℕ) → stretch as_first k (suc n) ≡ suc (stretch as_last (suc k) n)
  equal_chain n =
      stretch-is as_first k (suc n) (suc m) (omega (arith, stretch_le as_last (suc k) n)) before
      (λ h.
      let e : k + suc m ≡ suc k + m = omega arith in
      rw e (next m (before m (omega arith)) (stretch-stops as_last (suc k) n (omega arith))))
    where
      m : ℕ
      m = stretch as_last (suc k) n

      -- a pixel compares with the first as with the one before it, where that equals the first
      next : {t : Bool} (i : ℕ) → as_first (k + i) ≡ true → as_last (suc k + i) ≡ t → as_first (suc k + i) ≡ t
      next i a b =
          let e : suc k + i - 1 ≡ k + i = omega arith in
          let b' : same_pixel (pixel ps (suc k + i)) (pixel ps (k + i)) ≡ _ = rw e at b in
          rw (← same_next (pixel ps (suc k + i)) (pixel ps (k + i)) (pixel ps k) a) b'

      before : (i : ℕ) → i < suc m → as_first (k + i) ≡ true
      before zero h = rw add-zero (same_self (pixel ps k))
      before (suc i) h =
          let e : k + suc i ≡ suc k + i = omega arith in
          rw e (next i (before i (omega arith)) (stretch_passes as_last (suc k) n i (omega arith)))
