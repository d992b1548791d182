-- Laws of the rule's choice: a run has at least 3 pixels, an image at least one; both fit in the picture and in a run length; an
-- image ends at 65,535 pixels, with the picture, or where a run starts. Assumes nothing.
use mathlib.Core.Path.{◌≡◌}
use mathlib.Core.List.{List}
use mathlib.Core.Bool.{Bool, false}
use Prim.Native.Nat.{ℕ, suc, ◌+◌, ◌-◌, ◌≤◌, ◌<◌}
use native.Mathlib.Omega.{arith}
use lib.Dec.{leb}
use lib.ListN.{length, take, drop, length-drop}
use lib.Seq.{length-take-le}
use borrow.Author.Tests.{leb-true}
use Rattle.base.specs.Picks.{pick}
use Rattle.base.proofs.Tests.{by_test}
use Rattle.picture.specs.Pixels.{Pixel}
use Rattle.encoding.specs.Encode.{stretch, pixel, same_pixel, most, equal_at, above_at, Start, background, color, none, longer, start_at, is_none, image_at}
use Rattle.encoding.proofs.Stretches.{stretch_le, stretch-stops}

-- a choice where an order has `most` pixels at the most
pub data Chosen (most : ℕ) : Start → Type 0 where
  as_background : {n : ℕ} → 3 ≤ n → n ≤ most → Chosen most (background n)
  as_color : {n : ℕ} → 3 ≤ n → n ≤ most → Chosen most (color n)
  as_none : Chosen most none

-- what holds of a run of either stretch, and of no run, holds of the choice
pub by_longer : (Q : Start → Type 0) (a e : ℕ) → (3 ≤ a → Q (background a)) → (3 ≤ e → Q (color e)) → Q none → Q (longer a e)
unfolding longer
by_longer Q a e f g h =
    by_test Q (leb e a)
    (λ _. by_test Q (leb 3 a) (λ t. f (leb-true 3 a t)) (λ _. h))
    (λ _. by_test Q (leb 3 e) (λ t. g (leb-true 3 e t)) (λ _. h))

pub equal_le : (ps : List Pixel) (k : ℕ) → equal_at ps k ≤ most ps k
unfolding equal_at
equal_le ps k = stretch_le (λ i. same_pixel (pixel ps i) (pixel ps k)) k (most ps k)

module _ (w : ℕ) (ps : List Pixel) (k : ℕ) where
  above_le : above_at w ps k ≤ most ps k
  unfolding above_at
  above_le =
      by_test (λ (n : ℕ). n ≤ most ps k) (leb w k)
      (λ _. stretch_le (λ i. same_pixel (pixel ps i) (pixel ps (i - w))) k (most ps k)) (λ _. omega arith)

  pub start_chosen : (after : Bool) → Chosen (most ps k) (start_at w ps k after)
  unfolding start_at
  start_chosen after =
      by_longer (Chosen (most ps k)) (pick after 0 (above_at w ps k)) (equal_at ps k)
      (λ h. as_background h (by_test (λ (n : ℕ). n ≤ most ps k) after (λ _. omega arith) (λ _. above_le)))
      (λ h. as_color h (equal_le ps k)) as_none

  pub image-one : 1 ≤ image_at w ps k
  unfolding image_at
  image-one = omega arith

  module _ (inside : k < length ps) where
    pub image_le : image_at w ps k ≤ most ps k
    unfolding image_at
    image_le = omega (arith, stretch_le (λ i. is_none (start_at w ps i false)) (suc k) (most ps k - 1))

    pub image-stops : image_at w ps k < most ps k → is_none (start_at w ps (k + image_at w ps k) false) ≡ false
    unfolding image_at
    image-stops h =
        let n = stretch (λ i. is_none (start_at w ps i false)) (suc k) (most ps k - 1) in
        let e : k + suc n ≡ suc k + n = omega arith in
        rw e (stretch-stops (λ i. is_none (start_at w ps i false)) (suc k) (most ps k - 1) (omega arith))

    -- its pixels are in the picture
    pub image-length : length (take (image_at w ps k) (drop k ps)) ≡ image_at w ps k
    image-length = length-take-le (image_at w ps k) (drop k ps) (rw length-drop (omega (arith, image_le)))
