-- What an order of the rule says of the picture: how many pixels it has, and which. Assumes nothing.
use mathlib.Core.Path.{◌≡◌, sym, ◌∙◌}
use mathlib.Core.Bool.{Bool, true, false}
use mathlib.Core.List.{List}
use Prim.Native.Nat.{ℕ, ◌+◌, ◌-◌, ◌≤◌, ◌<◌}
use native.Mathlib.Omega.{arith}
use lib.Dec.{leb}
use lib.ListN.{length, take, drop}
use lib.Seq.{ext_get_or, get_or-take, get_or-drop}
use borrow.Author.Tests.{leb-true}
use Rattle.base.specs.Picks.{pick}
use Rattle.base.proofs.Tests.{by_test, apart}
use Rattle.picture.specs.Pixels.{Pixel, OfDepth}
use Rattle.picture.proofs.Pixels.{length_of_depth, AllOfDepth}
use Rattle.encoding.specs.Encode.{pixel, same_pixel, most, equal_at, above_at, Start, start_at, image_at, Order, bg_run, color_run, color_image, pixels_in, is_bg_run, order_of, order_at}
use Rattle.encoding.proofs.Stretches.{stretch_passes}
use Rattle.encoding.proofs.SamePixels.{same_bytes_lem}
use Rattle.encoding.proofs.Choices.{by_longer, image-length}
use Rattle.encoding.proofs.Rest.{Counted, order-counted}

-- pixel j of an order from pixel k on
unfoldable pub shown : ℕ → List Pixel → ℕ → Order → ℕ → Pixel
shown w ps k (bg_run n) j = pixel ps (k + j - w)
shown w ps k (color_run p n) j = p
shown w ps k (color_image qs) j = pixel qs j

-- the order o says what stands from pixel k on, directly after a background run or not
pub record Sound (w : ℕ) (ps : List Pixel) (k : ℕ) (after : Bool) (o : Order) : Type 0 where
  pub one : 1 ≤ pixels_in o
  pub few : pixels_in o ≤ 65535
  pub fits : k + pixels_in o ≤ length ps
  pub says : (j : ℕ) → j < pixels_in o → pixel ps (k + j) ≡ shown w ps k o j
  -- what is above is painted, and no foreground pixel is inserted
  pub above : is_bg_run o ≡ true → (w ≤ k) × (after ≡ false)

same-pixel : (D : ℕ) (p q : Pixel) → OfDepth D p → OfDepth D q → same_pixel p q ≡ true → p ≡ q
same-pixel D p q a b e =
    let l = length_of_depth D p a in
    ext_get_or 0 p q (l ∙ sym (length_of_depth D q b)) (λ i h. same_bytes_lem p q e i (omega arith))

module _ (D w : ℕ) (ps : List Pixel) (full : AllOfDepth D ps) (k : ℕ) (inside : k < length ps) (after : Bool) where
  -- an order of so many pixels as fit is sound
  abbrev Counts : Order → Type 0
  Counts o = Counted (most ps k) (pixels_in o) → Sound w ps k after o

  sound : (o : Order) → (Counted (most ps k) (pixels_in o) → (j : ℕ) → j < pixels_in o → pixel ps (k + j) ≡ shown w ps k o j)
      → (is_bg_run o ≡ true → (w ≤ k) × (after ≡ false)) → Counts o
  sound o says above c = record { one = c.one; few = omega arith; fits = omega arith; says = says c; above = above }

  same_at : (i j : ℕ) → i < length ps → j < length ps → same_pixel (pixel ps i) (pixel ps j) ≡ true → pixel ps i ≡ pixel ps j
  same_at i j a b e = same-pixel D (pixel ps i) (pixel ps j) (full i a) (full j b) e

  above_same : (j : ℕ) → j < above_at w ps k → (w ≤ k) × (same_pixel (pixel ps (k + j)) (pixel ps (k + j - w)) ≡ true)
  unfolding above_at
  above_same j =
      by_test (λ (n : ℕ). j < n → (w ≤ k) × (same_pixel (pixel ps (k + j)) (pixel ps (k + j - w)) ≡ true)) (leb w k)
      (λ t b. (leb-true w k t, stretch_passes (λ i. same_pixel (pixel ps i) (pixel ps (i - w))) k (most ps k) j b))
      (λ _ b. absurd (omega arith))

  background_sound : 3 ≤ pick after 0 (above_at w ps k) → Counts (bg_run (pick after 0 (above_at w ps k)))
  unfolding pixels_in shown
  background_sound =
      by_test (λ (n : ℕ). 3 ≤ n → Counts (bg_run n)) after (λ _ h. absurd (omega arith))
      (λ first h.
      let r = (above_same 0 (omega arith)).0 in
      sound (bg_run (above_at w ps k))
      (λ c j b. same_at (k + j) (k + j - w) (omega arith) (omega arith) (above_same j b).1) (λ _. (r, first)))

  color_sound : 3 ≤ equal_at ps k → Counts (color_run (pixel ps k) (equal_at ps k))
  unfolding equal_at pixels_in shown is_bg_run
  color_sound h =
      sound (color_run (pixel ps k) (equal_at ps k))
      (λ c j b. same_at (k + j) k (omega arith) inside (stretch_passes (λ i. same_pixel (pixel ps i) (pixel ps k)) k (most ps k) j b))
      (λ e. apart cc)

  image_sound : Counts (color_image (take (image_at w ps k) (drop k ps)))
  unfolding pixels_in shown is_bg_run
  image_sound =
      let n = image_at w ps k in
      sound (color_image (take n (drop k ps)))
      (λ c j b. sym (get_or-take n (drop k ps) j _ (rw (image-length w ps k inside) at b) ∙ get_or-drop k ps j _)) (λ e. apart cc)

  pub order_sound : Sound w ps k after (order_at w ps k after)
  unfolding order_at order_of start_at
  order_sound =
      by_longer (λ (s : Start). Counts (order_of w ps k s)) (pick after 0 (above_at w ps k)) (equal_at ps k)
      background_sound color_sound image_sound (order-counted w ps k after inside)
