-- Laws of a pixel stored in a byte list, for every number of bytes D. Assumes nothing.
use mathlib.Core.Path.{◌≡◌, ap, ◌∙◌}
use mathlib.Core.List.{List, [], ◌∷◌, ◌++◌, append_assoc}
use Prim.Native.Nat.{ℕ, ◌+◌, ◌*◌, ◌≤◌}
use native.Mathlib.Numerals.{add-one, add-two}
use native.Mathlib.Omega.{arith}
use lib.ListN.{length, get_or, take, drop, set, get_or-append}
use lib.Seq.{get_or-take, take_at, drop_at, sets-eq, length-take-le, drop-paste}
use Rattle.picture.specs.Pixels.{Pixel, first_pixel, pixel_at, pixels_of}
use Rattle.picture.proofs.Pixels.{three, first_pixel_cong, pixels_cong}
use Rattle.rle.specs.Stored.{store_pixel}

-- ---- a pixel is stored

module _ (xs p : List ℕ) (at D : ℕ) where
  pub store_1 : D ≡ 1 → length p ≡ 3 → at + D ≤ length xs → set xs at (get_or p 0 0) ≡ store_pixel D xs at p
  unfolding store_pixel
  store_1 e l h = rw (e, ap (λ (q : Pixel). take 1 q) (three p l)) (sets-eq (get_or p 0 0 ∷ []) xs at (omega arith))

  pub store_2 : D ≡ 2 → length p ≡ 3 → at + D ≤ length xs → set (set xs at (get_or p 0 0)) (at + 1) (get_or p 1 0) ≡ store_pixel D xs at p
  unfolding store_pixel
  store_2 e l h = rw (e, ap (λ (q : Pixel). take 2 q) (three p l), add-one at) (sets-eq (get_or p 0 0 ∷ get_or p 1 0 ∷ []) xs at (omega arith))

  pub store_3 : D ≡ 3 → length p ≡ 3 → at + D ≤ length xs → set (set (set xs at (get_or p 0 0)) (at + 1) (get_or p 1 0)) (at + 2) (get_or p 2 0) ≡ store_pixel D xs at p
  unfolding store_pixel
  store_3 e l h = rw (e, ap (λ (q : Pixel). take 3 q) (three p l), add-one at, add-two at) (sets-eq (get_or p 0 0 ∷ get_or p 1 0 ∷ get_or p 2 0 ∷ []) xs at (omega arith))

-- what a store of the pixel q as pixel k does
module _ (D k : ℕ) (xs q : List ℕ) (low : 1 ≤ D) (fits : k * D + D ≤ length xs) (enough : D ≤ length q) where
  store_take : take (k * D) (store_pixel D xs (k * D) q) ≡ take (k * D) xs
  unfolding store_pixel
  store_take =
      rw append_assoc
      (take_at (take (k * D) xs) (take D q ++ drop (k * D + D) xs) (k * D) (length-take-le (k * D) xs (omega arith)))

  pub store_before : pixels_of D k (store_pixel D xs (k * D) q) ≡ pixels_of D k xs
  store_before = pixels_cong D k (store_pixel D xs (k * D) q) xs low store_take

  pub store_there : pixel_at D (store_pixel D xs (k * D) q) k ≡ first_pixel D q
  unfolding store_pixel pixel_at
  store_there =
      rw (append_assoc, drop_at (take (k * D) xs) (take D q ++ drop (k * D + D) xs) (k * D) (length-take-le (k * D) xs (omega arith)))
      (first_pixel_cong D (take D q ++ drop (k * D + D) xs) q low
      (λ i b.
      get_or-append (take D q) (drop (k * D + D) xs) 0 i (rw (length-take-le D q enough) b)
      ∙ get_or-take D q i 0 b))

  pub store_after : drop (k * D + D) (store_pixel D xs (k * D) q) ≡ drop (k * D + D) xs
  unfolding store_pixel
  store_after = drop-paste xs (k * D) q D (omega arith) enough
