-- The stream from a pixel on: one order and then the rest. Assumes nothing.
use mathlib.Core.Path.{◌≡◌, refl, ap, sym}
use mathlib.Core.List.{List, [], ◌∷◌, ◌++◌}
use mathlib.Core.Bool.{Bool, false}
use Prim.Native.Nat.{ℕ, zero, suc, ◌+◌, ◌-◌, ◌≤◌, ◌<◌}
use native.Mathlib.Nat.{sub-zero}
use native.Mathlib.Omega.{arith}
use lib.ListN.{length}
use borrow.Author.Tests.{le-ltb, lt-ltb}
use Rattle.base.proofs.Tests.{by_less}
use Rattle.picture.specs.Pixels.{Pixel}
use Rattle.encoding.specs.Encode.{most, Start, start_at, Order, pixels_in, is_bg_run, order_of, order_at, orders_from, orders_of, order_bytes, stream_of}
use Rattle.encoding.proofs.Choices.{Chosen, as_background, as_color, as_none, start_chosen, image-one, image_le, image-length}

pub record Counted (most n : ℕ) : Type 0 where
  pub one : 1 ≤ n
  pub few : n ≤ most

module _ (w : ℕ) (ps : List Pixel) where
  -- an order has at least one pixel, and fits
  pub order-counted : (k : ℕ) (after : Bool) → k < length ps → Counted (most ps k) (pixels_in (order_at w ps k after))
  unfolding order_at order_of pixels_in
  order-counted k after inside = go (start_at w ps k after) (start_chosen w ps k after)
    where
      go : (t : Start) → Chosen (most ps k) t → Counted (most ps k) (pixels_in (order_of w ps k t))
      go t (as_background a b) = record { one = omega arith; few = b }
      go t (as_color a b) = record { one = omega arith; few = b }
      go t as_none = rw (image-length w ps k inside) (record { one = image-one w ps k; few = image_le w ps k inside })

  orders-done : (n k : ℕ) (after : Bool) → length ps ≤ k → orders_from w ps n k after ≡ []
  unfolding orders_from
  orders-done zero k after h = refl
  orders-done (suc n) k after h = rw (le-ltb k (length ps) h)

  -- as many orders as pixels are enough
  orders-enough : (m n k : ℕ) (after : Bool) → length ps ≤ k + m → length ps ≤ k + n → orders_from w ps m k after ≡ orders_from w ps n k after
  unfolding orders_from
  orders-enough zero n k after a b = sym (orders-done n k after (omega arith))
  orders-enough (suc m) zero k after a b = orders-done (suc m) k after (omega arith)
  orders-enough (suc m) (suc n) k after a b =
      by_less k (length ps)
      (λ h.
      let o = order_at w ps k after in
      let c = order-counted k after h in
      rw (lt-ltb k (length ps) h)
      (ap (λ (os : List Order). o ∷ os) (orders-enough m n (k + pixels_in o) (is_bg_run o) (omega (arith, c.one)) (omega (arith, c.one)))))
      (λ h. rw (le-ltb k (length ps) h))

  module _ (D : ℕ) where
    -- the stream from pixel k on, directly after a background run or not
    unfoldable pub rest : ℕ → Bool → List ℕ
    rest k after = stream_of D (orders_from w ps (length ps - k) k after)

    pub rest_all : rest 0 false ≡ stream_of D (orders_of w ps)
    unfolding rest orders_of
    rest_all = rw sub-zero

    pub rest_end : (k : ℕ) (after : Bool) → length ps ≤ k → rest k after ≡ []
    unfolding rest stream_of
    rest_end k after h = rw (orders-done (length ps - k) k after h)

    pub rest_more : (k : ℕ) (after : Bool) → k < length ps
        → rest k after ≡ order_bytes D (order_at w ps k after) ++ rest (k + pixels_in (order_at w ps k after)) (is_bg_run (order_at w ps k after))
    unfolding rest stream_of orders_from
    rest_more k after h =
        let o = order_at w ps k after in
        let n : length ps - k ≡ suc (length ps - k - 1) = omega arith in
        let c = order-counted k after h in
        rw (n, lt-ltb k (length ps) h)
        (ap (λ (os : List Order). order_bytes D o ++ stream_of D os)
        (orders-enough (length ps - k - 1) (length ps - (k + pixels_in o)) (k + pixels_in o) (is_bg_run o) (omega (arith, c.one)) (omega arith)))
