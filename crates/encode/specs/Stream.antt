-- The orders of a picture's stream, one after the other.
use Rattle.std.specs.Prelude.{◌≡◌, ℕ, ◌+◌, ◌<◌}
use Rattle.encode.specs.declared.order.Kind.{Kind}
use Rattle.encode.specs.declared.order.Order.{Order}
use Rattle.encode.specs.declared.orders.Orders.{Orders}
use Rattle.encode.specs.declared.pixels.Pixels.{Pixels}
use Rattle.encode.specs.Pixels.{pixels_in}
use Rattle.encode.specs.Orders.{is_background, OrderAt}

-- the orders of p from pixel k on, after an order of kind c
pub record OrdersFrom (p : Pixels) (k : ℕ) (c : Kind) (s : Orders) : Type 0 where
  pub pixels : s.pixels.now ≡ p
  pub next : s.k ≡ k
  pub before : s.before ≡ c

-- s gives the order o at pixel k, and then is t
pub record OrderTaken (s : Orders) (k : ℕ) (o : Order) (t : Orders) : Type 0 where
  pub inside : k < s.pixels.now.total
  pub place : k ≡ s.k
  pub is : OrderAt s.pixels.now.width (pixels_in s.pixels.now) k (is_background s.before) o.kind o.pixels
  pub rest : OrdersFrom s.pixels.now (k + o.pixels) o.kind t
