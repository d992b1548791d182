-- The order that the code chooses is the rule's. Assumes nothing.
use mathlib.Core.Path.{◌≡◌, sym, ◌∙◌}
use mathlib.Core.List.{List}
use mathlib.Core.Bool.{Bool}
use Prim.Native.Nat.{ℕ, ◌≤◌, ◌<◌}
use native.Mathlib.Omega.{arith}
use lib.Dec.{leb}
use lib.ListN.{length}
use borrow.Author.Tests.{le-leb, lt-leb}
use Rattle.base.specs.Picks.{pick}
use Rattle.base.proofs.Tests.{pick_same}
use Rattle.picture.specs.Pixels.{Pixel}
use Rattle.encoding.specs.Encode.{none, equal_at, above_at, longer, start_at, image_at, pixels_in, order_at}
use Rattle.encoding.specs.Encode as rule
use Rattle.encoding.proofs.Choices.{image-length}
use Rattle.encoding.proofs.Rest.{order-counted}
use Rattle.encode.specs.declared.order.Kind.{Kind}
use Rattle.encode.specs.declared.order.Kind.TheVariants.{BgRun, ColorRun, ColorImage}
use Rattle.encode.specs.Orders.{OrderAt}

-- no run: both stretches are short
longer-none : (a e : ℕ) → a < 3 → e < 3 → longer a e ≡ none
unfolding longer
longer-none a e h g = rw (lt-leb 3 a h, lt-leb 3 e g) (pick_same (leb e a) none)

-- the code's order is the rule's, and has pixels, no more than a run length tells
pub record Chosen (w : ℕ) (ps : List Pixel) (k : ℕ) (after : Bool) (kind : Kind) (n : ℕ) : Type 0 where
  pub order : OrderAt w ps k after kind n
  pub one : 1 ≤ n
  pub few : n ≤ 65535

-- the stretches a and e that the code found
module _ (w : ℕ) (ps : List Pixel) (k : ℕ) (inside : k < length ps) (after : Bool) (a e : ℕ) (above : a ≡ pick after 0 (above_at w ps k)) (equal : e ≡ equal_at ps k) where
  chosen : (kind : Kind) (n : ℕ) → OrderAt w ps k after kind n → Chosen w ps k after kind n
  chosen kind n is =
      let c = order-counted w ps k after inside in
      record { order = is; one = omega (arith, is.count, c.one); few = omega (arith, is.count, c.few) }

  pub chosen_background : 3 ≤ a → e ≤ a → Chosen w ps k after BgRun a
  unfolding order_at start_at longer rule.order_of pixels_in
  chosen_background h g =
      chosen BgRun a
      (record { is = rw (← above, ← equal, le-leb e a g, le-leb 3 a h); count = rw (← above, ← equal, le-leb e a g, le-leb 3 a h) })

  pub chosen_color : 3 ≤ e → a < e → Chosen w ps k after ColorRun e
  unfolding order_at start_at longer rule.order_of pixels_in
  chosen_color h g =
      chosen ColorRun e
      (record { is = rw (← above, ← equal, lt-leb e a g, le-leb 3 e h); count = rw (← above, ← equal, lt-leb e a g, le-leb 3 e h) })

  pub chosen_image : a < 3 → e < 3 → (n : ℕ) → n ≡ image_at w ps k → Chosen w ps k after ColorImage n
  unfolding order_at start_at rule.order_of pixels_in
  chosen_image h g n i =
      chosen ColorImage n
      (record {
        is = rw (← above, ← equal, longer-none a e h g, i);
        count = rw (← above, ← equal, longer-none a e h g) (i ∙ sym (image-length w ps k inside));
      })
