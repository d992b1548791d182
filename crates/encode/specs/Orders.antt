-- The code's orders as the definition's.
use Rattle.std.specs.Prelude.{◌≡◌, List, Bool, true, false, ℕ, take, drop}
use Rattle.picture.specs.Pixels.{Pixel}
use Rattle.encoding.specs.Encode.{pixel, Order, bg_run, color_run, color_image, pixels_in, order_at}
use Rattle.encode.specs.declared.order.Kind.{Kind}
use Rattle.encode.specs.declared.order.Kind.TheVariants.{BgRun, ColorRun, ColorImage}

-- the kind's place in the table of orders
abbrev pub kind_number : Kind → ℕ
kind_number BgRun = 0
kind_number ColorRun = 3
kind_number ColorImage = 4

abbrev pub is_background : Kind → Bool
is_background BgRun = true
is_background ColorRun = false
is_background ColorImage = false

-- the order of a kind with n pixels from pixel k on
abbrev pub order_of : List Pixel → ℕ → Kind → ℕ → Order
order_of ps k BgRun n = bg_run n
order_of ps k ColorRun n = color_run (pixel ps k) n
order_of ps k ColorImage n = color_image (take n (drop k ps))

-- how many pixels stand in it
abbrev pub pixels_held : Kind → ℕ → ℕ
pixels_held BgRun n = 0
pixels_held ColorRun n = 1
pixels_held ColorImage n = n

-- the order of this kind with n pixels is the rule's at pixel k
pub record OrderAt (w : ℕ) (ps : List Pixel) (k : ℕ) (after : Bool) (kind : Kind) (n : ℕ) : Type 0 where
  pub is : order_of ps k kind n ≡ order_at w ps k after
  pub count : n ≡ pixels_in (order_at w ps k after)
