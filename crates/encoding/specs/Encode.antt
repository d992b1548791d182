-- Which stream a picture is written as. The picture is one sequence of pixels, row after row; the rule takes it from left to right.
use Rattle.std.specs.Prelude.{List, [], ◌∷◌, ◌++◌, Bool, true, false, ℕ, zero, suc, ◌+◌, ◌-◌, min, ltb, leb, eqb, length, get_or, take, drop}
use Rattle.base.specs.Picks.{pick}
use Rattle.picture.specs.Pixels.{Pixel, pixels_of, bytes_of}
use Rattle.picture.specs.Sizes.{Frame}
use Rattle.definition.specs.Codes.{kind_row}
use Rattle.encoding.specs.Heads.{head_bytes}

-- ---- stretches

-- how many places from k on pass before one does not, n at the most
unfoldable pub stretch : (ℕ → Bool) → ℕ → ℕ → ℕ
stretch passes k zero = 0
stretch passes k (suc n) = let more = suc (stretch passes (suc k) n) in pick (passes k) more 0

abbrev pub pixel : List Pixel → ℕ → Pixel
pixel ps i = get_or ps i (0 ∷ 0 ∷ 0 ∷ [])

-- pixels are compared by their stored bytes; those not stored are zero in both
unfoldable pub same_pixel : Pixel → Pixel → Bool
same_pixel p q =
    pick (eqb (get_or p 0 0) (get_or q 0 0)) (pick (eqb (get_or p 1 0) (get_or q 1 0)) (eqb (get_or p 2 0) (get_or q 2 0)) false) false

-- an order from pixel k on has so many pixels at the most: it stops at 65,535, and at the picture's end
abbrev pub most : List Pixel → ℕ → ℕ
most ps k = min 65535 (length ps - k)

-- the pixels from k on that equal pixel k
unfoldable pub equal_at : List Pixel → ℕ → ℕ
equal_at ps k = stretch (λ i. same_pixel (pixel ps i) (pixel ps k)) k (most ps k)

-- the pixels from k on that equal those above them, in rows of w pixels; row 0 has none above it
unfoldable pub above_at : ℕ → List Pixel → ℕ → ℕ
above_at w ps k = pick (leb w k) (stretch (λ i. same_pixel (pixel ps i) (pixel ps (i - w))) k (most ps k)) 0

-- ---- from pixels to orders

-- the run that starts at a pixel, and its pixels
pub data Start : Type 0 where
  background : ℕ → Start
  color : ℕ → Start
  none : Start

-- the longer stretch, background on a tie, where it has at least 3 pixels
unfoldable pub longer : ℕ → ℕ → Start
longer above equal = pick (leb equal above) (pick (leb 3 above) (background above) none) (pick (leb 3 equal) (color equal) none)

-- the run that starts at pixel k; directly after a background run there is no other
unfoldable pub start_at : ℕ → List Pixel → ℕ → Bool → Start
start_at w ps k after = longer (pick after 0 (above_at w ps k)) (equal_at ps k)

unfoldable pub is_none : Start → Bool
is_none (background n) = false
is_none (color n) = false
is_none none = true

-- the pixels of an image from pixel k on: that one, and those after it at which no run starts. An image pixel stands before these, so
-- none directly follows a background run
unfoldable pub image_at : ℕ → List Pixel → ℕ → ℕ
image_at w ps k = suc (stretch (λ i. is_none (start_at w ps i false)) (suc k) (most ps k - 1))

pub data Order : Type 0 where
  bg_run : ℕ → Order
  color_run : Pixel → ℕ → Order
  color_image : List Pixel → Order

unfoldable pub pixels_in : Order → ℕ
pixels_in (bg_run n) = n
pixels_in (color_run p n) = n
pixels_in (color_image qs) = length qs

unfoldable pub is_bg_run : Order → Bool
is_bg_run (bg_run n) = true
is_bg_run (color_run p n) = false
is_bg_run (color_image qs) = false

unfoldable pub order_of : ℕ → List Pixel → ℕ → Start → Order
order_of w ps k (background n) = bg_run n
order_of w ps k (color n) = color_run (pixel ps k) n
order_of w ps k none = color_image (take (image_at w ps k) (drop k ps))

-- the order at pixel k, directly after a background run or not
unfoldable pub order_at : ℕ → List Pixel → ℕ → Bool → Order
order_at w ps k after = order_of w ps k (start_at w ps k after)

-- the orders from pixel k on, n at the most
unfoldable pub orders_from : ℕ → List Pixel → ℕ → ℕ → Bool → List Order
orders_from w ps zero k after = []
orders_from w ps (suc n) k after =
    let o = order_at w ps k after in
    let more = o ∷ orders_from w ps n (k + pixels_in o) (is_bg_run o) in
    pick (ltb k (length ps)) more []

-- all orders: each has at least one pixel, so there are at most as many as pixels
unfoldable pub orders_of : ℕ → List Pixel → List Order
orders_of w ps = orders_from w ps (length ps) 0 false

-- ---- from orders to bytes

-- the rows of background runs, color runs and color images have the places 0, 3 and 4 in the table; D bytes for each pixel
unfoldable pub order_bytes : ℕ → Order → List ℕ
order_bytes D (bg_run n) = head_bytes (kind_row 0) n
order_bytes D (color_run p n) = head_bytes (kind_row 3) n ++ take D p
order_bytes D (color_image qs) = head_bytes (kind_row 4) (length qs) ++ bytes_of D qs

unfoldable pub stream_of : ℕ → List Order → List ℕ
stream_of D [] = []
stream_of D (o ∷ os) = order_bytes D o ++ stream_of D os

-- the stream of the picture whose pixels these bytes start with
unfoldable pub encode : Frame → List ℕ → List ℕ
encode f bytes = stream_of f.bytes (orders_of f.width (pixels_of f.bytes f.total bytes))
