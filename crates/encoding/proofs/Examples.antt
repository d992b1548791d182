-- The pictures of specs/Examples.antt: the definition, run on each of them, gives what is written there. Assumes nothing.
use Rattle.std.specs.Prelude.{◌≡◌, refl, List, [], ◌∷◌, map, true, false}
use Rattle.picture.specs.Pixels
use Rattle.picture.specs.Pixels.{Pixel, pixels_of}
use Rattle.picture.specs.Sizes
use Rattle.definition.specs.Orders
use Rattle.definition.specs.Codes
use Rattle.encoding.specs.Heads
use Rattle.encoding.specs.Encode
use Rattle.encoding.specs.Encode.{bg_run, color_image, orders_from}
use Rattle.encoding.specs.Bound
use Rattle.encoding.specs.Compress
use Rattle.encoding.specs.Examples.{examples, encoding, encoded}

pub examples-encoded : map encoded examples ≡ examples
unfolding examples encoded encoding
    Pixels.first_pixel
    Pixels.pixel_at
    Pixels.pixels_of
    Pixels.bytes_of
    Sizes.depths
    Sizes.no_depth
    Sizes.depth_index
    Sizes.depth_of
    Sizes.accept
    Sizes.checked
    Sizes.with_space
    Orders.row
    Orders.rows
    Orders.no_row
    Codes.kind_row
    Heads.shortest_in
    Heads.written_as
    Heads.head_bytes
    Encode.stretch
    Encode.same_pixel
    Encode.equal_at
    Encode.above_at
    Encode.longer
    Encode.start_at
    Encode.is_none
    Encode.image_at
    Encode.pixels_in
    Encode.is_bg_run
    Encode.order_of
    Encode.order_at
    Encode.orders_from
    Encode.orders_of
    Encode.order_bytes
    Encode.stream_of
    Encode.encode
    Bound.head_size
    Bound.overhead
    Bound.bound_of
    Bound.bound
    Compress.in_output
    Compress.of_checked
    Compress.compressed
    Compress.length_of
    Compress.refusal_of
    Compress.output
examples-encoded = refl

abbrev two_rows : List Pixel
two_rows = pixels_of 1 8 (0x01 ∷ 0x02 ∷ 0x03 ∷ 0x04 ∷ 0x01 ∷ 0x02 ∷ 0x03 ∷ 0x04 ∷ [])

-- Directly after a background run there is no other, but an image, of which one pixel is enough. Only a run that stops at 65,535
-- pixels leads there: here the rule takes the second of two equal rows, after no background run and after one.
pub after-background : map (orders_from 4 two_rows 4 4) (false ∷ true ∷ [])
    ≡ (bg_run 4 ∷ []) ∷ (color_image ((0x01 ∷ 0x00 ∷ 0x00 ∷ []) ∷ []) ∷ bg_run 3 ∷ []) ∷ []
unfolding examples-encoded
after-background = refl
