-- The tiles of specs/Tiles.antt: the definition, run on each of them, paints what is written there. Assumes nothing.
use Rattle.std.specs.Prelude.{◌≡◌, refl, List, map, get_or}
use Rattle.std.proofs.Common.{ap}
use Rattle.picture.specs.Pixels
use Rattle.picture.specs.Sizes
use Rattle.definition.specs.Orders
use Rattle.definition.specs.Decode
use Rattle.definition.specs.Tiles.{Tile, two_runs, tiles, painting, decoded}

pub tiles-decoded : map decoded tiles ≡ tiles
unfolding tiles decoded painting
    Pixels.first_pixel
    Pixels.pixel_at
    Pixels.bytes_of
    Pixels.xor_pixel
    Orders.row
    Orders.rows
    Orders.no_row
    Orders.is_mega_mega
    Orders.has_header
    Orders.row_in
    Orders.row_of
    Orders.place_in
    Orders.place_of
    Orders.with_bytes
    Orders.mega_length
    Orders.mega_mega_length
    Orders.own_length
    Orders.mega_of
    Orders.length_at
    Orders.length_of
    Orders.headed
    Orders.head_of
    Decode.pixel_above
    Decode.color
    Decode.paint
    Decode.start
    Decode.with_left
    Decode.with_foreground
    Decode.with_painted
    Decode.completed
    Decode.fg_ink
    Decode.bg_ink
    Decode.insert_ink
    Decode.mask_ink
    Decode.dither_ink
    Decode.room
    Decode.too_large
    Decode.too_short
    Decode.need_bytes
    Decode.paint_order
    Decode.bg_run
    Decode.fg_run
    Decode.set_foreground
    Decode.set_fg_run
    Decode.color_run
    Decode.dithered_run
    Decode.color_image
    Decode.special_fg_bg
    Decode.one_mask
    Decode.and_then
    Decode.masks
    Decode.fg_bg_image
    Decode.set_fg_bg_image
    Decode.order_of
    Decode.order_from
    Decode.end_first_row
    Decode.step
    Decode.at_end
    Decode.then_run
    Decode.run
    Decode.decode
    Sizes.depths
    Sizes.no_depth
    Sizes.depth_index
    Sizes.depth_of
    Sizes.accept
    Sizes.checked
    Decode.result_of
    Decode.of_run
    Decode.of_checked
    Decode.result
tiles-decoded = refl

pub two_runs_decoded : decoded two_runs ≡ two_runs
unfolding tiles
two_runs_decoded = ap (λ (ts : List Tile). get_or ts 1 two_runs) tiles-decoded
