-- Streams with the records of their completed orders: the definition, run on each of them. Written as rows of stream and records; a record
-- as header, place, kind, run length, pixels, whether in the first row, whether with an inserted pixel.
use Rattle.std.specs.Prelude.{◌≡◌, refl, Bool, true, false, List, [], ◌∷◌, map, ℕ}
use Rattle.picture.specs.Pixels
use Rattle.picture.specs.Sizes
use Rattle.definition.specs.Orders
use Rattle.definition.specs.Orders.{Kind, BgRun, FgRun, FgBgImage, ColorRun, ColorImage, SetFgRun, SetFgBgImage, DitheredRun, SpecialFgBg2, White, Black, Place, nowhere, in_header, in_byte, in_two_bytes}
use Rattle.definition.specs.Decode
use Rattle.definition.specs.Records
use Rattle.definition.specs.Records.{Record, records}

pub record Example : Type 0 where
  pub bpp : ℕ
  pub stream : List ℕ
  pub orders : List Record

abbrev order : ℕ → Place → Kind → ℕ → ℕ → Bool → Bool → Record
order header place kind n pixels first inserted =
    record { header = header; place = place; kind = kind; run_length = n; pixels = pixels; first_row = first; inserted = inserted }

-- bpp 8
abbrev example : List ℕ → List Record → Example
example stream orders = record { bpp = 8; stream = stream; orders = orders }

-- pictures of width 4, height 4
unfoldable pub examples : List Example
examples =
    example [] []
    -- a background run directly after another starts with an inserted pixel, but not where the first row ends between them
    ∷ example (0x02 ∷ 0x02 ∷ []) (order 0x02 in_header BgRun 2 2 true false ∷ order 0x02 in_header BgRun 2 2 true true ∷ [])
    ∷ example (0x04 ∷ 0x01 ∷ 0x01 ∷ [])
    (order 0x04 in_header BgRun 4 4 true false ∷ order 0x01 in_header BgRun 1 1 false false ∷ order 0x01 in_header BgRun 1 1 false true ∷ [])
    -- and no other order does
    ∷ example (0x02 ∷ 0x21 ∷ []) (order 0x02 in_header BgRun 2 2 true false ∷ order 0x21 in_header FgRun 1 1 true false ∷ [])
    -- an order that begins in the first row stays in it
    ∷ example (0x26 ∷ 0x22 ∷ []) (order 0x26 in_header FgRun 6 6 true false ∷ order 0x22 in_header FgRun 2 2 false false ∷ [])
    -- lengths in the byte after the header, and in two
    ∷ example (0x40 ∷ 0x07 ∷ 0x05 ∷ []) (order 0x40 in_byte FgBgImage 8 8 true false ∷ [])
    ∷ example (0xF3 ∷ 0x05 ∷ 0x00 ∷ 0x0A ∷ []) (order 0xF3 in_two_bytes ColorRun 5 5 true false ∷ [])
    ∷ example (0xF7 ∷ 0x09 ∷ 0x00 ∷ 0x0A ∷ 0x01 ∷ 0x02 ∷ []) (order 0xF7 in_two_bytes SetFgBgImage 9 9 true false ∷ [])
    -- a dithered run's length counts pairs
    ∷ example (0xE2 ∷ 0x0A ∷ 0x0B ∷ 0xC1 ∷ 0x0C ∷ []) (order 0xE2 in_header DitheredRun 2 4 true false ∷ order 0xC1 in_header SetFgRun 1 1 false false ∷ [])
    ∷ example (0x82 ∷ 0x0A ∷ 0x0B ∷ 0xFD ∷ 0xFE ∷ 0xFA ∷ [])
    (order 0x82 in_header ColorImage 2 2 true false ∷ order 0xFD nowhere White 1 1 true false ∷ order 0xFE nowhere Black 1 1 true false
    ∷ order 0xFA nowhere SpecialFgBg2 8 8 false false
    ∷ [])
    -- no order, and an fg/bg image that is cut short: its 8 pixels stay, but it is none
    ∷ example (0x24 ∷ 0xA0 ∷ []) (order 0x24 in_header FgRun 4 4 true false ∷ [])
    ∷ example (0x24 ∷ 0x40 ∷ 0x0B ∷ 0x81 ∷ []) (order 0x24 in_header FgRun 4 4 true false ∷ [])
    -- a refused depth
    ∷ record { bpp = 9; stream = 0x24 ∷ []; orders = [] }
    ∷ []

unfoldable pub recorded : Example → Example
recorded e = record { bpp = e.bpp; stream = e.stream; orders = records e.stream e.bpp 4 4 }

pub examples-recorded : map recorded examples ≡ examples
unfolding examples recorded
    Records.unless_end
    Records.then_orders
    Records.orders_from
    Records.run_length_in
    Records.record_by
    Records.record_of
    Records.records_in
    Records.records
    Pixels.first_pixel
    Pixels.pixel_at
    Pixels.xor_pixel
    Orders.row
    Orders.rows
    Orders.no_row
    Orders.is_mega_mega
    Orders.has_header
    Orders.row_in
    Orders.row_of
    Orders.place_in
    Orders.place_of
    Orders.with_bytes
    Orders.mega_length
    Orders.mega_mega_length
    Orders.own_length
    Orders.mega_of
    Orders.length_at
    Orders.length_of
    Orders.headed
    Orders.head_of
    Decode.pixel_above
    Decode.color
    Decode.paint
    Decode.start
    Decode.with_left
    Decode.with_foreground
    Decode.with_painted
    Decode.completed
    Decode.fg_ink
    Decode.bg_ink
    Decode.insert_ink
    Decode.mask_ink
    Decode.dither_ink
    Decode.room
    Decode.too_large
    Decode.too_short
    Decode.need_bytes
    Decode.paint_order
    Decode.bg_run
    Decode.fg_run
    Decode.set_foreground
    Decode.set_fg_run
    Decode.color_run
    Decode.dithered_run
    Decode.color_image
    Decode.special_fg_bg
    Decode.one_mask
    Decode.and_then
    Decode.masks
    Decode.fg_bg_image
    Decode.set_fg_bg_image
    Decode.order_of
    Decode.order_from
    Decode.end_first_row
    Decode.step
    Sizes.depths
    Sizes.no_depth
    Sizes.depth_index
    Sizes.depth_of
    Sizes.accept
    Sizes.checked
examples-recorded = refl
