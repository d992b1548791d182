-- A picture's pixels in the buffer that it stands in.
use Rattle.std.specs.Prelude.{List, Bool, ℕ, ◌-◌, ◌*◌, take, drop}
use Rattle.picture.specs.Pixels.{Pixel, pixels_of}
use Rattle.encoding.specs.Encode.{pixel, same_pixel, orders_of, stream_of}
use Rattle.encode.specs.declared.pixels.Pixels.{Pixels}

abbrev pub pixels_in : Pixels → List Pixel
pixels_in p = pixels_of p.bytes p.total p.src.now

-- their stream
abbrev pub stream_in : Pixels → List ℕ
stream_in p = stream_of p.bytes (orders_of p.width (pixels_in p))

-- the bytes of n pixels from pixel k on
abbrev pub bytes_in : Pixels → ℕ → ℕ → List ℕ
bytes_in p k n = take (n * p.bytes) (drop (k * p.bytes) p.src.now)

-- pixel i is the one `row` places back
abbrev pub same_as_back : List Pixel → ℕ → ℕ → Bool
same_as_back ps row i = same_pixel (pixel ps i) (pixel ps (i - row))
