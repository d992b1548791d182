-- What can be said of a picture before its stream: the depth table, the sizes, and refusals 1 to 4.
use Rattle.std.specs.Prelude.{List, [], ◌∷◌, Bool, false, ℕ, ◌*◌, ltb, leb, eqb, get_or}
use Rattle.base.specs.Picks.{pick}
use Rattle.picture.specs.Pixels.{Pixel}

-- a refusal's number and its two values
--   1 bpp not in the depth table (bpp), 2 width or height 0, 3 width or height above 8,192 (width, height),
--   4 target or pixel buffer too short (bytes needed, given), 5 the header is no order, 6 stream too short (bytes expected, left),
--   7 order longer than the picture (picture bytes left, bytes required), 8 a two-byte length of 0
pub record Refusal : Type 0 where
  pub number : ℕ
  pub first : ℕ
  pub second : ℕ

abbrev pub refusal : ℕ → ℕ → ℕ → Refusal
refusal n a b = record { number = n; first = a; second = b }

-- a row of the depth table: bytes of a pixel, white, black, and the format's number, which is the bits per pixel
pub record Depth : Type 0 where
  pub bytes : ℕ
  pub white : Pixel
  pub black : Pixel
  pub format : ℕ

unfoldable pub depths : List Depth
depths =
    record { bytes = 1; white = 0xFF ∷ 0 ∷ 0 ∷ []; black = 0 ∷ 0 ∷ 0 ∷ []; format = 8 }
    ∷ record { bytes = 2; white = 0xFF ∷ 0x7F ∷ 0 ∷ []; black = 0 ∷ 0 ∷ 0 ∷ []; format = 15 }
    ∷ record { bytes = 2; white = 0xFF ∷ 0xFF ∷ 0 ∷ []; black = 0 ∷ 0 ∷ 0 ∷ []; format = 16 }
    ∷ record { bytes = 3; white = 0xFF ∷ 0xFF ∷ 0xFF ∷ []; black = 0 ∷ 0 ∷ 0 ∷ []; format = 24 }
    ∷ []

unfoldable pub no_depth : Depth
no_depth = record { bytes = 0; white = 0 ∷ 0 ∷ 0 ∷ []; black = 0 ∷ 0 ∷ 0 ∷ []; format = 0 }

-- the place of a depth in the table; 4: it has none
unfoldable pub depth_index : ℕ → ℕ
depth_index bpp = pick (eqb bpp 8) 0 (pick (eqb bpp 15) 1 (pick (eqb bpp 16) 2 (pick (eqb bpp 24) 3 4)))

unfoldable pub depth_of : ℕ → Depth
depth_of bpp = get_or depths (depth_index bpp) no_depth

-- what a picture's orders go by: bytes of a pixel, white, black, the picture's width and its pixels
pub record Frame : Type 0 where
  pub bytes : ℕ
  pub white : Pixel
  pub black : Pixel
  pub width : ℕ
  pub total : ℕ

-- a refusal before the stream, or the frame with the format's number
pub data Checked : Type 0 where
  refused : Refusal → Checked
  accepted : Frame → ℕ → Checked

unfoldable pub accept : Depth → ℕ → ℕ → Checked
accept d w h = accepted (record { bytes = d.bytes; white = d.white; black = d.black; width = w; total = w * h }) d.format

-- refusals 1 to 3
unfoldable pub checked : ℕ → ℕ → ℕ → Checked
checked bpp w h =
    pick (leb 4 (depth_index bpp)) (refused (refusal 1 bpp 0))
    (pick (eqb w 0) (refused (refusal 2 0 0))
    (pick (eqb h 0) (refused (refusal 2 0 0))
    (pick (ltb 8192 w) (refused (refusal 3 w h))
    (pick (ltb 8192 h) (refused (refusal 3 w h)) (accept (depth_of bpp) w h)))))

-- refusal 4, for a target or pixel buffer of `given` bytes
unfoldable pub with_space : ℕ → Checked → Checked
with_space given (refused r) = refused r
with_space given (accepted f k) =
    pick (ltb given (f.total * f.bytes)) (refused (refusal 4 (f.total * f.bytes) given)) (accepted f k)

-- a picture's bytes, or refusal 1, 2 or 3
pub data Size : Type 0 where
  bytes : ℕ → Size
  refused : Refusal → Size

unfoldable pub size_of : Checked → Size
size_of (refused r) = refused r
size_of (accepted f k) = bytes (f.total * f.bytes)

-- a slice of `given` bytes has space for the whole picture
unfoldable pub has_space : ℕ → Size → Bool
has_space given (refused r) = false
has_space given (bytes n) = leb n given
