-- What encoding a picture into a lent output comes to, with its refusals.
use Rattle.std.specs.Prelude.{List, ◌++◌, ℕ, leb, length, drop}
use Rattle.base.specs.Picks.{pick}
use Rattle.picture.specs.Sizes.{Refusal, refusal, Checked, accepted, checked, with_space}
use Rattle.encoding.specs.Encode.{encode}

-- a stream, or a refusal: 1 to 4 as in decoding, where 4 tells the pixel buffer's bytes (needed, given), or 14, the stream is longer
-- than the output
pub data Compressed : Type 0 where
  stream : List ℕ → Compressed
  refused : Refusal → Compressed

-- the stream s in an output of `given` bytes
unfoldable pub in_output : ℕ → List ℕ → Compressed
in_output given s = pick (leb (length s) given) (stream s) (refused (refusal 14 0 0))

unfoldable pub of_checked : ℕ → List ℕ → Checked → Compressed
of_checked given pixels (Checked.refused r) = refused r
of_checked given pixels (accepted f k) = in_output given (encode f pixels)

-- the picture in the buffer `pixels`, into an output of `given` bytes
unfoldable pub compressed : ℕ → List ℕ → ℕ → ℕ → ℕ → Compressed
compressed given pixels bpp w h = of_checked given pixels (with_space (length pixels) (checked bpp w h))

-- the stream's length, 0 where refused
unfoldable pub length_of : Compressed → ℕ
length_of (stream s) = length s
length_of (refused r) = 0

-- number 0: none
unfoldable pub refusal_of : Compressed → Refusal
refusal_of (stream s) = refusal 0 0 0
refusal_of (refused r) = r

-- the output afterwards: the stream and then what it held, or all that it held
unfoldable pub output : Compressed → List ℕ → List ℕ
output (stream s) before = s ++ drop (length s) before
output (refused r) before = before
