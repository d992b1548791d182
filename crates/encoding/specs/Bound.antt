-- The longest stream that any picture of so many pixels is written as.
use Rattle.std.specs.Prelude.{ℕ, ◌+◌, ◌*◌, ◌/◌, ◌%◌, leb, eqb}
use Rattle.base.specs.Picks.{pick}
use Rattle.picture.specs.Sizes.{Checked, refused, accepted, checked}

-- bytes of the header and run length of an order of n pixels; none for no order
unfoldable pub head_size : ℕ → ℕ
head_size n = pick (eqb n 0) 0 (pick (leb n 31) 1 (pick (leb n 287) 2 3))

-- the most bytes that the stream of n pixels of D bytes has over those of the pixels. With one byte a pixel, an image of 32 pixels
-- has two more and a color run of 3 has one less, so both by turns have one more for each 35 pixels, and the last image one more. With
-- two or three, runs have at least three less, and images alone have the most.
unfoldable pub overhead : ℕ → ℕ → ℕ
overhead D n = pick (eqb D 1) ((n + 3) / 35 + 1) (3 * (n / 65535) + head_size (n % 65535))

unfoldable pub bound_of : Checked → ℕ
bound_of (refused r) = 0
bound_of (accepted f k) = f.total * f.bytes + overhead f.bytes f.total

-- 0 where refusal 1, 2 or 3 comes
unfoldable pub bound : ℕ → ℕ → ℕ → ℕ
bound bpp w h = bound_of (checked bpp w h)
