-- Same picture: both arguments are valid; widths, heights, pixel counts and bits per pixel agree; and so do the stored bytes and the
-- colors of all painted pixels.
use Rattle.std.specs.Prelude.{◌≡◌, List, Bool, true, ℕ, zero, suc, ◌*◌, ◌<◌, eqb, leb, length, get_or}
use Rattle.picture.specs.Pixels.{pixel_at}
use Rattle.picture.specs.Sizes.{depth_of, checked, size_of, has_space}
use Rattle.color.specs.declared.same.Shape.{Shape}
use Rattle.color.specs.Colors.{Triple, both, same_triple, color_of, palette_fits}

-- a picture of which the first `pixels` pixels are painted
pub record Picture : Type 0 where
  pub slice : List ℕ
  pub pixels : ℕ
  pub width : ℕ
  pub height : ℕ
  pub bpp : ℕ

abbrev pub picture : List ℕ → ℕ → ℕ → ℕ → ℕ → Picture
picture xs pixels width height bpp = record { slice = xs; pixels = pixels; width = width; height = height; bpp = bpp }

-- the picture of a slice and the code's numbers
abbrev pub picture_of : List ℕ → Shape → Picture
picture_of xs s = picture xs s.pixels s.width s.height s.bpp

-- depth and sizes are good, the slice has space for the whole picture, the count is not above its pixels, and the palette has its entries
unfoldable pub valid : List ℕ → Picture → Bool
valid palette p =
    both (has_space (length p.slice) (size_of (checked p.bpp p.width p.height)))
    (both (leb p.pixels (p.width * p.height)) (palette_fits p.bpp palette))

-- the color of pixel k
unfoldable pub color_at : List ℕ → Picture → ℕ → Triple
color_at palette p k = color_of palette p.bpp (pixel_at (depth_of p.bpp).bytes p.slice k)

-- the test holds of every number below n
unfoldable pub every_below : ℕ → (ℕ → Bool) → Bool
every_below zero test = true
every_below (suc n) test = both (every_below n test) (test n)

-- the first n pixels have the same colors
unfoldable pub same_colors : List ℕ → Picture → Picture → ℕ → Bool
same_colors palette a b n = every_below n (λ k. same_triple (color_at palette a k) (color_at palette b k))

-- the first n bytes are the same
unfoldable pub same_bytes : List ℕ → List ℕ → ℕ → Bool
same_bytes xs ys n = every_below n (λ i. eqb (get_or xs i 0) (get_or ys i 0))

-- the first n pixels are stored alike: with as many bits per pixel, and in the same bytes
unfoldable pub same_stored : Picture → Picture → ℕ → Bool
same_stored a b n = both (eqb a.bpp b.bpp) (same_bytes a.slice b.slice (n * (depth_of a.bpp).bytes))

-- the definition
unfoldable pub same_picture : List ℕ → Picture → Picture → Bool
same_picture palette a b =
    both (valid palette a)
    (both (valid palette b)
    (both (eqb a.width b.width)
    (both (eqb a.height b.height)
    (both (eqb a.pixels b.pixels)
    (both (same_stored a b a.pixels) (same_colors palette a b a.pixels))))))

-- what a yes says (proofs/Meaning.antt: it is yes exactly if this holds, and the colors of painted pixels then agree)
pub record Alike (palette : List ℕ) (a b : Picture) : Type 0 where
  pub first : valid palette a ≡ true
  pub second : valid palette b ≡ true
  pub widths : a.width ≡ b.width
  pub heights : a.height ≡ b.height
  pub counts : a.pixels ≡ b.pixels
  pub depths : a.bpp ≡ b.bpp
  pub bytes : (i : ℕ) → i < a.pixels * (depth_of a.bpp).bytes → get_or a.slice i 0 ≡ get_or b.slice i 0
