-- Pixels, and the bytes that they stand in. A pixel travels as three bytes, low byte first, unused ones zero. D is how many of
-- them a depth uses: so many stand in the stream and in the picture.
use Rattle.std.specs.Prelude.{◌≡◌, List, [], ◌∷◌, ◌++◌, ℕ, zero, suc, ◌*◌, ltb, get_or, take, drop}
use Rattle.std.specs.Int.Bits.{bit_xor}
use Rattle.base.specs.Picks.{pick}

abbrev pub Pixel : Type 0
Pixel = List ℕ

-- the pixel that the bytes xs start with
unfoldable pub first_pixel : ℕ → List ℕ → Pixel
first_pixel D xs = get_or xs 0 0 ∷ pick (ltb 1 D) (get_or xs 1 0) 0 ∷ pick (ltb 2 D) (get_or xs 2 0) 0 ∷ []

-- p is a pixel of D bytes: its unused bytes are zero
abbrev pub OfDepth : ℕ → Pixel → Type 0
OfDepth D p = first_pixel D p ≡ p

-- pixel number k of the bytes xs
unfoldable pub pixel_at : ℕ → List ℕ → ℕ → Pixel
pixel_at D xs k = first_pixel D (drop (k * D) xs)

-- the first n pixels of the bytes xs
unfoldable pub pixels_of : ℕ → ℕ → List ℕ → List Pixel
pixels_of D zero xs = []
pixels_of D (suc n) xs = pixels_of D n xs ++ (pixel_at D xs n ∷ [])

-- the bytes of the pixels ps in order, D each
unfoldable pub bytes_of : ℕ → List Pixel → List ℕ
bytes_of D [] = []
bytes_of D (p ∷ ps) = take D p ++ bytes_of D ps

-- exclusive-or, byte by byte
unfoldable pub xor_pixel : Pixel → Pixel → Pixel
xor_pixel p q = bit_xor (get_or p 0 0) (get_or q 0 0) ∷ bit_xor (get_or p 1 0) (get_or q 1 0) ∷ bit_xor (get_or p 2 0) (get_or q 2 0) ∷ []
