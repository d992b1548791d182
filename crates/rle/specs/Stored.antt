-- A pixel that is stored at a place.
use Rattle.std.specs.Prelude.{List, ◌++◌, ℕ, ◌+◌, take, drop}
use Rattle.picture.specs.Pixels.{Pixel}

-- the bytes xs with the D bytes of the pixel p stored from place `at` on
unfoldable pub store_pixel : ℕ → List ℕ → ℕ → Pixel → List ℕ
store_pixel D xs at p = take at xs ++ take D p ++ drop (at + D) xs
