-- Expansion: one pixel becomes a blue, a green and a red byte, in this order; bytes that the depth does not use are ignored.
-- `expand` gives what `expanded` says, and same picture compares the same colors. The rule of a channel stands in one place,
-- `channel`.
use Rattle.std.specs.Prelude.{List, [], ◌∷◌, Bool, true, false, ℕ, ◌+◌, ◌*◌, ◌/◌, ◌%◌, eqb, leb, length, get_or, Result, Ok, Err}
use Rattle.base.specs.Picks.{pick}
use Rattle.picture.specs.Pixels.{Pixel, pixel_at}
use Rattle.picture.specs.Sizes.{Refusal, refusal, depth_index}
use Rattle.picture.specs.Outcomes.{refusal_of}
use Rattle.picture.specs.declared.outcome.RleError.{RleError}

-- blue, green, red
abbrev pub Triple : Type 0
Triple = List ℕ

abbrev pub both : Bool → Bool → Bool
both a b = pick a b false

-- whether two triples are equal, byte by byte
unfoldable pub same_triple : Triple → Triple → Bool
same_triple s t =
    both (eqb (get_or s 0 0) (get_or t 0 0)) (both (eqb (get_or s 1 0) (get_or t 1 0)) (eqb (get_or s 2 0) (get_or t 2 0)))

-- a channel as a byte, by how many values n it has: 32 where it has five bits, else 64, six bits. The low bits repeat the high ones
unfoldable pub channel : ℕ → ℕ → ℕ
channel n c = pick (eqb n 32) (8 * c + c / 4) (4 * c + c / 16)

-- the number that a pixel of two bytes is
unfoldable pub word : Pixel → ℕ
word p = get_or p 0 0 + 256 * get_or p 1 0

-- a pixel of two bytes: five bits of blue, lowest, then green, which has n values, then five bits of red
unfoldable pub expand_word : ℕ → Pixel → Triple
expand_word n p =
    channel 32 (word p % 32) ∷ channel n (word p / 32 % n) ∷ channel 32 (word p / (32 * n) % 32) ∷ []

-- entry i of a palette: 256 triples as they stand in its first 768 bytes
unfoldable pub entry : List ℕ → ℕ → Triple
entry palette i = pixel_at 3 palette i

-- the color of a pixel, at a depth of the table and with a palette that is long enough: at 15 bits green has 32 values, at 16 it has 64
unfoldable pub color_of : List ℕ → ℕ → Pixel → Triple
color_of palette bpp p =
    pick (eqb bpp 8) (entry palette (get_or p 0 0)) (pick (eqb bpp 15) (expand_word 32 p) (pick (eqb bpp 16) (expand_word 64 p) p))

-- the palette has its 256 entries, where the depth needs one
unfoldable pub palette_fits : ℕ → List ℕ → Bool
palette_fits bpp palette = pick (eqb bpp 8) (leb 768 (length palette)) true

-- what expansion gives: a refusal (number 0: none), and the triple (zeros where refused)
pub record Expansion : Type 0 where
  pub refusal : Refusal
  pub triple : Triple

abbrev pub refusing : Refusal → Expansion
refusing r = record { refusal = r; triple = 0 ∷ 0 ∷ 0 ∷ [] }

abbrev pub giving : Triple → Expansion
giving t = record { refusal = refusal 0 0 0; triple = t }

-- the definition: refusal 1, then 4 for a short palette, then the color
unfoldable pub expanded : List ℕ → ℕ → Pixel → Expansion
expanded palette bpp p =
    pick (leb 4 (depth_index bpp)) (refusing (refusal 1 bpp 0))
    (pick (palette_fits bpp palette) (giving (color_of palette bpp p)) (refusing (refusal 4 768 (length palette))))

-- what the code gives
abbrev pub expansion_in : Result Triple RleError → Expansion
expansion_in (Ok bgr) = giving bgr
expansion_in (Err e) = refusing (refusal_of e)
