-- The tile text: lines `width=`, `height=`, `bpp=`, `stream=`, in that order, each ended by a line feed, and nothing after. The grammar
-- is given by printing: a text is good exactly if it is `text_of` of some tile, so whatever `text_of` never prints is a departure.
use Rattle.std.specs.Prelude.{List, [], ◌∷◌, ◌++◌, ℕ, ◌<◌}
use Rattle.print.specs.Text.{ascii, line}
use Rattle.print.specs.Digits.{decimal, hex_pairs}

-- the text of a tile: its width, height and depth, and its stream
unfoldable pub text_of : ℕ → ℕ → ℕ → List ℕ → List ℕ
text_of w h b stream =
    line (ascii "width=") (decimal w)
    ++ line (ascii "height=") (decimal h)
    ++ line (ascii "bpp=") (decimal b)
    ++ line (ascii "stream=") (hex_pairs stream)

-- each is a byte
unfoldable pub Bytes : List ℕ → Type 0
Bytes [] = Unit {0}
Bytes (x ∷ xs) = (x < 256) × Bytes xs

-- numbers of 1 to 8 digits, and a stream of bytes
pub record Tile (w h b : ℕ) (stream : List ℕ) : Type 0 where
  pub width : w < 100_000_000
  pub height : h < 100_000_000
  pub bpp : b < 100_000_000
  pub bytes : Bytes stream
