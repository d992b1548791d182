-- The answer to a tile text: which text is refused with 9, which tile with 10, what the decoder answers to the others, and the seven
-- lines in which that is printed. `Answers` is what the program is for: a text that is some tile's has that tile's answer, and one that
-- is no tile's is refused.
use Rattle.std.specs.Prelude.{◌≡◌, List, [], ◌++◌, ℕ, ltb, eqb, length}
use Rattle.base.specs.Picks.{pick}
use Rattle.picture.specs.Pixels.{bytes_of}
use Rattle.picture.specs.Sizes.{Refusal, refusal, checked, Size, bytes, refused, size_of}
use Rattle.definition.specs.Decode.{Result, result, Summary, summary_of}
use Rattle.print.specs.Text.{ascii, line}
use Rattle.print.specs.Digits.{decimal, hex_pairs}
use Rattle.tile_text.specs.Text.{text_of, Tile}

-- a refusal that decodes nothing: the counts are 0, and no byte is painted
unfoldable pub refused_with : Refusal → Result
refused_with r = record { refusal = r; format = 0; bytes = 0; painted = []; orders = 0 }

-- 9 and 10, whose two numbers are 0
unfoldable pub bad_tile_text : Result
bad_tile_text = refused_with (refusal 9 0 0)

unfoldable pub tile_too_large : Result
tile_too_large = refused_with (refusal 10 0 0)

-- the decoder's 1 to 3 stay; then 10 where the picture is over 65,536 bytes or the stream over 8,192; else what decoding gives
unfoldable pub limited : Size → ℕ → Result → Result
limited (refused r) streamBytes e = e
limited (bytes n) streamBytes e = pick (ltb 65536 n) tile_too_large (pick (ltb 8192 streamBytes) tile_too_large e)

-- the answer to a tile
unfoldable pub answer_of : ℕ → ℕ → ℕ → List ℕ → Result
answer_of w h b stream = limited (size_of (checked b w h)) (length stream) (result stream b w h)

-- ---- the seven lines

-- `Rgb` and the bits of a pixel, as in `Rgb8`; on a refusal, where the format is 0, `none`
unfoldable pub format_name : ℕ → List ℕ
format_name k = pick (eqb k 0) (ascii "none") (ascii "Rgb" ++ decimal k)

unfoldable pub format_line : ℕ → List ℕ
format_line k = line (ascii "format=") (format_name k)

unfoldable pub painted_line : List ℕ → List ℕ
painted_line xs = line (ascii "painted=") (hex_pairs xs)

-- the lines of a report, and of the painted bytes
unfoldable pub lines_with : Summary → List ℕ → List ℕ
lines_with s painted =
    format_line s.format
    ++ line (ascii "refusal=") (decimal s.refusal.number)
    ++ line (ascii "first=") (decimal s.refusal.first)
    ++ line (ascii "second=") (decimal s.refusal.second)
    ++ line (ascii "orders=") (decimal s.orders)
    ++ line (ascii "pixels=") (decimal s.pixels)
    ++ painted_line painted

unfoldable pub lines_of : Result → List ℕ
lines_of e = lines_with (summary_of e) (bytes_of e.bytes e.painted)

-- ---- the answer to a text

-- a text that is some tile's has that tile's answer; one that is no tile's is refused with 9. A text has one answer: `answer_unique`,
-- proofs/Unique.antt
pub data Answers (text : List ℕ) (e : Result) : Type 0 where
  tile : (w h b : ℕ) (stream : List ℕ) → Tile w h b stream → text ≡ text_of w h b stream → e ≡ answer_of w h b stream → Answers text e
  no_tile : ((w h b : ℕ) (stream : List ℕ) → Tile w h b stream → text ≡ text_of w h b stream → ⊥) → e ≡ bad_tile_text → Answers text e
