-- Cases of the tile program, computed by the definitions: a whole one, whose bytes are those of the program's files `stdin` and
-- `stdout`, and the name of each format. Assumes nothing.
use Rattle.std.specs.Prelude.{◌≡◌, refl, [], ◌∷◌, map}
use Rattle.std.proofs.Common.{ap}
use Rattle.picture.specs.Sizes as Sizes
use Rattle.definition.specs.Tiles.{Tile, painting, decoded}
use Rattle.definition.proofs.Tiles.{two_runs_decoded}
use Rattle.print.specs.Text.{ascii, line}
use Rattle.print.specs.Digits as Digits
use Rattle.tile_text.specs.Answer as Answer
use Rattle.tile_text.specs.Text.{text_of}
use Rattle.tile_text.specs.Answer.{format_name, answer_of, lines_with, lines_of}

pub case_text : text_of 4 2 8 (2 ∷ 2 ∷ []) ≡ ascii "width=4\nheight=2\nbpp=8\nstream=0202\n"
unfolding ascii text_of line Digits.decimal Digits.decimal_in Digits.hex_pairs Digits.hex_digit
case_text = refl

pub case_lines :
    lines_of (answer_of 4 2 8 (2 ∷ 2 ∷ []))
    ≡ ascii "format=Rgb8\nrefusal=0\nfirst=0\nsecond=0\norders=2\npixels=4\npainted=0000ff00\n"
unfolding ascii answer_of lines_of format_name Answer.format_line Answer.painted_line lines_with Answer.limited line Digits.decimal Digits.decimal_in Digits.hex_pairs Digits.hex_digit Sizes.depths Sizes.depth_index Sizes.depth_of Sizes.accept Sizes.checked Sizes.size_of decoded painting
case_lines = ap (λ (t : Tile). lines_with t.report t.painted) two_runs_decoded

pub case_formats : map format_name (0 ∷ 8 ∷ 15 ∷ 16 ∷ 24 ∷ []) ≡ ascii "none" ∷ ascii "Rgb8" ∷ ascii "Rgb15" ∷ ascii "Rgb16" ∷ ascii "Rgb24" ∷ []
unfolding ascii format_name Digits.decimal Digits.decimal_in
case_formats = refl
