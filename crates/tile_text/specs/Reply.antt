-- What `reply` promises for every state of a parser, also one that no text reaches: the printed answer, and what the two lent arrays
-- hold afterwards. `proofs/Inverse.antt` shows that after a whole text this is the answer to the text.
use Rattle.std.specs.Prelude.{◌≡◌, List, ◌++◌, ℕ, ◌*◌, ◌≤◌, length, take, drop}
use Rattle.picture.specs.Pixels.{bytes_of}
use Rattle.picture.specs.Sizes.{checked, size_of}
use Rattle.definition.specs.Decode.{Result, result}
use Rattle.tile_text.specs.Answer.{bad_tile_text, limited, lines_of, Answers}
use Rattle.tile_text.specs.declared.parser.Line.{Line}
use Rattle.tile_text.specs.declared.parser.Line.TheVariants.{Whole}
use Rattle.tile_text.specs.declared.parser.Parser.{Parser}

-- the decoder's answer to the numbers and the stream that a parser has
unfoldable pub decoded : Parser → Result
decoded p = result (take p.stream.count p.stream.bytes) p.bpp p.width p.height

-- a parser that hasn't read a whole text is refused with 9
unfoldable pub reply_on : Line → Result → Result
reply_on Whole e = e
reply_on _ e = bad_tile_text

unfoldable pub reply_of : Parser → Result
reply_of p = reply_on p.line (limited (size_of (checked p.bpp p.width p.height)) p.stream.count (decoded p))

-- `written` bytes from the first on are the answer's lines, and the rest of the array is kept; the target holds the painted bytes, and
-- then what it held
pub record Replies (e : Result) (before after outBefore outAfter : List ℕ) (written : ℕ) : Type 0 where
  pub count : written ≡ length (lines_of e)
  pub fits : written ≤ 131328
  pub out : outAfter ≡ lines_of e ++ drop (length (lines_of e)) outBefore
  pub target : after ≡ bytes_of e.bytes e.painted ++ drop (length e.painted * e.bytes) before

-- the answer to a whole text is written
pub record RepliesTo (text before after outBefore outAfter : List ℕ) (written : ℕ) : Type 0 where
  pub result : Result
  pub answers : Answers text result
  pub replies : Replies result before after outBefore outAfter written
