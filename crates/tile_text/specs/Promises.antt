-- What the functions inside the crate promise each other. A caller has to believe none of it: what the public functions promise
-- stands in Parse and Reply.
use Rattle.std.specs.Prelude.{◌≡◌, List, ◌++◌, ℕ, ◌*◌, ◌≤◌, length, take, drop, Result as Either, Ok, Err}
use Rattle.picture.specs.Pixels.{bytes_of}
use Rattle.picture.specs.Sizes as Sizes
use Rattle.picture.specs.Sizes.{refusal}
use Rattle.picture.specs.Outcomes.{refusal_of, format_of}
use Rattle.picture.specs.declared.outcome.Numbers.{Numbers}
use Rattle.picture.specs.declared.outcome.RlePixelFormat.{RlePixelFormat}
use Rattle.definition.specs.Decode.{Result, Summary, summary, summary_of}
use Rattle.print.specs.Text.{ascii, line}
use Rattle.print.specs.Digits.{decimal}
use Rattle.tile_text.specs.Answer.{lines_with}
use Rattle.tile_text.specs.declared.refusal.Refusal.{Refusal}
use Rattle.tile_text.specs.declared.refusal.Refusal.TheVariants.{NotATileText, TooLarge, Decoder}
use Rattle.tile_text.specs.declared.lines.Answer.{Answer}

-- the number and the values of each refusal
abbrev pub refusal_as : Refusal → Sizes.Refusal
refusal_as NotATileText = refusal 9 0 0
refusal_as TooLarge = refusal 10 0 0
refusal_as (Decoder e) = refusal_of e

-- a refusal in the code's numbers
pub record Numbered (e : Refusal) (r : Numbers) : Type 0 where
  pub format : r.format ≡ 0
  pub refusal : r.refusal ≡ (refusal_as e).number
  pub first : r.first ≡ (refusal_as e).first
  pub second : r.second ≡ (refusal_as e).second

abbrev pub Outcome : Type 0
Outcome = Either RlePixelFormat Refusal

-- number 0: no refusal
abbrev pub refusal_in : Outcome → Sizes.Refusal
refusal_in (Ok k) = refusal 0 0 0
refusal_in (Err e) = refusal_as e

-- 0: refused
abbrev pub format_in : Outcome → ℕ
format_in (Ok k) = format_of k
format_in (Err e) = 0

-- the answer where nothing is decoded
abbrev pub refused : Refusal → Answer
refused e = record { outcome = Err e; orders = 0; pixels = 0; painted = 0 }

-- what an answer says
abbrev pub summary_in : Answer → Summary
summary_in a = summary (refusal_in a.outcome) (format_in a.outcome) a.pixels a.orders

-- the lines of a refusal
unfoldable pub refusal_lines : Outcome → List ℕ
refusal_lines o =
    line (ascii "refusal=") (decimal (refusal_in o).number)
    ++ line (ascii "first=") (decimal (refusal_in o).first)
    ++ line (ascii "second=") (decimal (refusal_in o).second)

-- the lines of an answer, the painted bytes at the start of an array
unfoldable pub answer_lines : Answer → List ℕ → List ℕ
answer_lines a target = lines_with (summary_in a) (take a.painted target)

-- the answer that says a result, and the target after its decoding
pub record Answered (e : Result) (before after : List ℕ) (a : Answer) : Type 0 where
  pub summary : summary_in a ≡ summary_of e
  pub painted : a.painted ≡ length (bytes_of e.bytes e.painted)
  pub target : after ≡ bytes_of e.bytes e.painted ++ drop (length e.painted * e.bytes) before
  pub fits : length (bytes_of e.bytes e.painted) ≤ 65536

-- the same where a refusal stands for the answer that nothing is decoded
abbrev pub AnsweredOr : Result → List ℕ → List ℕ → Either Answer Refusal → Type 0
AnsweredOr e before after (Ok a) = Answered e before after a
AnsweredOr e before after (Err r) = Answered e before after (refused r)
