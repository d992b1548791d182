-- What reading and writing promise, of a reader and a writer whose bytes are known.
use Rattle.std.specs.Prelude.{◌≡◌, List, ℕ, Option}
use Rattle.std.specs.Io.KnownBytes.{Consumes, Appends, IsAtEnd}
use Rattle.definition.specs.Decode.{Result}
use Rattle.tile_text.specs.Answer.{lines_of, Answers}
use Rattle.tile_text.specs.Parse.{fed}
use Rattle.tile_text.specs.declared.parser.Parser.{Parser}

-- from the state p the text that the reader lost leads to the state q
pub record ReadFrom (old new : Option (List ℕ)) (p q : Parser) : Type 0 where
  pub text : List ℕ
  pub consumed : Consumes old new text
  pub parser : q ≡ fed p text

-- the text that the reader had is read to its end, and the answer to it is written
pub record Replied (input left before after : Option (List ℕ)) : Type 0 where
  pub text : List ℕ
  pub consumed : Consumes input left text
  pub whole : IsAtEnd left
  pub result : Result
  pub answers : Answers text result
  pub written : Appends before after (lines_of result)
