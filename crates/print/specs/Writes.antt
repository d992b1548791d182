-- What every method of `Output` promises. A store past the buffer's end changes nothing.
use Rattle.std.specs.Prelude.{◌≡◌, List, ℕ, ◌+◌, ◌≤◌, min, length}
use Rattle.std.proofs.lemmas.List.Edits.{sets}
use Rattle.print.specs.declared.Output.{Output}

-- the largest place, which has no other after it
abbrev pub largest : ℕ
largest = 18446744073709551615

-- the bytes `text` are stored from place `at` on, as far as the output goes, nothing else is changed, and `next` is the place after
-- them. `size`: no output has more bytes than there are places, so from the largest place on nothing is stored
pub record Writes (before : List ℕ) (at : ℕ) (text after : List ℕ) (next : ℕ) : Type 0 where
  pub place : next ≡ min (at + length text) largest
  pub written : after ≡ sets before at text
  pub size : length before ≤ largest

-- `text` is written into the buffer, which stays the same one
pub record Prints (before : Output) (text : List ℕ) (after : Output) : Type 0 where
  pub writes : Writes before.buffer.now before.place text after.buffer.now after.place
  pub same_buffer : after.buffer.ghost_name ≡ before.buffer.ghost_name
