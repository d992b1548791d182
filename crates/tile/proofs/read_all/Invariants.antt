-- What came so far is some text. Assumes nothing.
use Rattle.tile.specs.Input.{ReadFrom}
use Rattle.tile.proofs.read_all.Given as goal

abbrev pub invariant-loop : goal.invariant-loop
invariant-loop g l = ReadFrom (g.R.Read.remaining l.initial.input) (g.R.Read.remaining l.input) l.initial.parser l.parser
