-- The bytes passed are printed.
use Rattle.std.proofs.Common.{take}
use Rattle.print.specs.Writes.{Prints}
use Rattle.print.proofs.Output.bytes.Given as goal

abbrev pub invariant-loop-b : goal.invariant-loop-b
invariant-loop-b l = Prints l.initial.self (take l.b-index l.text) l.self
