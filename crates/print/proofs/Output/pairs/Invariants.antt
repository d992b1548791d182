-- The pairs of the bytes passed are printed.
use Rattle.std.proofs.Common.{take}
use Rattle.print.specs.Digits.{hex_pairs}
use Rattle.print.specs.Writes.{Prints}
use Rattle.print.proofs.Output.pairs.Given as goal

abbrev pub invariant-loop-b : goal.invariant-loop-b
invariant-loop-b l = Prints l.initial.self (hex_pairs (take l.b-index l.bytes)) l.self
