-- The pair of one byte more is printed. Assumes nothing.
use Rattle.std.proofs.Common.{arith}
use Rattle.print.specs.Digits.{hex_pairs}
use Rattle.print.proofs.Writing.{prints_none, pairs_more}
use Rattle.print.proofs.Output.pairs.Goals as goal

pub loop-b-init : goal.loop-b-init
unfolding hex_pairs
loop-b-init c = prints_none _ (omega arith) (omega arith)

pub loop-b-preserved : goal.loop-b-preserved
loop-b-preserved c =
    pairs_more _ _ c.loop-b-test.true c.loop-b.invariant (rw c.hex_digit.ensures at c.byte.ensures)
    (rw c.hex_digit-in-loop-b.ensures at c.byte-in-loop-b.ensures)
