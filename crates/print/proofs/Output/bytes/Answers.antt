-- One byte more is printed. Assumes nothing.
use Rattle.print.proofs.Writing.{prints_more}
use Rattle.print.proofs.Output.bytes.Goals as goal

pub loop-b-preserved : goal.loop-b-preserved
loop-b-preserved c = prints_more _ _ c.loop-b-test.true c.loop-b.invariant c.byte.ensures
