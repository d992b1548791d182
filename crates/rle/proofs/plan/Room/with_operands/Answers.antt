-- `with_operands` meets its contract: the operands are there, or not. Assumes nothing.
use borrow.Author.Tests.{le-leb, lt-leb}
use Rattle.definition.specs.Plan.{with_operands}
use Rattle.rle.proofs.plan.Room.with_operands.Goals as goal

pub returns-then-left-size : goal.returns-then-left-size
unfolding with_operands
returns-then-left-size c = rw (lt-leb _ _ c.if-left-size.true) c.too_short.ensures

pub returns : goal.returns
unfolding with_operands
returns c = rw (le-leb _ _ c.if-left-size.false) c.pixels_behind.ensures
