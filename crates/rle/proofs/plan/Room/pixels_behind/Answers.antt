-- `pixels_behind` meets its contract: there is room for the pixels, or not. Assumes nothing.
use native.Mathlib.Nat.{add-zero}
use borrow.Author.Tests.{le-leb, lt-leb}
use Rattle.definition.specs.Plan.{behind, run_counts}
use Rattle.rle.proofs.plan.Room.pixels_behind.Goals as goal

pub returns-then-self-n : goal.returns-then-self-n
unfolding behind run_counts
returns-then-self-n c = rw (lt-leb _ _ c.if-self-n.true, add-zero) c.too_large.ensures

pub returns : goal.returns
unfolding behind run_counts
returns c = rw (le-leb _ _ c.if-self-n.false, add-zero) c.complete.ensures
