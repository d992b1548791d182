-- `run` meets its contract: nothing stands before the pixels. Assumes nothing.
use native.Mathlib.Nat.{zero-add}
use Rattle.definition.specs.Plan.{behind}
use Rattle.rle.proofs.plan.Room.run.Goals as goal

pub returns : goal.returns
unfolding behind
returns c = rw zero-add at c.pixels_behind.ensures
