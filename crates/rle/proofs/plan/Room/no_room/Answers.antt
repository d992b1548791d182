-- `no_room` meets its contract: its counts are the definition's. Assumes nothing.
use native.Mathlib.Nat.{add-suc}
use native.Mathlib.Numerals.{add-one}
use Rattle.std.proofs.Math.Nat.{min_comm}
use Rattle.definition.specs.Plan.{behind, no_room}
use Rattle.rle.proofs.plan.Room.no_room.Goals as goal

pub returns : goal.returns
unfolding behind no_room
returns c = rw (add-suc, min_comm 8 _, ← c.min-rest.ensures) (rw add-one at c.too_large.ensures)
