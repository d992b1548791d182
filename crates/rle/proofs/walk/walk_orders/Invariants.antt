-- `walk_orders` meets its contract: from each state that the walk stands for, the orders left are those that the orders from the first
-- state leave. Assumes nothing.
use Prim.Native.Nat.{◌-◌}
use lib.ListN.{length}
use Rattle.rle.specs.States.{frame_of}
use Rattle.rle.proofs.Walks.{WalkedTo}
use Rattle.rle.proofs.walk.walk_orders.Given as goal

abbrev pub invariant-loop-o : goal.invariant-loop-o
invariant-loop-o l = WalkedTo (frame_of l.f) l.src l.initial.walk l.n l.orders l.walk

abbrev pub decreases-loop-o : goal.decreases-loop-o
decreases-loop-o l = length l.src - l.walk.pos
