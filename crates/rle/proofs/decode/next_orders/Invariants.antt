-- `next_orders` meets its contract. The invariant: what is left of the orders gives what all give, no more are completed than pixels are
-- painted, and the first row does not end before the limit. Assumes nothing.
use Prim.Native.Nat.{◌-◌}
use lib.ListN.{length}
use Rattle.rle.specs.States.{frame_of}
use Rattle.rle.proofs.Stream.{LedTo}
use Rattle.rle.proofs.decode.next_orders.Given as goal

abbrev pub invariant-loop-t : goal.invariant-loop-t
invariant-loop-t l = LedTo l.limit (frame_of l.f) l.src l.initial.dst l.dst l.n l.fn.s l.t

abbrev pub decreases-loop-t : goal.decreases-loop-t
decreases-loop-t l = length l.src - l.t.walk.pos
