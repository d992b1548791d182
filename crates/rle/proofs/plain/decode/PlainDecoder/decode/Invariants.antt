-- `decode` meets its contract. The invariant: the orders that are left give what the whole stream gives, of which each has read a byte at
-- least. Assumes nothing.
use Prim.Native.Nat.{◌-◌, ◌≤◌}
use lib.ListN.{length}
use Rattle.definition.specs.Decode.{decode}
use Rattle.rle.specs.States.{frame_of}
use Rattle.rle.specs.Orders.{BetweenOrders}
use Rattle.rle.proofs.plain.decode.PlainDecoder.decode.Given as goal

abbrev pub invariant-loop-o : goal.invariant-loop-o
invariant-loop-o l =
    BetweenOrders (frame_of l.f) l.src l.initial.dst l.dst (decode (frame_of l.f) l.src) (length l.src - l.s.orders) l.s × (l.s.orders ≤ l.s.walk.pos)

abbrev pub decreases-loop-o : goal.decreases-loop-o
decreases-loop-o l = length l.src - l.s.walk.pos
