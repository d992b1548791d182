-- `some_orders` meets its contract. The invariant: the orders that are left give what all give. Assumes nothing.
use Prim.Native.Nat.{◌-◌}
use Rattle.definition.specs.Decode.{run}
use Rattle.rle.specs.States.{frame_of, state_of, state_from}
use Rattle.rle.specs.Orders.{BetweenOrders}
use Rattle.rle.proofs.decode.some_orders.Given as goal

abbrev pub invariant-loop-t : goal.invariant-loop-t
invariant-loop-t l =
    BetweenOrders (frame_of l.f) l.src l.initial.dst l.dst (run (frame_of l.f) (l.stop - l.fn.from.orders) (state_of (frame_of l.f) l.src l.initial.dst (state_from l.fn.from))) (l.stop - l.t.orders) l.t

abbrev pub decreases-loop-t : goal.decreases-loop-t
decreases-loop-t l = l.stop - l.t.orders
