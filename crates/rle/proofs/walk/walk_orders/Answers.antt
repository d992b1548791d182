-- `walk_orders` meets its contract: from each state that the walk stands for, the orders left are those that the orders from the first
-- state leave. Assumes nothing.
use native.Mathlib.Omega.{arith}
use Rattle.rle.specs.States.{frame_of}
use Rattle.rle.proofs.Walks.{PlannedAt, few_behind, place_behind, order-refused, order-completed, record_walked, head-refused, walked_start, walked_end, walked_refused, walked_order, walked_on}
use Rattle.rle.proofs.walk.walk_orders.Goals.{After-order-p}
use Rattle.rle.proofs.walk.walk_orders.Goals as goal

plan : (c : After-order-p) → PlannedAt c.args.f c.args.src.now c.loop-o.walk c.in-Ok-Some.o c.order-p.result
plan c =
    record {
      within = c.loop-o.invariant.within;
      at = rw c.in-Ok-Some.field-0-is at c.in-Ok-Some.ensures;
      counts = rw (c.room.ensures.0, c.room.ensures.1) at c.order-p.ensures;
    }

pub loop-o-init : goal.loop-o-init
loop-o-init c = walked_start (frame_of c.args.f) _ _ _ c.requires

pub returns-in-Ok-None : goal.returns-in-Ok-None
returns-in-Ok-None c = rw c.stopped.ensures (walked_end c.loop-o.invariant (rw c.in-Ok-None.field-0-is at c.in-Ok-None.ensures))

pub returns-in-Err : goal.returns-in-Err
returns-in-Err c = rw c.stopped-in-Err.ensures (walked_refused c.loop-o.invariant (head-refused c.loop-o.invariant.within c.in-Err.ensures))

pub overflow_add-walk : goal.overflow_add-walk
overflow_add-walk c = omega (arith, few_behind (plan (goal.at.overflow_add-walk c).After-order-p))

pub returns-in-Err-ending : goal.returns-in-Err-ending
returns-in-Err-ending c =
    rw c.stopped-in-Err-ending.ensures
    (walked_refused c.loop-o.invariant (order-refused (plan (goal.at.returns-in-Err-ending c).After-order-p) _ c.in-Err-ending.is))

pub overflow_add-walk-in-loop-o : goal.overflow_add-walk-in-loop-o
overflow_add-walk-in-loop-o c = omega (arith, place_behind (plan (goal.at.overflow_add-walk-in-loop-o c).After-order-p))

pub overflow_add-walk-in-loop-o-2 : goal.overflow_add-walk-in-loop-o-2
overflow_add-walk-in-loop-o-2 c =
    rw c.end_first_row-begun.ensures (omega (arith, few_behind (plan (goal.at.overflow_add-walk-in-loop-o-2 c).After-order-p)))

pub returns-then-n-orders : goal.returns-then-n-orders
returns-then-n-orders c =
    let p = plan (goal.at.returns-then-n-orders c).After-order-p in
    rw (c.stopped-then-n-orders.ensures, c.end_first_row-begun.ensures, c.leaves_insert.ensures)
    (walked_order c.loop-o.invariant (order-completed p c.in_default.is) c.if-n-orders.true _
    (λ k. rw (c.new-r.ensures, c.end_first_row-begun.ensures) (record_walked p k)))

pub loop-o-preserved : goal.loop-o-preserved
loop-o-preserved c =
    rw (c.end_first_row-begun.ensures, c.leaves_insert.ensures)
    (walked_on c.loop-o.invariant (order-completed (plan (goal.at.loop-o-preserved c).After-order-p) c.in_default.is) c.if-n-orders.false)
