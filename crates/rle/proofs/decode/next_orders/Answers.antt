-- `next_orders` meets its contract. The invariant: what is left of the orders gives what all give, no more are completed than pixels are
-- painted, and the first row does not end before the limit. Assumes nothing.
use mathlib.Core.Path.{refl}
use Prim.Native.Nat.{◌+◌, ◌-◌, ◌≤◌, ◌<◌}
use native.Mathlib.Omega.{arith}
use Rattle.definition.specs.Decode.{run}
use Rattle.rle.specs.States.{frame_of, state_of}
use Rattle.rle.proofs.Endings.{fails, completes}
use Rattle.rle.proofs.FirstRow.{row_stays, row_begun}
use Rattle.rle.proofs.Stream.{Advances, advanced, order-refused, decodes_refused, led_start, led_more, led_on, led_end}
use Rattle.rle.proofs.decode.next_orders.Goals.{After-limit-limit, After-carry_out-r}
use Rattle.rle.proofs.decode.next_orders.Goals as goal

advances : (c : After-carry_out-r)
    → Advances (frame_of c.args.f) c.args.src.now c.args.dst.now c.loop-t.dst c.carry_out-r.new.dst
    (run (frame_of c.args.f) c.args.n (state_of (frame_of c.args.f) c.args.src.now c.args.dst.now c.args.s)) (c.args.n - (c.loop-t.t.orders - c.args.s.orders)) c.loop-t.t
    c.carry_out-r.result
advances c =
    advanced c.args.f _ _ (row_stays c.args.f _ (λ e. omega (arith, c.loop-t.invariant.row e))) c.loop-t.invariant.between
    (rw c.in-Ok-Some.field-0-is at c.in-Ok-Some.ensures) (rw c.moved.ensures at c.carry_out-r.ensures)

-- no more orders are completed than may be
within : (c : After-limit-limit) → c.limit-limit.result ≤ c.args.s.walk.pixels + c.args.n
within c = rw c.end_first_row-t.ensures at c.limit-limit.ensures.few

-- at the limit an order is completed
further : (c : After-limit-limit) → c.args.s.walk.pixels < c.limit-limit.result
further c = (rw c.end_first_row-t.ensures at c.limit-limit.ensures.further) c.requires.more.1 (row_begun c.args.f c.args.s)

pub loop-t-init : goal.loop-t-init
loop-t-init c =
    rw c.end_first_row-t.ensures
    (led_start c.args.f _ _ c.requires.invariant c.requires.more.0 c.requires.more.1 (rw c.end_first_row-t.ensures at c.limit-limit.ensures.row))

pub returns-in-Ok-None : goal.returns-in-Ok-None
returns-in-Ok-None c =
    let end = rw c.in-Ok-None.field-0-is at c.in-Ok-None.ensures in
    rw c.completed.ensures
    (led_end c.loop-t.invariant (λ e. absurd (omega (arith, (c.loop-t.invariant.none e).1, c.requires.more.0, end))))

pub returns-in-Err : goal.returns-in-Err
returns-in-Err c =
    let i = c.loop-t.invariant in
    rw (c.refused.ensures, c.moved-in-Err.ensures)
    (record {
      grows = i.grows;
      decoded =
          decodes_refused (order-refused c.args.f _ _ (row_stays c.args.f _ (λ e. omega (arith, i.row e))) i.between c.in-Err.ensures)
          (led_more i (within (goal.at.returns-in-Err c).After-limit-limit) c.loop-t-test.true) refl;
    })

pub returns-then-is_err : goal.returns-then-is_err
returns-then-is_err c =
    let i = c.loop-t.invariant in
    let a = advances (goal.at.returns-then-is_err c).After-carry_out-r in
    let e = (fails _ c.if-is_err.ensures.value).is in
    record {
      grows = omega (arith, i.grows, a.executes.grows);
      decoded = rw e (rw e at (decodes_refused a (led_more i (within (goal.at.returns-then-is_err c).After-limit-limit) c.loop-t-test.true) e));
    }

pub loop-t-preserved : goal.loop-t-preserved
loop-t-preserved c =
    led_on c.loop-t.invariant (within (goal.at.loop-t-preserved c).After-limit-limit) (advances (goal.at.loop-t-preserved c).After-carry_out-r) c.loop-t-test.true
    (λ i. omega (arith, c.type_inv.src i)) (completes _ c.if-is_err.ensures.value) c.carry_out-r.auto.dst

pub returns : goal.returns
returns c =
    rw c.completed-2.ensures
    (led_end c.loop-t.invariant
    (λ e. absurd (omega (arith, (c.loop-t.invariant.none e).0, further (goal.at.returns c).After-limit-limit, c.loop-t-test.false))))
