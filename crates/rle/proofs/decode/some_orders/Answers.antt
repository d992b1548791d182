-- `some_orders` meets its contract. The invariant: the orders that are left give what all give. Assumes nothing.
use mathlib.Core.Path.{◌≡◌}
use Prim.Native.Nat.{ℕ, ◌-◌, ◌≤◌}
use native.Mathlib.Omega.{arith}
use Rattle.rle.proofs.Endings.{fails, completes}
use Rattle.rle.proofs.Stream.{between_first, between_end, between_stop, decoded-refused, decoded_further}
use Rattle.rle.proofs.decode.some_orders.Goals.{then-loop-t-test+else-t-src, else-loop-t-test}
use Rattle.rle.proofs.decode.some_orders.Goals as goal

left : (stop m k : ℕ) → m ≤ k → stop - m - (k - m) ≡ stop - k
left stop m k h = omega arith

pub loop-t-init : goal.loop-t-init
loop-t-init c = rw c.from-t.ensures (between_first _ _ _ _ c.requires.invariant c.requires.place)

pub returns-then-is_err : goal.returns-then-is_err
returns-then-is_err c = decoded-refused c.loop-t.invariant c.next_orders-r.ensures (fails _ c.if-is_err.ensures.value).is

pub loop-t-preserved : goal.loop-t-preserved
loop-t-preserved c =
    let d = decoded_further c.loop-t.invariant c.next_orders-r.ensures (completes _ c.if-is_err.ensures.value) in
    rw (left c.args.stop c.loop-t.t.orders c.next_orders-r.result.state.orders (omega (arith, d.1))) at d.0

pub returns : goal.returns
returns c =
    rw c.completed.ensures
    (elim c.loop-t-test.branch [
      | then-loop-t-test+else-t-src w ↦ between_end c.loop-t.invariant w.if-t-src.false
      | else-loop-t-test w ↦ between_stop c.loop-t.invariant (omega (arith, w.loop-t-test.false))
    ])
