-- `decode` meets its contract. The invariant: the orders that are left give what the whole stream gives, of which each has read a byte at
-- least. Assumes nothing.
use mathlib.Core.Path.{◌≡◌, refl, subst}
use Prim.Native.Nat.{ℕ, ◌-◌, ◌<◌, zero-le}
use native.Mathlib.Omega.{arith}
use lib.ListN.{length}
use Rattle.definition.specs.Decode.{decode}
use Rattle.rle.specs.States.{frame_of, first_row_ended}
use Rattle.rle.specs.Orders.{BetweenOrders}
use Rattle.rle.proofs.Endings.{fails, completes}
use Rattle.rle.proofs.FirstRow.{row_ended, insert_ended, row_again}
use Rattle.rle.proofs.Stream.{Advances, advanced, order-refused, between_start, between_end, between_marked, decodes_refused, between_on, order_counted}
use Rattle.rle.proofs.plain.decode.PlainDecoder.decode.Goals.{After-order-r}
use Rattle.rle.proofs.plain.decode.PlainDecoder.decode.Goals as goal

advances : (c : After-order-r)
    → Advances (frame_of c.args.f) c.args.src.now c.args.dst.now c.loop-o.dst c.order-r.new.dst (decode (frame_of c.args.f) c.args.src.now)
    (length c.args.src.now - c.loop-o.s.orders) (first_row_ended c.args.f c.loop-o.s) c.order-r.result
advances c =
    let f = c.args.f in
    let s = c.loop-o.s in
    let i = c.loop-o.invariant in
    let at = rw c.in-Ok-Some.field-0-is at c.in-Ok-Some.ensures in
    advanced f _ _ (row_again f s) (between_marked f i.0 (omega (arith, at.reads, at.place)) (omega (arith, at.reads, at.place, i.1))) at
    (rw (insert_ended f s, row_ended f s) at c.order-r.ensures)

pub loop-o-init : goal.loop-o-init
loop-o-init c = rw c.start-s.ensures (between_start c.args.f _ _, zero-le)

pub returns-in-Ok-None : goal.returns-in-Ok-None
returns-in-Ok-None c =
    between_end c.loop-o.invariant.0 (rw c.in-Ok-None.field-0-is at c.in-Ok-None.ensures)

pub returns-in-Err : goal.returns-in-Err
returns-in-Err c =
    let f = c.args.f in
    let s = c.loop-o.s in
    let i = c.loop-o.invariant in
    let at = c.in-Err.ensures in
    let some : 0 < length c.args.src.now - s.orders = omega (arith, at.reads, at.place, i.1) in
    rw (insert_ended f s, row_ended f s)
    (decodes_refused (order-refused f _ _ (row_again f s) (between_marked f i.0 (omega (arith, at.reads, at.place)) some) at) some refl)

pub returns-then-is_err : goal.returns-then-is_err
returns-then-is_err c =
    let a = advances (goal.at.returns-then-is_err c).After-order-r in
    decodes_refused a (omega (arith, a.inside, c.loop-o.invariant.1)) (fails _ c.if-is_err.ensures.value).is

pub loop-o-preserved : goal.loop-o-preserved
loop-o-preserved c =
    let a = advances (goal.at.loop-o-preserved c).After-order-r in
    let done = completes _ c.if-is_err.ensures.value in
    let o = order_counted a done in
    let f = frame_of c.args.f in
    let e : length c.args.src.now - c.loop-o.s.orders - 1 ≡ length c.args.src.now - c.order-r.result.state.orders = omega arith in (
      subst (λ (n : ℕ). BetweenOrders f c.args.src.now c.args.dst.now c.order-r.new.dst (decode f c.args.src.now) n c.order-r.result.state) e
          (between_on a (omega (arith, a.inside, c.loop-o.invariant.1)) done c.order-r.auto.dst),
      omega (arith, a.reads, c.loop-o.invariant.1),
    )
