-- `order` meets its contract: every kind is planned, painted as planned, and ends as planned. Assumes nothing.
use mathlib.Core.Path.{refl, ap}
use native.Mathlib.Omega.{arith}
use Rattle.definition.specs.Plan.{leaves_insert}
use Rattle.picture.specs.Pixels.{Pixel}
use Rattle.rle.specs.Kinds.{kind_in}
use Rattle.rle.specs.States.{with_fg}
use Rattle.rle.proofs.Endings.{after_ok, after_err}
use Rattle.rle.proofs.Orders.{Planned, planned, fits, few_behind, has_room, has_operands, own_holds, executes_painted}
use Rattle.rle.proofs.plain.order.order.Goals.{After-order-p}
use Rattle.rle.proofs.plain.order.order.Goals as goal

plan : (c : After-order-p) → Planned c.args.o c.args.o.kind c.args.dst.now c.order-p.result
plan c = planned c.requires (omega arith) c.room.ensures c.order-p.ensures

pub invariant_of-with_foreground : goal.invariant_of-with_foreground
invariant_of-with_foreground c =
    record {
      place = c.args.o.place;
      fixed = c.args.o.fixed;
      holds = own_holds (plan (goal.at.invariant_of-with_foreground c).After-order-p) c.order_foreground-foreground.ensures;
    }

pub paint_order-requires : goal.paint_order-requires
paint_order-requires c =
    let p = plan (goal.at.paint_order-requires c).After-order-p in
    record { place = c.requires; room = has_room p; operands = has_operands p }

pub overflow_add-t : goal.overflow_add-t
overflow_add-t c = omega (arith, (fits (plan (goal.at.overflow_add-t c).After-order-p) {t = c.args.o.state} refl).read)

pub overflow_add-t-2 : goal.overflow_add-t-2
overflow_add-t-2 c = omega (arith, few_behind (plan (goal.at.overflow_add-t-2 c).After-order-p))

pub returns-then-is_ok : goal.returns-then-is_ok
returns-then-is_ok c =
    let s = c.args.o.state in
    let e = after_ok c.order-p.result.ending c.if-is_ok.ensures.value c.leaves_insert-t.result s.walk.insert s.orders in
    executes_painted (plan (goal.at.returns-then-is_ok c).After-order-p) (ap (λ (x : Pixel). with_fg s x) c.order_foreground-foreground.ensures)
    (rw (← c.leaves_insert-t.ensures, e.0, e.1)) c.paint_order.ensures

pub returns-else-is_ok : goal.returns-else-is_ok
returns-else-is_ok c =
    let s = c.args.o.state in
    let e = after_err c.order-p.result.ending c.if-is_ok.ensures.value (leaves_insert (kind_in c.args.o.kind)) s.walk.insert s.orders in
    executes_painted (plan (goal.at.returns-else-is_ok c).After-order-p) (ap (λ (x : Pixel). with_fg s x) c.order_foreground-foreground.ensures)
    (rw (e.0, e.1)) c.paint_order.ensures
