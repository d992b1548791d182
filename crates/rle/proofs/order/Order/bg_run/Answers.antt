-- `bg_run` meets its contract: the run is painted as planned. Assumes nothing.
use mathlib.Core.Path.{refl}
use native.Mathlib.Omega.{arith}
use Rattle.definition.specs.Plan.{counts_of, kind_ink}
use Rattle.rle.specs.declared.kind.Kind.TheVariants.{BgRun}
use Rattle.rle.proofs.Painting.{painted_as}
use Rattle.rle.proofs.Inks.{insert_paintable, bg_paintable, inserted-is}
use Rattle.rle.proofs.Orders.{Planned, planned, fits, few_behind, has_place, next-painted, executes_kept}
use Rattle.rle.proofs.order.Order.bg_run.Goals.{After-run-p}
use Rattle.rle.proofs.order.Order.bg_run.Goals as goal

plan : (c : After-run-p) → Planned c.args.self BgRun c.args.dst.now c.run-p.result
unfolding counts_of
plan c = planned c.requires (omega arith) c.room.ensures c.run-p.ensures

pub span-span-requires : goal.span-span-requires
span-span-requires c = few_behind (plan (goal.at.span-span-requires c).After-run-p)

pub paint_bg_run-requires : goal.paint_bg_run-requires
paint_bg_run-requires c =
    let row = c.args.self.holds.row in
    record {
      place = has_place (plan (goal.at.paint_bg_run-requires c).After-run-p) c.span-span.ensures;
      insert = rw c.insert_ink.ensures (insert_paintable c.span-span.ensures row c.args.self.holds.foreground);
      bg = rw c.bg_ink.ensures (bg_paintable c.span-span.ensures row);
    }

pub finished-requires : goal.finished-requires
finished-requires c = fits (plan (goal.at.finished-requires c).After-run-p) refl

pub returns : goal.returns
unfolding kind_ink
returns c =
    executes_kept (plan (goal.at.returns c).After-run-p) refl c.finished.ensures
    (painted_as (λ j _. inserted-is _ _ _ j) (next-painted c.span-span.ensures (rw (c.insert_ink.ensures, c.bg_ink.ensures) at c.paint_bg_run.ensures)))
