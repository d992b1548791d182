-- `color_run` meets its contract: the run is painted as planned, in the color that it reads. Assumes nothing.
use mathlib.Core.Path.{refl}
use native.Mathlib.Omega.{arith}
use Rattle.definition.specs.Plan.{counts_of, kind_ink}
use Rattle.rle.specs.declared.kind.Kind.TheVariants.{ColorRun}
use Rattle.rle.proofs.Painting.{painted-zero, read_of_depth}
use Rattle.rle.proofs.Orders.{Planned, planned, fits, few_behind, has_place, has_operands, next-painted, executes_kept}
use Rattle.rle.proofs.order.Order.color_run.Goals.{After-pixel_run-p}
use Rattle.rle.proofs.order.Order.color_run.Goals as goal

plan : (c : After-pixel_run-p) → Planned c.args.self ColorRun c.args.dst.now c.pixel_run-p.result
unfolding counts_of
plan c = planned c.requires (omega arith) c.room.ensures c.pixel_run-p.ensures

pub finished-requires : goal.finished-requires
finished-requires c = fits (plan (goal.at.finished-requires c).After-pixel_run-p) refl

pub returns-then-p-eq0 : goal.returns-then-p-eq0
returns-then-p-eq0 c = executes_kept (plan (goal.at.returns-then-p-eq0 c).After-pixel_run-p) refl c.finished.ensures (painted-zero c.if-p-eq0.true)

pub read_pixel-color-requires : goal.read_pixel-color-requires
read_pixel-color-requires c =
    ((c.args.self.frame.low, c.args.self.frame.high), omega (arith, has_operands (plan (goal.at.read_pixel-color-requires c).After-pixel_run-p) (omega arith)))

pub span-requires : goal.span-requires
span-requires c = few_behind (plan (goal.at.span-requires c).After-pixel_run-p)

pub paint_run-requires : goal.paint_run-requires
paint_run-requires c =
    record {
      place = has_place (plan (goal.at.paint_run-requires c).After-pixel_run-p) c.span.ensures;
      paintable = rw c.span.ensures.bytes (read_of_depth _ c.args.self.frame.low c.args.self.frame.high c.read_pixel-color.ensures);
    }

pub finished-requires-2 : goal.finished-requires-2
finished-requires-2 c = fits (plan (goal.at.finished-requires-2 c).After-pixel_run-p) refl

pub returns : goal.returns
unfolding kind_ink
returns c =
    executes_kept (plan (goal.at.returns c).After-pixel_run-p) refl c.finished-2.ensures
    (next-painted c.span.ensures (rw c.read_pixel-color.ensures at c.paint_run.ensures))
