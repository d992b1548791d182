-- `dithered_run` meets its contract: the run is painted as planned, in the two colors that it reads. Assumes nothing.
use mathlib.Core.Path.{◌≡◌, refl, sym, subst}
use Prim.Native.Nat.{◌%◌}
use native.Mathlib.Omega.{arith}
use lib.Seq.{drop-drop}
use Rattle.definition.specs.Plan.{Counts, counts_of, kind_ink}
use Rattle.rle.specs.declared.kind.Kind.TheVariants.{DitheredRun}
use Rattle.definition.proofs.Planned.{pairs_read}
use Rattle.rle.proofs.Painting.{painted-zero, read_of_depth}
use Rattle.rle.proofs.Orders.{Planned, planned, fits, few_behind, has_place, has_operands, next-painted, executes_kept}
use Rattle.rle.proofs.order.Order.dithered_run.Goals.{After-dithered_run-p}
use Rattle.rle.proofs.order.Order.dithered_run.Goals as goal

plan : (c : After-dithered_run-p) → Planned c.args.self DitheredRun c.args.dst.now c.dithered_run-p.result
unfolding counts_of
plan c = planned c.requires (omega arith) c.room.ensures c.dithered_run-p.ensures

pub finished-requires : goal.finished-requires
finished-requires c = fits (plan (goal.at.finished-requires c).After-dithered_run-p) refl

pub returns-then-p-eq0 : goal.returns-then-p-eq0
returns-then-p-eq0 c = executes_kept (plan (goal.at.returns-then-p-eq0 c).After-dithered_run-p) refl c.finished.ensures (painted-zero c.if-p-eq0.true)

pub read_pixel-a-requires : goal.read_pixel-a-requires
read_pixel-a-requires c =
    ((c.args.self.frame.low, c.args.self.frame.high), omega (arith, has_operands (plan (goal.at.read_pixel-a-requires c).After-dithered_run-p) (omega arith)))

pub read_pixel-b-requires : goal.read_pixel-b-requires
read_pixel-b-requires c =
    ((c.args.self.frame.low, c.args.self.frame.high), omega (arith, has_operands (plan (goal.at.read_pixel-b-requires c).After-dithered_run-p) (omega arith)))

pub span-requires : goal.span-requires
span-requires c = few_behind (plan (goal.at.span-requires c).After-dithered_run-p)

pub paint_dithered-requires : goal.paint_dithered-requires
paint_dithered-requires c =
    let f = c.args.self.frame in
    record {
      place = has_place (plan (goal.at.paint_dithered-requires c).After-dithered_run-p) c.span.ensures;
      even = rw c.span.ensures.pixels (subst (λ (x : Counts). x.pixels % 2 ≡ 0) (sym c.dithered_run-p.ensures) (pairs_read _ _ _ _ _));
      of_depth = rw c.span.ensures.bytes (read_of_depth _ f.low f.high c.read_pixel-a.ensures, read_of_depth _ f.low f.high c.read_pixel-b.ensures);
    }

pub finished-requires-2 : goal.finished-requires-2
finished-requires-2 c = fits (plan (goal.at.finished-requires-2 c).After-dithered_run-p) refl

pub returns : goal.returns
unfolding kind_ink
returns c =
    let o = c.args.self in
    let behind = drop-drop o.frame.depth.bytes o.state.walk.pos o.src.now in
    executes_kept (plan (goal.at.returns c).After-dithered_run-p) refl c.finished-2.ensures
    (next-painted c.span.ensures (rw (c.read_pixel-a.ensures, c.read_pixel-b.ensures, ← behind) at c.paint_dithered.ensures))
