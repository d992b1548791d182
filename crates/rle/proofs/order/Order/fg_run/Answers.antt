-- `fg_run` meets its contract: the run is painted as planned, with the foreground that it reads or that of the state. Assumes nothing.
use native.Mathlib.Omega.{arith}
use Rattle.rle.proofs.Orders.{Planned, planned, fits, few_behind, has_place, own_paintable, next-painted, executes_painted}
use Rattle.rle.proofs.Sharing.{fg-painted}
use Rattle.rle.proofs.order.Order.fg_run.Goals.{After-fg_run-p}
use Rattle.rle.proofs.order.Order.fg_run.Goals as goal

plan : (c : After-fg_run-p) → Planned c.args.self c.args.self.kind c.args.dst.now c.fg_run-p.result
plan c = planned c.requires.place (omega arith) c.room.ensures c.fg_run-p.ensures

pub span-requires : goal.span-requires
span-requires c = few_behind (plan (goal.at.span-requires c).After-fg_run-p)

pub paint_fg_run-requires : goal.paint_fg_run-requires
paint_fg_run-requires c =
    let p = plan (goal.at.paint_fg_run-requires c).After-fg_run-p in
    record { place = has_place p c.span.ensures; paintable = (own_paintable p c.with_foreground-t.ensures c.fg_ink.ensures c.span.ensures).0 }

pub finished-requires : goal.finished-requires
finished-requires c = fits (plan (goal.at.finished-requires c).After-fg_run-p) c.with_foreground-t.ensures

pub returns : goal.returns
returns c =
    executes_painted (plan (goal.at.returns c).After-fg_run-p) c.with_foreground-t.ensures c.finished.ensures
    (fg-painted _ _ _ _ c.requires.run _ (next-painted c.span.ensures (rw c.fg_ink.ensures at c.paint_fg_run.ensures)))
