-- `fgbg_image` meets its contract: the pixels that the plan says are painted, and it ends as planned. Assumes nothing.
use Prim.Native.Nat.{ℕ, ◌≤◌}
use native.Mathlib.Omega.{arith}
use Rattle.rle.specs.Kinds.{sets_foreground}
use Rattle.base.proofs.Tests.{by_test}
use Rattle.rle.proofs.Inks.{zero-is}
use Rattle.rle.proofs.Orders.{Planned, planned, fits, few_behind, has_place, has_operands, own_paintable, next-painted, executes_painted}
use Rattle.rle.proofs.Sharing.{image_masks, masks-painted}
use Rattle.rle.proofs.order.Order.fgbg_image.Goals.{After-fgbg_image-p}
use Rattle.rle.proofs.order.Order.fgbg_image.Goals as goal

plan : (c : After-fgbg_image-p) → Planned c.args.self c.args.self.kind c.args.dst.now c.fgbg_image-p.result
plan c = planned c.requires.place (omega arith) c.room.ensures c.fgbg_image-p.ensures

pub overflow_add-from : goal.overflow_add-from
overflow_add-from c =
    let few = by_test (λ (m : ℕ). m ≤ 3) (sets_foreground c.args.self.kind) {b = 0} (λ _. c.args.self.frame.high) (λ _. omega arith) in
    omega (arith, few, c.foreground_size.ensures)

pub span-requires : goal.span-requires
span-requires c = few_behind (plan (goal.at.span-requires c).After-fgbg_image-p)

pub paint_masks-requires : goal.paint_masks-requires
paint_masks-requires c =
    let p = plan (goal.at.paint_masks-requires c).After-fgbg_image-p in
    record {
      place = has_place p c.span.ensures;
      paintable = own_paintable p c.with_foreground-t.ensures c.fg_ink.ensures c.span.ensures;
      masks = rw c.span.ensures.pixels (omega (arith, c.foreground_size.ensures, image_masks _ _ _ c.requires.image (has_operands p)));
    }

pub finished-requires : goal.finished-requires
finished-requires c = fits (plan (goal.at.finished-requires c).After-fgbg_image-p) c.with_foreground-t.ensures

pub returns : goal.returns
returns c =
    let t = c.with_foreground-t.ensures in
    executes_painted (plan (goal.at.returns c).After-fgbg_image-p) t c.finished.ensures
    (masks-painted _ _ _ _ c.requires.image _ _
    (next-painted c.span.ensures (rw (c.fg_ink.ensures, c.foreground_size.ensures, zero-is c.args.self.frame c.args.self.state t) at c.paint_masks.ensures)))
