-- `paint_mask` meets its contract. The invariant: i pixels are painted, and m is the mask without its i lowest bits. Assumes nothing.
use Prim.Native.Nat.{◌+◌, ◌%◌}
use lib.Dec.{eqb}
use borrow.Author.Tests.{eq-eqb, ne_eqb}
use Rattle.base.specs.Picks.{pick}
use Rattle.rle.specs.Painting.{PaintedOne, ink_of}
use Rattle.byte_runs.proofs.Masks.{whole, half}
use Rattle.rle.proofs.Painting.{painted-none, painted_more, one_as, mask_ink_lem}
use Rattle.rle.proofs.plain.paint.paint_mask.Goals.{then-m-eq1, else-m-eq1}
use Rattle.rle.proofs.plain.paint.paint_mask.Goals as goal

pub loop-i-init : goal.loop-i-init
loop-i-init c = (whole _, painted-none)

pub loop-i-preserved : goal.loop-i-preserved
loop-i-preserved c =
    let l = c.loop-i in
    let a = c.args in
    let s = a.span in
    let one : PaintedOne s.bytes s.width (pick (eqb (l.m % 2) 1) (ink_of a.fg) (ink_of a.bg)) (s.start + l.i) l.dst c.paint_pixel.new.dst =
    elim c.if-m-eq1.branch [
      | then-m-eq1 w ↦ rw (eq-eqb _ _ w.if-m-eq1.true) (rw w.ink-is at c.paint_pixel.ensures)
      | else-m-eq1 w ↦ rw (ne_eqb _ _ w.if-m-eq1.false) (rw w.ink-is at c.paint_pixel.ensures)
    ] in (
      half a.mask l.m l.i l.invariant.0,
      painted_more _ _ _ _ _ _ _ _ l.invariant.1 (one_as (mask_ink_lem (ink_of a.fg) (ink_of a.bg) a.mask l.m l.i l.invariant.0) one),
    )
