-- `paint_bg_run` meets its contract: nothing, or an inserted pixel and then the rest, else all background. Assumes nothing.
use native.Mathlib.Omega.{arith}
use Rattle.rle.proofs.Painting.{painted-zero, inserted-painted}
use Rattle.rle.proofs.plain.paint.paint_bg_run.Goals as goal

pub returns-then-span-eq0 : goal.returns-then-span-eq0
returns-then-span-eq0 c = painted-zero c.if-span-eq0.true

pub returns : goal.returns
returns c =
    rw c.in-Some.is (inserted-painted c.part.ensures (omega arith) c.in-Some.fg c.args.bg c.paint_pixel.ensures c.paint_run-2.ensures)
