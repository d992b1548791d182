-- `paint_run` meets its contract. The invariant: i pixels are painted. Assumes nothing.
use Rattle.rle.proofs.Painting.{painted-none, painted_more}
use Rattle.rle.proofs.plain.paint.paint_run.Goals as goal

pub loop-i-init : goal.loop-i-init
loop-i-init c = painted-none

pub loop-i-preserved : goal.loop-i-preserved
loop-i-preserved c = painted_more _ _ _ _ _ _ _ _ c.loop-i.invariant c.paint_pixel.ensures
