-- `paint_run` meets its contract: one pixel, or as many as the ink's writer writes. Assumes nothing.
use mathlib.Core.Path.{sym}
use Rattle.rle.proofs.Painting.{painted_at, first-painted}
use Rattle.rle.proofs.span.Span.paint_run.Goals as goal

pub returns-then-self-eq1 : goal.returns-then-self-eq1
returns-then-self-eq1 c = painted_at (sym c.if-self-eq1.true) (first-painted _ _ _ _ _ _ c.paint_pixel.ensures)
