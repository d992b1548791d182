-- `paint_fg_run` meets its contract: nothing is painted, or what `paint_run` paints. Assumes nothing.
use Rattle.rle.proofs.Painting.{painted-zero}
use Rattle.rle.proofs.span.Span.paint_fg_run.Goals as goal

pub returns-then-self-eq0 : goal.returns-then-self-eq0
returns-then-self-eq0 c = painted-zero c.if-self-eq0.true
