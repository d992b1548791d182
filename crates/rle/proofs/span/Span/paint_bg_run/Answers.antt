-- `paint_bg_run` meets its contract: nothing, or an inserted pixel and then the rest, else all background. Assumes nothing.
use mathlib.Core.Path.{sym}
use native.Mathlib.Omega.{arith}
use Rattle.rle.proofs.Painting.{painted-zero, painted_at, first-painted, inserted-painted}
use Rattle.rle.proofs.span.Span.paint_bg_run.Goals as goal

pub returns-then-self-eq0 : goal.returns-then-self-eq0
returns-then-self-eq0 c = painted-zero c.if-self-eq0.true

pub returns-then-self-eq1 : goal.returns-then-self-eq1
returns-then-self-eq1 c = rw c.in-Some.is (painted_at (sym c.if-self-eq1.true) (first-painted _ _ _ _ _ _ c.paint_pixel.ensures))

pub returns : goal.returns
returns c =
    rw c.in-Some.is (inserted-painted c.part.ensures (omega arith) c.in-Some.fg c.args.bg c.paint_pixel.ensures c.paint_many-2.ensures)
