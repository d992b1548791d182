-- `paint_pixel` meets its contract: the three inks, each by one law of painting. Assumes nothing.
use Rattle.rle.proofs.Painting.{one-solid, one-above, one_xor}
use Rattle.rle.proofs.span.Span.paint_pixel.Goals as goal

pub returns-in-Solid : goal.returns-in-Solid
returns-in-Solid c =
    rw c.in-Solid.is
    (one-solid c.args.self c.args.i _ _ c.requires.place c.requires.inside (rw c.in-Solid.is at c.requires.paintable) c.write_pixel.ensures)

pub returns-in-Above : goal.returns-in-Above
returns-in-Above c =
    rw c.in-Above.is
    (one-above c.args.self c.args.i _ _ c.requires.place c.requires.inside (rw c.in-Above.is at c.requires.paintable) c.read_pixel-q.ensures
    c.write_pixel-in-Above.ensures)

pub returns-in-AboveXor : goal.returns-in-AboveXor
returns-in-AboveXor c =
    let paintable = rw c.in-AboveXor.is at c.requires.paintable in
    rw c.in-AboveXor.is
    (one_xor c.args.self c.args.i _ _ c.requires.place c.requires.inside paintable.0 c.read_pixel-q-in-AboveXor.ensures paintable.1 c.xor.ensures
    c.write_pixel-in-AboveXor.ensures)
