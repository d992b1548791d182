-- `paint_dithered` meets its contract. The invariant: i pixels are painted. Assumes nothing.
use Rattle.definition.specs.Decode.{dither_ink}
use Rattle.rle.specs.Painting.{Painted}
use Rattle.rle.proofs.plain.paint.paint_dithered.Given as goal

abbrev pub invariant-loop-i : goal.invariant-loop-i
invariant-loop-i l = Painted l.span.bytes l.span.width (dither_ink l.a l.b) l.span.start l.i l.initial.dst l.dst
