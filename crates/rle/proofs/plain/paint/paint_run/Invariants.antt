-- `paint_run` meets its contract. The invariant: i pixels are painted. Assumes nothing.
use Rattle.rle.specs.Painting.{Painted, ink_of}
use Rattle.rle.proofs.plain.paint.paint_run.Given as goal

abbrev pub invariant-loop-i : goal.invariant-loop-i
invariant-loop-i l = Painted l.span.bytes l.span.width (λ _. ink_of l.ink) l.span.start l.i l.initial.dst l.dst
