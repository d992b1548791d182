-- `paint_image` meets its contract. The invariant: i pixels are painted. Assumes nothing.
use Rattle.picture.specs.Pixels.{pixel_at}
use Rattle.definition.specs.Decode.{solid}
use Rattle.rle.specs.Painting.{Painted}
use Rattle.rle.proofs.plain.paint.paint_image.Given as goal

abbrev pub invariant-loop-i : goal.invariant-loop-i
invariant-loop-i l =
    Painted l.span.bytes l.span.width (λ j. solid (pixel_at l.span.bytes l.src j)) l.span.start l.i l.initial.dst l.dst
