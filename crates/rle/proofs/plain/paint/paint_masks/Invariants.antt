-- `paint_masks` meets its contract. The invariant: i pixels are painted, by whole masks. Assumes nothing.
use mathlib.Core.Path.{◌≡◌}
use Prim.Native.Nat.{◌%◌, ◌≤◌}
use lib.ListN.{drop}
use Rattle.definition.specs.Plan.{image_ink}
use Rattle.rle.specs.Painting.{Painted, ink_of}
use Rattle.rle.proofs.plain.paint.paint_masks.Given as goal

abbrev pub invariant-loop-i : goal.invariant-loop-i
invariant-loop-i l =
    (l.i ≤ l.span.pixels) × (l.i % 8 ≡ 0)
    × Painted l.span.bytes l.span.width (image_ink (ink_of l.fg) (ink_of l.bg) (drop l.from l.src)) l.span.start l.i l.initial.dst l.dst
