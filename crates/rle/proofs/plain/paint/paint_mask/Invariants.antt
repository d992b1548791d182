-- `paint_mask` meets its contract. The invariant: i pixels are painted, and m is the mask without its i lowest bits. Assumes nothing.
use Prim.Native.Nat.{◌/◌, ◌^◌}
use mathlib.Core.Path.{◌≡◌}
use Rattle.rle.specs.Painting.{Painted, ink_of}
use Rattle.definition.specs.Decode.{mask_ink}
use Rattle.rle.proofs.plain.paint.paint_mask.Given as goal

abbrev pub invariant-loop-i : goal.invariant-loop-i
invariant-loop-i l =
    (l.m ≡ l.mask / 2 ^ l.i) × Painted l.span.bytes l.span.width (mask_ink (ink_of l.fg) (ink_of l.bg) l.mask) l.span.start l.i l.initial.dst l.dst
