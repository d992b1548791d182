-- `paint_mask_part` meets its contract: the target holds the pixels by a mask in the part of the stream that is lent. Assumes nothing.
use mathlib.Core.Path.{sym, subst}
use mathlib.Core.List.{List}
use Prim.Native.Nat.{ℕ, ◌*◌}
use native.Mathlib.Omega.{arith}
use lib.ListN.{drop}
use Rattle.definition.specs.Plan.{image_ink}
use Rattle.rle.specs.Painting.{Paints, ink_of, zero_ink}
use Rattle.rle.proofs.Parts.{few_masked, back_there, masks_painted}
use Rattle.rle.proofs.span.Span.paint_mask_part.Goals as goal

pub returns : goal.returns
returns c =
    let a = c.args in
    let s = a.self in
    let r = c.requires in
    subst (λ (ys : List ℕ). Paints s (image_ink (ink_of a.ink) (zero_ink a.ink) (drop a.from a.src.now)) a.dst.now ys)
    (sym
    (few_masked s.bytes (s.start * s.bytes) s.pixels a.dst.now _ a.src.now a.from _ s.low s.high (omega (arith, r.place)) r.mask.0 r.mask.1
    (back_there s a.ink r.paintable.0) _ (rw c.back_and_color-back.ensures at c.mask_part.ensures)))
    (masks_painted s a.dst.now a.src.now a.from a.ink r.place r.paintable.0 r.paintable.1)
