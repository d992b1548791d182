-- `paint_whole_masks` meets its contract: the bytes that are written are the pixels. Assumes nothing.
use mathlib.Core.Path.{◌≡◌, sym, subst}
use mathlib.Core.List.{List}
use Prim.Native.Nat.{ℕ, ◌*◌, ◌/◌}
use native.Mathlib.Omega.{arith}
use lib.ListN.{drop}
use Rattle.definition.specs.Plan.{image_ink}
use Rattle.rle.specs.Painting.{Paints, ink_of, zero_ink}
use Rattle.rle.proofs.Parts.{masks_painted}
use Rattle.rle.proofs.span.Span.paint_whole_masks.Goals as goal

pub returns : goal.returns
returns c =
    let a = c.args in
    let r = c.requires in
    let whole : a.self.pixels / 8 * 8 ≡ a.self.pixels = omega (arith, r.masks.0) in
    subst (λ (ys : List ℕ). Paints a.self (image_ink (ink_of a.ink) (zero_ink a.ink) (drop a.from a.src.now)) a.dst.now ys)
    (sym (rw (c.back_and_color-back.ensures, whole) at c.mask_rows.ensures))
    (masks_painted a.self a.dst.now a.src.now a.from a.ink r.place r.paintable.0 r.paintable.1)
