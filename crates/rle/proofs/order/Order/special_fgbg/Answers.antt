-- `special_fgbg` meets its contract: the image is painted as planned, which counts alike for both masks. Assumes nothing.
use mathlib.Core.Path.{◌≡◌, refl, sym, ◌∙◌}
use mathlib.Core.List.{[], ◌∷◌}
use Prim.Native.Nat.{ℕ, ◌<◌}
use native.Mathlib.Nat.{zero-add}
use native.Mathlib.Omega.{arith}
use Rattle.definition.specs.Decode.{Ink, mask_ink}
use Rattle.definition.specs.Plan.{image_ink}
use Rattle.rle.proofs.Painting.{painted-zero, painted_as, mask_in_image}
use Rattle.rle.proofs.Inks.{fg_paintable, fg_color, zero-is}
use Rattle.rle.proofs.Orders.{Planned, planned, fits, few_behind, has_place, next-painted, executes_kept}
use Rattle.rle.proofs.Sharing.{special_eight, special_counts, special_keeps, special_few, special_whole, special_painted}
use Rattle.rle.proofs.order.Order.special_fgbg.Goals.{After-run-p}
use Rattle.rle.proofs.order.Order.special_fgbg.Goals as goal

-- an image of one mask
one_mask : (fg bg : Ink) (m j : ℕ) → j < 8 → image_ink fg bg (m ∷ []) j ≡ mask_ink fg bg m j
one_mask fg bg m j few = sym (rw zero-add at (mask_in_image fg bg (m ∷ []) 0 0 j refl few))

plan : (c : After-run-p) → Planned c.args.self c.args.self.kind c.args.dst.now c.run-p.result
plan c = planned c.requires.place (omega arith) c.room.ensures (c.run-p.ensures ∙ special_counts _ _ _ _ c.requires.special)

pub finished-requires : goal.finished-requires
finished-requires c = fits (plan (goal.at.finished-requires c).After-run-p) refl

pub returns-then-p-eq0 : goal.returns-then-p-eq0
returns-then-p-eq0 c =
    executes_kept (plan (goal.at.returns-then-p-eq0 c).After-run-p) (special_keeps c.requires.special) c.finished.ensures (painted-zero c.if-p-eq0.true)

pub span-requires : goal.span-requires
span-requires c = few_behind (plan (goal.at.span-requires c).After-run-p)

pub paint_whole_masks-requires : goal.paint_whole_masks-requires
paint_whole_masks-requires c =
    let o = c.args.self in
    let counts = rw (special_eight c.requires.special o.fixed) at c.run-p.ensures in
    record {
      place = has_place (plan (goal.at.paint_whole_masks-requires c).After-run-p) c.span.ensures;
      paintable = rw c.fg_ink.ensures (fg_paintable c.span.ensures o.holds.row o.holds.foreground, fg_color o.state);
      masks = rw c.span.ensures.pixels (omega (arith, special_whole _ _ _ counts), omega (arith, special_few _ _ _ counts));
    }

pub finished-requires-2 : goal.finished-requires-2
finished-requires-2 c = fits (plan (goal.at.finished-requires-2 c).After-run-p) refl

pub returns : goal.returns
returns c =
    let few = special_few _ _ _ (rw (special_eight c.requires.special c.args.self.fixed) at c.run-p.ensures) in
    executes_kept (plan (goal.at.returns c).After-run-p) (special_keeps c.requires.special) c.finished-2.ensures
    (special_painted _ _ _ _ c.requires.special _ c.special_mask.ensures.first c.special_mask.ensures.second _
    (painted_as (λ j h. one_mask _ _ _ j (omega arith))
    (next-painted c.span.ensures (rw (c.fg_ink.ensures, zero-is {p = c.args.self.state.foreground} c.args.self.frame c.args.self.state refl) at c.paint_whole_masks.ensures))))
