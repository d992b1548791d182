-- `color_image` meets its contract: the image is painted as planned, with the pixels of the stream. Assumes nothing.
use mathlib.Core.Path.{refl}
use native.Mathlib.Omega.{arith}
use Rattle.std.proofs.lemmas.List.{take_rest}
use Rattle.definition.specs.Plan.{counts_of, kind_ink}
use Rattle.rle.specs.declared.kind.Kind.TheVariants.{ColorImage}
use Rattle.rle.proofs.Painting.{painted-zero}
use Rattle.rle.proofs.Orders.{Planned, planned, fits, few_behind, has_place, has_operands, next-painted, executes_kept}
use Rattle.rle.proofs.order.Order.color_image.Goals.{After-color_image-p}
use Rattle.rle.proofs.order.Order.color_image.Goals as goal

plan : (c : After-color_image-p) → Planned c.args.self ColorImage c.args.dst.now c.color_image-p.result
unfolding counts_of
plan c = planned c.requires (omega arith) c.room.ensures c.color_image-p.ensures

pub finished-requires : goal.finished-requires
finished-requires c = fits (plan (goal.at.finished-requires c).After-color_image-p) refl

pub returns-then-p-eq0 : goal.returns-then-p-eq0
returns-then-p-eq0 c = executes_kept (plan (goal.at.returns-then-p-eq0 c).After-color_image-p) refl c.finished.ensures (painted-zero c.if-p-eq0.true)

pub span-requires : goal.span-requires
span-requires c = few_behind (plan (goal.at.span-requires c).After-color_image-p)

pub paint_image-requires : goal.paint_image-requires
paint_image-requires c =
    let p = plan (goal.at.paint_image-requires c).After-color_image-p in
    let is = c.span.ensures in
    record { place = has_place p is; operands = rw (is.bytes, is.pixels) (omega (arith, has_operands p)) }

pub finished-requires-2 : goal.finished-requires-2
finished-requires-2 c = fits (plan (goal.at.finished-requires-2 c).After-color_image-p) refl

pub returns : goal.returns
unfolding kind_ink
returns c =
    executes_kept (plan (goal.at.returns c).After-color_image-p) refl c.finished-2.ensures
    (rw c.span.ensures.bytes at (next-painted c.span.ensures (rw take_rest at c.paint_image.ensures)))
