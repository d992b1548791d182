-- `one_pixel` meets its contract: one pixel or none is painted as planned. Assumes nothing.
use mathlib.Core.Path.{◌≡◌, refl, ap, sym, ◌∙◌, subst}
use native.Mathlib.Omega.{arith}
use Prim.Native.Nat.{◌<◌}
use Rattle.definition.specs.Plan.{Counts}
use Rattle.rle.proofs.Painting.{painted-zero, painted_at, first-painted}
use Rattle.rle.proofs.Orders.{Planned, planned, fits, few_behind, has_place, has_operands, executes_kept}
use Rattle.rle.proofs.Sharing.{IsColored, pixel_counts, pixel_keeps, pixel_colored, colored_counts, color_depth, pixel-painted}
use Rattle.rle.proofs.order.Order.one_pixel.Goals.{After-pixel-p, After-complete-whole}
use Rattle.rle.proofs.order.Order.one_pixel.Goals as goal

plan : (c : After-pixel-p) → Planned c.args.self c.args.self.kind c.args.dst.now c.pixel-p.result
plan c = planned c.requires.place (omega arith) c.room.ensures (c.pixel-p.ensures ∙ pixel_counts _ _ _ _ c.requires.pixel c.args.self.fixed)

pub finished-requires : goal.finished-requires
finished-requires c = fits (plan (goal.at.finished-requires c).After-pixel-p) refl

pub returns-then-p-eq0 : goal.returns-then-p-eq0
returns-then-p-eq0 c =
    executes_kept (plan (goal.at.returns-then-p-eq0 c).After-pixel-p) (pixel_keeps c.requires.pixel) c.finished.ensures (painted-zero c.if-p-eq0.true)

-- where a pixel is painted, the order has a color, and the plan in constants is its own
whole : (c : After-complete-whole) → IsColored c.args.self.kind × Planned c.args.self c.args.self.kind c.args.dst.now c.complete-whole.result
whole c =
    let o = c.args.self in
    let p : Planned o o.kind c.args.dst.now c.pixel-p.result =
    planned c.requires.place (omega arith) c.room.ensures (c.pixel-p.ensures ∙ pixel_counts _ _ _ _ c.requires.pixel o.fixed) in
    let some : 0 < c.pixel-p.result.pixels = omega (arith, c.if-p-eq0.false) in
    let colored = pixel_colored _ _ _ c.requires.pixel (has_operands p) some in
    let counts = colored_counts _ _ _ _ colored o.fixed (subst (λ (x : Counts). 0 < x.pixels) p.counts some) in
    (colored, record { place = p.place; short = p.short; counts = c.complete-whole.ensures ∙ counts })

pub span-requires : goal.span-requires
span-requires c = few_behind (whole (goal.at.span-requires c).After-complete-whole).1

pub paint_pixel-requires : goal.paint_pixel-requires
paint_pixel-requires c =
    let w = whole (goal.at.paint_pixel-requires c).After-complete-whole in
    let color = c.white_or_black.ensures in
    record {
      place = has_place w.1 c.span.ensures;
      paintable = rw c.span.ensures.bytes (color_depth c.args.self.frame w.0 color.white color.black);
      inside = rw c.span.ensures.pixels (omega (arith, ap (λ (x : Counts). x.pixels) c.complete-whole.ensures));
    }

pub finished-requires-2 : goal.finished-requires-2
finished-requires-2 c = fits (whole (goal.at.finished-requires-2 c).After-complete-whole).1 refl

pub returns : goal.returns
returns c =
    let w = whole (goal.at.returns c).After-complete-whole in
    let is = c.span.ensures in
    let one : c.complete-whole.result.pixels ≡ 1 = ap (λ (x : Counts). x.pixels) c.complete-whole.ensures in
    executes_kept w.1 (pixel_keeps c.requires.pixel) c.finished-2.ensures
    (pixel-painted _ _ _ _ w.0 _ c.white_or_black.ensures.white c.white_or_black.ensures.black _
    (painted_at (sym one) (first-painted _ _ _ _ _ _ (rw (is.bytes, is.width, is.start) at c.paint_pixel.ensures))))
