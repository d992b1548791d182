-- `paint_masks` meets its contract. The invariant: i pixels are painted, by whole masks. Assumes nothing.
use mathlib.Core.Path.{◌≡◌, refl}
use Prim.Native.Nat.{◌+◌, ◌-◌}
use native.Mathlib.Omega.{arith}
use Rattle.rle.specs.Painting.{ink_of}
use Rattle.rle.proofs.Painting.{painted-none, painted_join, painted_as, painted_at, painted_in, mask_in_image}
use Rattle.rle.proofs.plain.paint.paint_masks.Goals as goal

pub loop-i-init : goal.loop-i-init
loop-i-init c = (omega arith, refl, painted-none)

pub loop-i-preserved : goal.loop-i-preserved
loop-i-preserved c =
    let l = c.loop-i in
    let a = c.args in
    let eight : c.min.result ≡ 8 = omega (arith, c.min.ensures) in (
      omega arith,
      omega arith,
      painted_join _ _ _ _ _ _ _ _ _ l.invariant.2
          (painted_as (λ j b. mask_in_image (ink_of a.fg) (ink_of a.bg) a.src.now a.from l.i j l.invariant.1 (omega arith))
          (rw eight at (painted_in c.part-eight.ensures c.paint_mask.ensures))),
    )

pub returns-2 : goal.returns-2
returns-2 c =
    let l = c.loop-i in
    let a = c.args in
    let few : c.min.result ≡ a.span.pixels - l.i = omega (arith, c.min.ensures) in
    let e : l.i + (a.span.pixels - l.i) ≡ a.span.pixels = omega (arith, l.invariant.0) in
    painted_at e
    (painted_join _ _ _ _ _ _ _ _ _ l.invariant.2
    (painted_as (λ j b. mask_in_image (ink_of a.fg) (ink_of a.bg) a.src.now a.from l.i j l.invariant.1 (omega arith))
    (rw few at (painted_in c.part-eight.ensures c.paint_mask.ensures))))
