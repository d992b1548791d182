-- `paint_masks` meets its contract: whole masks, if there are any, and then none or the part that is left. Assumes nothing.
use mathlib.Core.Path.{◌≡◌, refl}
use Prim.Native.Nat.{◌+◌, ◌*◌, ◌/◌, ◌%◌}
use native.Mathlib.Omega.{arith}
use Rattle.rle.proofs.Painting.{painted_at, painted-zero, painted_as, painted_join, painted_in, front-painted, image_later}
use Rattle.rle.proofs.span.Span.paint_masks.Goals as goal
use Rattle.rle.proofs.span.Span.paint_masks.Goals.{then-m-gt0, else-m-gt0}

pub returns-then-rest-eq0 : goal.returns-then-rest-eq0
returns-then-rest-eq0 c =
    let e : c.args.self.pixels / 8 * 8 ≡ c.args.self.pixels = omega arith in
    painted_at e
    (elim c.if-m-gt0.branch [
      | then-m-gt0 w ↦ rw w.dst-is (front-painted w.part.ensures refl w.paint_whole_masks.ensures)
      | else-m-gt0 w ↦ (let none : c.args.self.pixels / 8 * 8 ≡ 0 = omega (arith, w.if-m-gt0.false) in rw w.dst-is (painted-zero none))
    ])

pub returns : goal.returns
returns c =
    let e : c.args.self.pixels / 8 * 8 + c.args.self.pixels % 8 ≡ c.args.self.pixels = omega arith in
    painted_at e
    (painted_join _ _ _ (c.args.self.pixels / 8 * 8) (c.args.self.pixels % 8) _ _ _ _ (elim c.if-m-gt0.branch [
      | then-m-gt0 w ↦ rw w.dst-is (front-painted w.part.ensures refl w.paint_whole_masks.ensures)
      | else-m-gt0 w ↦ (let none : c.args.self.pixels / 8 * 8 ≡ 0 = omega (arith, w.if-m-gt0.false) in rw w.dst-is (painted-zero none))
    ])
    (painted_as (λ j b. image_later _ _ c.args.src.now c.args.from (c.args.self.pixels / 8) j) (painted_in c.part-2.ensures c.paint_mask_part.ensures)))
