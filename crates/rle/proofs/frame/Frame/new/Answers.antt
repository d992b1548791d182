-- `new` meets its contract: no such depth, refused sizes, or a frame. Assumes nothing.
use mathlib.Core.Path.{◌≡◌, sym}
use Prim.Native.Nat.{◌<◌}
use native.Mathlib.Omega.{arith}
use Rattle.std.proofs.lemmas.Result.{err_from_is_err_and}
use Rattle.base.proofs.Tests.{clash}
use Rattle.picture.specs.declared.outcome.RleError.TheVariants.{InvalidBpp}
use Rattle.picture.specs.Sizes.{depth_index, accept}
use Rattle.picture.specs.Outcomes.{depth_in}
use Rattle.picture.proofs.Depths.{Good, depth_good}
use Rattle.picture.proofs.Sizes.{size-bpp, size-refused, sized, few}
use Rattle.rle.proofs.frame.Frame.new.Goals as goal

pub returns-in_err-format : goal.returns-in_err-format
returns-in_err-format c =
    let a = c.args in
    let e = err_from_is_err_and c.from_residual.result c.from_residual.ensures.1 in
    let unknown : depth_index a.bpp < 4 → ⊥ = λ k. clash (c.depth_of-depth.ensures.known.1 k) (sym c.in_err-format.ensures.variant) in
    let is : c.in_err-format.field-0.0 ≡ InvalidBpp a.bpp = grind arith in
    rw (e.1, e.2, is) (sym (size-refused _ _ (size-bpp a.bpp a.width a.height unknown)))

pub returns-in_err-picture_size : goal.returns-in_err-picture_size
returns-in_err-picture_size c =
    let e = err_from_is_err_and c.from_residual-in_err-picture_size.result c.from_residual-in_err-picture_size.ensures.1 in
    rw (e.1, e.2) (sym (size-refused _ _ c.in_err-picture_size.ensures))

pub overflow_mul-frame : goal.overflow_mul-frame
overflow_mul-frame c =
    let a = c.args in
    let k = sized a.bpp a.width a.height _ c.in_ok-picture_size.ensures in
    omega (arith, few k.width k.height)

-- the depth is a row of the table, and the sizes are good
pub invariant_of-frame : goal.invariant_of-frame
invariant_of-frame c =
    let a = c.args in
    let k = sized a.bpp a.width a.height _ c.in_ok-picture_size.ensures in
    let d : Good (depth_in c.depth_of-depth.result) = rw c.depth_of-depth.ensures.row (depth_good a.bpp k.known) in
    record { low = d.low; high = d.high; white = d.white; black = d.black; wide = k.wide; few = few k.width k.height }

pub returns : goal.returns
unfolding accept
returns c =
    let a = c.args in
    let k = sized a.bpp a.width a.height _ c.in_ok-picture_size.ensures in
    rw (k.checks, ← (rw c.in_ok-format.ensures.ok_part at c.depth_of-depth.ensures.row))
