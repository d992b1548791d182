-- `is_valid` meets its contract: the sides are at most 8,192, so the product fits. Assumes nothing.
use native.Mathlib.Omega.{arith}
use Rattle.picture.proofs.Sizes.{sized, few}
use Rattle.color.proofs.same.Shape.is_valid.Goals as goal

pub overflow_mul-self : goal.overflow_mul-self
overflow_mul-self c =
    let s = sized _ _ _ _ c.in-Ok.ensures in
    omega (arith, few s.width s.height)
