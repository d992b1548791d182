-- `part_to_show` meets its contract: the sides are at most 8,192, so no product overflows. Assumes nothing.
use native.Mathlib.Omega.{arith}
use Rattle.picture.proofs.Sizes.{sized}
use Rattle.screen.proofs.Rows.{row_small, row_ends, pixels_small}
use Rattle.screen.proofs.part_to_show.Goals as goal

pub overflow_mul-row : goal.overflow_mul-row
overflow_mul-row c =
    omega (arith, row_small (sized _ _ _ _ c.in-Ok.ensures) _ c.bytes_per_pixel.ensures)

pub overflow_mul-painted : goal.overflow_mul-painted
overflow_mul-painted c =
    omega (arith, pixels_small (sized _ _ _ _ c.in-Ok.ensures) _ c.bytes_per_pixel.ensures _ c.if-r-height.true)

pub overflow_mul-result : goal.overflow_mul-result
overflow_mul-result c =
    omega (arith, row_ends (sized _ _ _ _ c.in-Ok.ensures) _ c.bytes_per_pixel.ensures _ c.if-r-height.true)
