-- `read_pixel` meets its contract: one, two or three bytes, by the depth. Assumes nothing.
use native.Mathlib.Omega.{arith}
use Rattle.picture.proofs.Pixels.{first_pixel_1, first_pixel_2, first_pixel_3}
use Rattle.rle.proofs.pixel.read_pixel.Goals as goal

pub returns-then-d-eq1 : goal.returns-then-d-eq1
returns-then-d-eq1 c =
    let a = c.args in
    first_pixel_1 a.s.now a.at a.d c.if-d-eq1.true

pub returns-then-d-eq2 : goal.returns-then-d-eq2
returns-then-d-eq2 c =
    let a = c.args in
    first_pixel_2 a.s.now a.at a.d c.if-d-eq2.true

pub returns-else-d-eq2 : goal.returns-else-d-eq2
returns-else-d-eq2 c =
    let a = c.args in
    first_pixel_3 a.s.now a.at a.d (omega arith)
