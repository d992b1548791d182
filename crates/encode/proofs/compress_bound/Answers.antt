-- `compress_bound` meets its contract. Assumes nothing.
use Prim.Native.Nat.{◌*◌}
use native.Mathlib.Omega.{arith}
use Rattle.picture.proofs.Sizes.{matched, sized, few, few_bytes}
use Rattle.encode.proofs.Answers.{bound-refused, bound_good}
use Rattle.encode.proofs.Streams.{overhead-few}
use Rattle.encode.proofs.compress_bound.Goals as goal

pub overflow_mul-width : goal.overflow_mul-width
overflow_mul-width c =
    let a = c.args in
    let s = matched c.in-Ok.is c.picture_size.ensures in
    let g = sized a.bpp a.width a.height _ s in
    omega (arith, few g.width g.height)

pub overhead-requires : goal.overhead-requires
overhead-requires c =
    let a = c.args in
    let s = matched c.in-Ok.is c.picture_size.ensures in
    let g = sized a.bpp a.width a.height _ s in
    few g.width g.height

pub overflow_add-result : goal.overflow_add-result
overflow_add-result c =
    let a = c.args in
    let s = matched c.in-Ok.is c.picture_size.ensures in
    let g = sized a.bpp a.width a.height _ s in
    omega (
      arith,
      few g.width g.height,
      few_bytes a.bpp g.known g.width g.height,
      g.size,
      c.overhead.ensures,
      overhead-few c.bytes_per_pixel.result (a.width * a.height),
    )

pub returns-in-Err : goal.returns-in-Err
returns-in-Err c =
    let a = c.args in
    bound-refused a.bpp a.width a.height _ (matched c.in-Err.is c.picture_size.ensures)

pub returns-in-Ok : goal.returns-in-Ok
returns-in-Ok c =
    let a = c.args in
    let s = matched c.in-Ok.is c.picture_size.ensures in
    bound_good a.bpp a.width a.height _ _ _ s c.bytes_per_pixel.ensures c.overhead.ensures
