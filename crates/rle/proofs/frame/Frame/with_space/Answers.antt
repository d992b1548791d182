-- `with_space` meets its contract: as `new`, or the target is too short. Assumes nothing.
use Prim.Native.Nat.{◌*◌}
use native.Mathlib.Nat.{mul-le-mul}
use native.Mathlib.Omega.{arith}
use borrow.Author.Tests.{lt-ltb, le-ltb}
use Rattle.std.proofs.lemmas.Result.{err_from_is_err_and}
use Rattle.picture.specs.Sizes.{with_space}
use Rattle.rle.proofs.frame.Frame.with_space.Goals as goal

pub returns-in_err-frame : goal.returns-in_err-frame
unfolding with_space
returns-in_err-frame c =
    let e = err_from_is_err_and c.from_residual.result c.from_residual.ensures.1 in
    rw (e.1, e.2, ← c.in_err-frame.ensures)

pub overflow_mul-needed : goal.overflow_mul-needed
overflow_mul-needed c =
    omega (arith, mul-le-mul c.in_ok-frame.frame.few c.in_ok-frame.frame.high)

pub returns-then-given-needed : goal.returns-then-given-needed
unfolding with_space
returns-then-given-needed c =
    rw (← c.in_ok-frame.ensures, lt-ltb c.args.given (c.in_ok-frame.frame.total * c.in_ok-frame.frame.depth.bytes) c.if-given-needed.true)

pub returns : goal.returns
unfolding with_space
returns c =
    rw (← c.in_ok-frame.ensures, le-ltb c.args.given (c.in_ok-frame.frame.total * c.in_ok-frame.frame.depth.bytes) c.if-given-needed.false)
