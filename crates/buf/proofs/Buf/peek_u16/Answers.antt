-- `peek_u16` meets its contract: two bytes, low byte first, or too few. Assumes nothing.
use mathlib.Core.Path.{◌≡◌, sym, ◌∙◌}
use Prim.Native.Nat.{◌+◌, ◌*◌}
use native.Mathlib.Omega.{arith}
use native.Mathlib.Nat.{add-zero}
use lib.ListN.{get_or}
use Rattle.std.proofs.lemmas.Result.{err_from_is_err_and}
use Rattle.buf.specs.Stream.{u16_at}
use Rattle.buf.proofs.Reading.{enough, too_few, read_enough, read_few, byte_read}
use Rattle.buf.proofs.Buf.peek_u16.Goals as goal

pub returns-clause-value : goal.returns-clause-value
unfolding u16_at
returns-clause-value c =
    let s = c.args.self.inner.now in
    let pos = c.args.self.pos in
    let r = enough _ _ _ _ (sym c.in_ok-low_first.was ∙ c.peek.ensures) in
    let low = byte_read s pos 2 0 (omega arith) r.1 in
    let high = byte_read s pos 2 1 (omega arith) r.1 in
    let is : c.from.result ≡ get_or s pos 0 + get_or s (pos + 1) 0 * 256 = omega (arith, rw (add-zero) at low, high) in
    rw (is) (read_enough 2 _ _ r.0)

pub returns-in_err-low_first-clause-value : goal.returns-in_err-low_first-clause-value
unfolding u16_at
returns-in_err-low_first-clause-value c =
    let e = err_from_is_err_and c.from_residual.result c.from_residual.ensures.1 in
    let r = too_few _ _ _ _ (sym c.in_err-low_first.was ∙ c.peek.ensures) in
    rw (e.1, e.2, r.1) (read_few _ _ _ r.0)
