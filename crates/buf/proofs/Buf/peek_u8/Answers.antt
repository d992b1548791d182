-- `peek_u8` meets its contract: one byte, or none. Assumes nothing.
use mathlib.Core.Path.{◌≡◌, sym, ◌∙◌}
use Rattle.std.specs.Prelude.{Ok}
use Rattle.std.proofs.Common.{◌+◌, get_or, rules}
use native.Mathlib.Omega.{arith}
use native.Mathlib.Nat.{add-zero}
use Rattle.std.proofs.lemmas.Result.{err_from_is_err_and}
use Rattle.buf.specs.Stream.{u8_at}
use Rattle.buf.proofs.Reading.{enough, too_few, read_enough, read_few, byte_read}
use Rattle.buf.proofs.Buf.peek_u8.Goals as goal

pub returns-clause-value : goal.returns-clause-value
unfolding u8_at
returns-clause-value c =
    let r = enough _ _ _ _ (sym c.in_ok-byte.was ∙ c.peek.ensures) in
    let byte = byte_read c.args.self.inner.now c.args.self.pos 1 0 (omega arith) r.1 in
    let is : c.widen.result ≡ get_or c.args.self.inner.now (c.args.self.pos + 0) 0 = c.widen.ensures.0 ∙ search (rules, byte) in
    let value : Ok c.widen.result ≡ u8_at c.args.self.inner.now c.args.self.pos = rw (is, add-zero) (read_enough 1 _ _ r.0) in
    search rules ∙ value

pub returns-in_err-byte-clause-value : goal.returns-in_err-byte-clause-value
unfolding u8_at
returns-in_err-byte-clause-value c =
    let e = err_from_is_err_and c.from_residual.result c.from_residual.ensures.1 in
    let r = too_few _ _ _ _ (sym c.in_err-byte.was ∙ c.peek.ensures) in
    rw (e.1, e.2, r.1) (read_few _ _ _ r.0)
