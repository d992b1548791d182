-- `extract_run_length_mega` meets its contract: the next byte is missing, or is there. Assumes nothing.
use mathlib.Core.Path.{◌≡◌}
use borrow.Author.Rules.{rules}
use native.Mathlib.Omega.{arith}
use Rattle.std.proofs.lemmas.Result.{err_from_is_err_and}
use Rattle.buf.proofs.Reading.{u8_is, u8_few}
use Rattle.rle.proofs.Lengths.{was_ok, was_err, mega_short, mega_read}
use Rattle.rle.proofs.reader.Reader.extract_run_length_mega.Goals as goal

pub overflow_add-result : goal.overflow_add-result
overflow_add-result c =
    let ok = was_ok c.peek_u8.result _ c.in_ok-byte.ensures.cases in
    omega (arith, rw ok at c.peek_u8.ensures.range)

pub returns-in_err-byte : goal.returns-in_err-byte
returns-in_err-byte c =
    let at = c.args.self.at in
    let e = err_from_is_err_and c.from_residual.result c.from_residual.ensures.1 in
    let m = was_err c.peek_u8.result c.in_err-byte.field-0.0 c.in_err-byte.ensures.cases in
    let is : c.in_err-byte.field-0.0 ≡ record { error = m.0; next = at.pos } = search rules in
    rw (e.1, e.2, is) (mega_short at.inner.now at.pos c.args.self.inside _ _ (u8_few at.inner.now at.pos _ _ c.peek_u8.ensures.value m.1))

pub returns : goal.returns
returns c =
    let at = c.args.self.at in
    let ok = was_ok c.peek_u8.result _ c.in_ok-byte.ensures.cases in
    let is = u8_is at.inner.now at.pos _ _ c.peek_u8.ensures.value ok in
    mega_read at.inner.now at.pos c.args.self.inside _ _ is (omega (arith, rw ok at c.peek_u8.ensures.range)) c.requires.0 c.requires.1
