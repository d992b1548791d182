-- `extract_run_length_mega_mega` meets its contract: two bytes are missing, are 0, or are the length. Assumes nothing.
use mathlib.Core.Path.{◌≡◌}
use borrow.Author.Rules.{rules}
use native.Mathlib.Omega.{arith}
use Rattle.std.proofs.lemmas.Result.{err_from_is_err_and}
use Rattle.buf.proofs.Reading.{u16_is, u16_few}
use Rattle.rle.proofs.Lengths.{was_ok, was_err, long_short, long-zero, long-is}
use Rattle.rle.proofs.reader.Reader.extract_run_length_mega_mega.Goals as goal

pub returns-in_err-pixels : goal.returns-in_err-pixels
returns-in_err-pixels c =
    let at = c.args.self.at in
    let e = err_from_is_err_and c.from_residual.result c.from_residual.ensures.1 in
    let m = was_err c.peek_u16.result c.in_err-pixels.field-0.0 c.in_err-pixels.ensures.cases in
    let is : c.in_err-pixels.field-0.0 ≡ record { error = m.0; next = at.pos } = search rules in
    rw (e.1, e.2, is) (long_short at.inner.now at.pos c.args.self.inside _ (u16_few at.inner.now at.pos _ _ c.peek_u16.ensures.value m.1))

pub returns-in-0 : goal.returns-in-0
returns-in-0 c =
    let at = c.args.self.at in
    long-zero at.inner.now at.pos c.args.self.inside _
    (u16_is at.inner.now at.pos _ _ c.peek_u16.ensures.value (was_ok c.peek_u16.result _ c.in_ok-pixels.ensures.cases)) c.in-0.is

pub returns-in_default : goal.returns-in_default
returns-in_default c =
    let at = c.args.self.at in
    let ok = was_ok c.peek_u16.result _ c.in_ok-pixels.ensures.cases in
    long-is at.inner.now at.pos c.args.self.inside _ (u16_is at.inner.now at.pos _ _ c.peek_u16.ensures.value ok)
    (omega (arith, rw ok at c.peek_u16.ensures.range)) (search rules)
