-- `resume` meets its contract: refused before the stream, or decoded from the state. Assumes nothing.
use mathlib.Core.Path.{◌≡◌, sym, ◌∙◌}
use mathlib.Core.Bool.{false}
use Prim.Native.Nat.{◌≤◌}
use native.Mathlib.Omega.{arith}
use lib.ListN.{length}
use borrow.Author.Rules.{rules}
use Rattle.std.proofs.lemmas.Result.{err_from_is_err_and}
use Rattle.definition.specs.Pauses.{bad_state, with_state}
use Rattle.decoder_state.specs.States.{saved_in}
use Rattle.rle.specs.declared.pauses.ResumeError.TheVariants.{BadState}
use Rattle.rle.specs.States.{frame_of, state_from, Invariant}
use Rattle.rle.proofs.Calls.{spaced}
use Rattle.rle.proofs.Stream.{runs_cut}
use Rattle.rle.proofs.Pausing.{good-invariant, resumes_refused, resumes_decoded}
use Rattle.rle.proofs.pauses.resume.Goals.{Else-is_bad}
use Rattle.rle.proofs.pauses.resume.Goals as goal

-- the state has passed the tests
good : (c : Else-is_bad) → bad_state (length c.args.src.now) c.in_ok-f.f.total c.in_ok-f.f.width c.in_ok-f.f.depth.bytes (saved_in c.args.state) ≡ false
good c = sym c.is_bad.ensures ∙ c.if-is_bad.false

holds : (c : Else-is_bad) → Invariant (frame_of c.in_ok-f.f) (state_from c.args.state) × (c.args.state.pos ≤ length c.args.src.now)
holds c = good-invariant (frame_of c.in_ok-f.f) _ c.args.state (search rules) (good c)

pub returns-in_err-f : goal.returns-in_err-f
unfolding with_state
returns-in_err-f c =
    let e = err_from_is_err_and c.from_residual.result c.from_residual.ensures.1 in
    rw (e.1, e.2) (resumes_refused _ _ _ _ _ _ _ _ (rw (← c.in_err-f.ensures)))

pub returns-then-is_bad : goal.returns-then-is_bad
unfolding with_state
returns-then-is_bad c =
    resumes_refused _ _ _ _ _ _ _ BadState (rw (← c.in_ok-f.ensures, ← c.if-is_bad.ensures))

pub some_orders-r-requires-clause-fits : goal.some_orders-r-requires-clause-fits
some_orders-r-requires-clause-fits c = (spaced _ _ c.in_ok-f.ensures).1

pub some_orders-r-requires-clause-invariant : goal.some_orders-r-requires-clause-invariant
some_orders-r-requires-clause-invariant c = (holds (goal.at.some_orders-r-requires-clause-invariant c).Else-is_bad).0

pub some_orders-r-requires-clause-place : goal.some_orders-r-requires-clause-place
some_orders-r-requires-clause-place c = (holds (goal.at.some_orders-r-requires-clause-place c).Else-is_bad).1

pub returns : goal.returns
returns c =
    let h = holds (goal.at.returns c).Else-is_bad in
    let runs = runs_cut (frame_of c.in_ok-f.f) c.args.src.now c.args.dst.now c.args.limit 18446744073709551615 (state_from c.args.state)
    (omega (arith, h.0.counted, h.0.within, c.in_ok-f.f.few)) in
    rw c.new.ensures
    (resumes_decoded _ _ _ c.args.bpp c.args.width c.args.height _ c.args.state c.in_ok-f.f _ c.in_ok-f.ensures h.0.within (good (goal.at.returns c).Else-is_bad) _
    c.some_orders-r.auto.dst (rw (c.saturating_add.ensures, runs) at c.some_orders-r.ensures))
