-- Laws of a call without a target: refused before the stream, or walked to its end. Assumes nothing.
use mathlib.Core.Path.{◌≡◌, refl, sym, ◌∙◌}
use mathlib.Core.List.{List}
use Prim.Native.Nat.{ℕ, ◌≤◌}
use native.Mathlib.Nat.{zero-add}
use native.Mathlib.Omega.{arith}
use Rattle.std.specs.Prelude.{Some, None, Ok, Err}
use Rattle.std.specs.Result.{is_ok}
use Rattle.base.proofs.Tests.{apart}
use Rattle.picture.specs.declared.outcome.RleError.{RleError}
use Rattle.rle.specs.declared.report.Report.{Report}
use Rattle.rle.specs.declared.frame.Frame.{Frame as CodeFrame}
use Rattle.rle.specs.declared.walk.Walk.{Walk}
use Rattle.rle.specs.declared.walk.Walked.{Walked}
use Rattle.picture.specs.Sizes.{Frame, checked, accepted, refused}
use Rattle.picture.specs.Outcomes.{refusal_of}
use Rattle.definition.specs.Decode.{start, decode, result_of, of_run, of_checked, result, summary_of}
use Rattle.rle.specs.Report.{summary_in}
use Rattle.rle.specs.Planning.{CodeEnding}
use Rattle.rle.specs.States.{frame_of}
use Rattle.rle.specs.Walking.{Stop, ending_by, RunsOut, stops_at, WalksOrders}
use Rattle.rle.specs.Walks.{start_walk}
use Rattle.rle.specs.Reporting.{summary_after, not_decoded}
use Rattle.rle.proofs.Calls.{result-is}
use Rattle.rle.proofs.Finding.{start-stands}

pub counts-refused : (src : List ℕ) (bpp w h : ℕ) (e : RleError) → refused (refusal_of e) ≡ checked bpp w h
    → summary_in (not_decoded e) ≡ summary_of (result src bpp w h)
unfolding result of_checked
counts-refused src bpp w h e s = rw (← s)

-- how the stream ended up to where a walk stopped, by what `map` makes of the stop
pub ended : (x : Stop) (r : CodeEnding) → is_ok r ≡ is_ok x → ((e : RleError) → x ≡ Err e → r ≡ Err e) → r ≡ ending_by x
ended (Ok o) (Ok u) v h = refl
ended (Ok o) (Err e) v h = apart cc
ended (Err e) r v h = h e refl

-- the orders ran out: the report
counts-run : (f : Frame) (c : ℕ) (src : List ℕ) (n : ℕ) (e : CodeEnding) (pixels orders : ℕ) → RunsOut f (start f src) n e pixels orders → (r : Report)
    → summary_in r ≡ summary_after e c pixels orders → summary_in r ≡ summary_of (of_run f c (decode f src))
unfolding result_of decode start
counts-run f c src n e pixels orders out r reports =
    let o = sym (zero-add orders) ∙ out.counted in
    rw (← out.is, ← result-is f c e out.state) (reports ∙ (λ i. summary_after e c (out.painted i) (o i)))

-- no picture completes more orders than it has pixels
counts_stopped : (f : CodeFrame) (c : ℕ) (src : List ℕ) (x : Stop) (w : Walk) (k : ℕ) → k ≤ f.total
    → stops_at x (frame_of f) src (start (frame_of f) src) f.total w k → (r : Report) → summary_in r ≡ summary_after (ending_by x) c w.pixels k
    → summary_in r ≡ summary_of (of_run (frame_of f) c (decode (frame_of f) src))
counts_stopped f c src (Ok None) w k few out r reports = counts-run (frame_of f) c src f.total (Ok tt) w.pixels k out r reports
counts_stopped f c src (Err e) w k few out r reports = counts-run (frame_of f) c src f.total (Err e) w.pixels k out r reports
counts_stopped f c src (Ok (Some x)) w k few reaches r reports = absurd (omega (arith, reaches.counted))

pub counts_walked : (bpp w h : ℕ) (f : CodeFrame) {format : ℕ} → accepted (frame_of f) format ≡ checked bpp w h → (src : List ℕ) (x : Walked)
    → WalksOrders (frame_of f) src start_walk f.total x
    → (r : Report) → summary_in r ≡ summary_after (ending_by x.stop) format x.walk.pixels x.orders
    → summary_in r ≡ summary_of (result src bpp w h)
unfolding result of_checked
counts_walked bpp w h f {format} is src x walks r reports =
    rw (← is)
    (counts_stopped f format src x.stop x.walk x.orders walks.within (walks.stops (start (frame_of f) src) (start-stands (frame_of f) src)) r reports)
