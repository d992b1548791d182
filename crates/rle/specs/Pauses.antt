-- What `decompress_some` promises, as equations with the definition of decoding that pauses (crate `definition`, specs/Pauses.antt).
use Rattle.std.specs.Prelude.{◌≡◌, List, ◌++◌, Option, Some, None, Result, Ok, Err, false, ℕ, ◌*◌, ◌≤◌, length, take, drop}
use Rattle.picture.specs.Pixels.{bytes_of}
use Rattle.picture.specs.Sizes.{Refusal, refusal, Frame, Checked, accepted, checked, with_space}
use Rattle.picture.specs.Outcomes.{refusal_of, format_of}
use Rattle.definition.specs.Decode.{State, Run, ended, paused, refused, run, Summary, summary, summary_of}
use Rattle.definition.specs.Pauses.{Saved, restored, bad_state, with_state, Part, decode_some}
use Rattle.decoder_state.specs.declared.State.{State as CodeState}
use Rattle.decoder_state.specs.States.{saved_in}
use Rattle.rle.specs.declared.pauses.Progress.{Progress}
use Rattle.rle.specs.declared.pauses.Progress.TheVariants.{Ended, Paused}
use Rattle.rle.specs.declared.pauses.ResumeError.{ResumeError}
use Rattle.rle.specs.declared.pauses.ResumeError.TheVariants.{Refused, BadState}
use Rattle.rle.specs.declared.pauses.SomeReport.{SomeReport}

-- the number and the values of each refusal
abbrev pub resume_refusal : ResumeError → Refusal
resume_refusal (Refused e) = refusal_of e
resume_refusal BadState = refusal 15 0 0

-- number 0: no refusal
abbrev pub refusal_some : Result Progress ResumeError → Refusal
refusal_some (Ok p) = refusal 0 0 0
refusal_some (Err e) = resume_refusal e

-- 0: paused or refused
abbrev pub format_some : Result Progress ResumeError → ℕ
format_some (Ok (Ended k)) = format_of k
format_some (Ok (Paused s)) = 0
format_some (Err e) = 0

-- the state to go on from
abbrev pub state_some : Result Progress ResumeError → Option Saved
state_some (Ok (Ended k)) = None
state_some (Ok (Paused s)) = Some (saved_in s)
state_some (Err e) = None

abbrev pub summary_some : SomeReport → Summary
summary_some r = summary (refusal_some r.outcome) (format_some r.outcome) r.pixels r.orders

-- report and state are those of the part p; the target holds its painted pixels, which are at first those that the state s found there, and
-- then what it held
pub record AgreesSome (before after : List ℕ) (total : ℕ) (s : CodeState) (r : SomeReport) (p : Part) : Type 0 where
  pub report : summary_some r ≡ summary_of p.result
  pub state : state_some r.outcome ≡ p.state
  pub target : after ≡ bytes_of p.result.bytes p.result.painted ++ drop (length p.result.painted * p.result.bytes) before
  -- D bytes for each painted pixel
  pub painted : length (bytes_of p.result.bytes p.result.painted) ≡ length p.result.painted * p.result.bytes
  pub begun : take (s.pixels * p.result.bytes) after ≡ take (s.pixels * p.result.bytes) before
  pub within : r.pixels ≤ total
  pub counted : r.orders ≤ r.pixels

-- with the stream and the target as it is then, the state s passes the tests and stands for t
pub record Resumes (f : Frame) (src after : List ℕ) (s : Saved) (t : State) : Type 0 where
  pub good : bad_state (length src) f.total f.width f.bytes s ≡ false
  pub restores : restored f src after s ≡ t

-- where orders are paused, the state to go on from stands for the one that they led to
abbrev pub resumes_run : List ℕ → List ℕ → Frame → Option Saved → Run → Type 0
resumes_run src after f None r = Unit {0}
resumes_run src after f (Some s) (ended t) = ⊥
resumes_run src after f (Some s) (paused t) = Resumes f src after s t
resumes_run src after f (Some s) (refused r t) = ⊥

abbrev pub resumes : List ℕ → List ℕ → List ℕ → Saved → ℕ → Option Saved → Checked → Type 0
resumes src before after s n next (Checked.refused r) = Unit {0}
resumes src before after s n next (accepted f k) = resumes_run src after f next (run f n (restored f src before s))

-- one call, of at most n orders from the state s on, with the stream src, into a target that held `before` and then holds `after`
pub record DecompressesSome (src : List ℕ) (bpp w h : ℕ) (s : CodeState) (n : ℕ) (before after : List ℕ) (r : SomeReport) : Type 0 where
  pub agrees : AgreesSome before after (w * h) s r (decode_some src bpp w h before (saved_in s) n)
  pub goes_on :
      resumes src before after (saved_in s) n (state_some r.outcome) (with_state (length src) (saved_in s) (with_space (length before) (checked bpp w h)))
