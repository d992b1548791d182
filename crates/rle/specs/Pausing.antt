-- What the functions of pauses.rt promise each other.
use Rattle.std.specs.Prelude.{◌≡◌, Bool, true, false, ℕ, Result, Ok, Err, ltb}
use Rattle.picture.specs.declared.outcome.Numbers.{Numbers}
use Rattle.picture.specs.declared.outcome.RlePixelFormat.{RlePixelFormat}
use Rattle.rle.specs.declared.pauses.Progress.{Progress}
use Rattle.rle.specs.declared.pauses.Progress.TheVariants.{Ended, Paused}
use Rattle.rle.specs.declared.pauses.ResumeError.{ResumeError}
use Rattle.rle.specs.declared.pauses.ResumeError.TheVariants.{Refused}
use Rattle.rle.specs.declared.pauses.SomeReport.{SomeReport}
use Rattle.rle.specs.declared.state.State.{State}
use Rattle.rle.specs.declared.state.Stepped.{Stepped}
use Rattle.rle.specs.Pauses.{resume_refusal}
use Rattle.rle.specs.Planning.{CodeEnding}
use Rattle.rle.specs.Reporting.{or_by}
use Rattle.rle.specs.States.{kept_state}

-- how orders that ended so, in the state s of a stream of `size` bytes, came out: they are paused where the stream goes on
abbrev pub progress_at : Bool → RlePixelFormat → State → Progress
progress_at true k s = Paused (kept_state s)
progress_at false k s = Ended k

abbrev pub outcome_at : CodeEnding → Progress → Result Progress ResumeError
outcome_at (Ok u) p = Ok p
outcome_at (Err e) p = Err (Refused e)

abbrev pub some_report_of : Stepped → ℕ → RlePixelFormat → SomeReport
some_report_of r size k =
    record {
      outcome = outcome_at r.ending (progress_at (ltb r.state.walk.pos size) k r.state);
      pixels = r.state.walk.pixels;
      orders = r.state.orders;
    }

-- orders that were refused before the stream
abbrev pub not_resumed : ResumeError → SomeReport
not_resumed e = record { outcome = Err e; pixels = 0; orders = 0 }

abbrev pub some_report_in : Result SomeReport ResumeError → SomeReport
some_report_in = or_by not_resumed

-- a refusal in numbers
pub record Numbered (e : ResumeError) (r : Numbers) : Type 0 where
  pub format : r.format ≡ 0
  pub refusal : r.refusal ≡ (resume_refusal e).number
  pub first : r.first ≡ (resume_refusal e).first
  pub second : r.second ≡ (resume_refusal e).second
