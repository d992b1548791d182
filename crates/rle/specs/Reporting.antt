-- What the functions of report.rt promise: the report that an ending and counts make.
use Rattle.std.specs.Prelude.{ℕ, Result, Ok, Err}
use Rattle.picture.specs.declared.outcome.RleError.{RleError}
use Rattle.picture.specs.Sizes.{Refusal, refusal}
use Rattle.picture.specs.Outcomes.{refusal_of}
use Rattle.definition.specs.Decode.{Summary, summary}
use Rattle.rle.specs.Planning.{CodeEnding}
use Rattle.rle.specs.declared.report.Report.{Report}

abbrev pub refusal_after : CodeEnding → Refusal
refusal_after (Ok u) = refusal 0 0 0
refusal_after (Err e) = refusal_of e

abbrev pub format_after : CodeEnding → ℕ → ℕ
format_after (Ok u) k = k
format_after (Err e) k = 0

-- a stream of format k that was followed to its end or its refusal
abbrev pub summary_after : CodeEnding → ℕ → ℕ → ℕ → Summary
summary_after e k painted completed = summary (refusal_after e) (format_after e k) painted completed

-- a picture that was refused before its stream
abbrev pub not_decoded : RleError → Report
not_decoded e = record { outcome = Err e; pixels = 0; orders = 0 }

-- what a call answers that was refused before its stream, or was not
abbrev pub or_by : {A E : Type 0} → (E → A) → Result A E → A
or_by f (Ok x) = x
or_by f (Err e) = f e

abbrev pub report_in : Result Report RleError → Report
report_in = or_by not_decoded
