-- What the plan functions promise: the definition's counts.
use Rattle.std.specs.Prelude.{Result, Ok, Err}
use Rattle.picture.specs.declared.outcome.RleError.{RleError}
use Rattle.picture.specs.Outcomes.{refusal_of}
use Rattle.definition.specs.Plan.{Ending, complete, refused, Counts, counts}
use Rattle.rle.specs.declared.plan.Plan.{Plan as CodePlan}

-- how the code says that an order, or a whole stream, ends
abbrev pub CodeEnding : Type 0
CodeEnding = Result (Unit {0}) RleError

abbrev pub ending_in : CodeEnding → Ending
ending_in (Ok u) = complete
ending_in (Err e) = refused (refusal_of e)

-- what the code's plan counts
abbrev pub counts_in : CodePlan → Counts
counts_in p = counts p.read p.pixels (ending_in p.ending)
