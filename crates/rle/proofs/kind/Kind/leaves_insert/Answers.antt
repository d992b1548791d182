-- `leaves_insert` meets its contract: a background run does, no other kind. Assumes nothing.
use Rattle.definition.specs.Plan.{insert_in, leaves}
use Rattle.rle.proofs.Numbers.{no_insert}
use Rattle.rle.proofs.kind.Kind.leaves_insert.Goals as goal

pub returns-in-BgRun : goal.returns-in-BgRun
unfolding insert_in leaves
returns-in-BgRun c = rw c.in-BgRun.is

pub returns-in_default : goal.returns-in_default
returns-in_default c = no_insert c.args.self c.in_default.not-BgRun
