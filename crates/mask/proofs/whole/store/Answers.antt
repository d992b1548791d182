-- `store` meets its contract: i bytes are stored. Assumes nothing.
use Rattle.std.proofs.Common.{refl, arith}
use lib.ListN.{length-set}
use Rattle.byte_runs.specs.Runs.{run}
use Rattle.byte_runs.proofs.Runs.{run_more}
use Rattle.mask.proofs.whole.store.Goals as goal

pub loop-i-init : goal.loop-i-init
unfolding run
loop-i-init g c = record { long = refl; stored = refl }

pub loop-i-preserved : goal.loop-i-preserved
loop-i-preserved g c = record { long = simp length-set (omega arith); stored = run_more _ _ _ _ _ c.loop-i.invariant.stored }
