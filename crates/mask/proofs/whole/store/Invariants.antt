-- `store` meets its contract: i bytes are stored. Assumes nothing.
use Rattle.std.proofs.Common.{◌≡◌, length}
use Rattle.byte_runs.specs.Runs.{run, listed}
use Rattle.mask.proofs.whole.store.Given as goal

abbrev pub invariant-loop-i : goal.invariant-loop-i
invariant-loop-i g l = record {
  long : length l.dst ≡ length l.initial.dst;
  stored : l.dst ≡ run (listed l.t) l.to l.i l.initial.dst;
}
