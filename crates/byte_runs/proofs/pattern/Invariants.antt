-- `pattern` meets its contract: the pixel is in the array i times. Assumes nothing.
use Rattle.std.proofs.Common.{◌≡◌, ◌*◌, length}
use Rattle.byte_runs.specs.Runs.{run, bytes, turn}
use Rattle.byte_runs.proofs.pattern.Given as goal

abbrev pub invariant-loop-i : goal.invariant-loop-i
invariant-loop-i g l = record {
  long : length l.t ≡ g.row.N;
  filled : l.t ≡ run (bytes (turn l.pixel g.row.D)) 0 (l.i * g.row.D) l.initial.t;
}
