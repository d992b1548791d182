-- `xor_blocks` meets its contract: the run is written up to i, or to its end; i is a multiple of the period. Assumes nothing.
use Rattle.std.proofs.Common.{◌≡◌, ◌%◌, length, min}
use Rattle.byte_runs.specs.Runs.{run, xored, turn}
use Rattle.xor.proofs.Xored.xor_blocks.Given as goal

abbrev pub invariant-loop-i : goal.invariant-loop-i
invariant-loop-i g l = record {
  period : l.i % g.row.D ≡ 0;
  long : length l.dst ≡ length l.initial.dst;
  written : l.dst ≡ run (xored l.self.at l.self.row (turn l.self.pixel g.row.D)) l.self.at (min l.i l.len) l.initial.dst;
}
