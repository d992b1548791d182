-- `back_blocks` meets its contract: each block is 16 bytes more of the run, and the last one ends it. Assumes nothing.
use Rattle.std.proofs.Common.{◌≡◌, ◌≤◌, length}
use Rattle.byte_runs.specs.Runs.{run, above}
use Rattle.copy.proofs.back_blocks.Given as goal

abbrev pub invariant-loop-i : goal.invariant-loop-i
invariant-loop-i l = record {
  inside : l.i ≤ l.len;
  long : length l.dst ≡ length l.initial.dst;
  written : l.dst ≡ run (above l.at l.row) l.at l.i l.initial.dst;
}
