-- `put_bit` meets its contract: j bytes are stored. Assumes nothing.
use Rattle.std.proofs.Common.{◌≡◌, ◌*◌, ◌%◌, length, get_or}
use Rattle.byte_runs.specs.Runs.{run, row_bytes}
use Rattle.mask.proofs.Masked.put_bit.Given as goal

abbrev pub invariant-loop-j : goal.invariant-loop-j
invariant-loop-j g l = record {
  long : length l.dst ≡ length l.initial.dst;
  stored : l.dst ≡ run (row_bytes l.self.back l.self.at (λ j. l.m % 2 * get_or l.self.pixel j 0)) l.self.at l.j l.initial.dst;
}
