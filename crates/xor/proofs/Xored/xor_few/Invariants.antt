-- `xor_few` meets its contract: i pixels are written. Assumes nothing.
use Rattle.std.proofs.Common.{◌≡◌, ◌*◌, length}
use Rattle.byte_runs.specs.Runs.{run, xored, turn}
use Rattle.xor.proofs.Xored.xor_few.Given as goal

abbrev pub invariant-loop-i : goal.invariant-loop-i
invariant-loop-i g l = record {
  long : length l.dst ≡ length l.initial.dst;
  written : l.dst ≡ run (xored l.self.at l.self.row (turn l.self.pixel g.row.D)) l.self.at (l.i * g.row.D) l.initial.dst;
}
