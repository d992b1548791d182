-- `xor_pixel` meets its contract: j bytes are stored. Assumes nothing.
use Rattle.std.proofs.Common.{◌≡◌, length}
use Rattle.byte_runs.specs.Runs.{run, xored, each}
use Rattle.xor.proofs.Xored.xor_pixel.Given as goal

abbrev pub invariant-loop-j : goal.invariant-loop-j
invariant-loop-j g l = record {
  long : length l.dst ≡ length l.initial.dst;
  stored : l.dst ≡ run (xored l.self.at l.self.row (each l.self.pixel)) l.self.at l.j l.initial.dst;
}
