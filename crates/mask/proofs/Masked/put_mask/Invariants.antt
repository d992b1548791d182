-- `put_mask` meets its contract: i bytes are in the array, each by its bit. Assumes nothing.
use Rattle.std.proofs.Common.{ℕ, ◌≡◌, ◌+◌, ◌<◌, length, get_or}
use Rattle.std.specs.Int.Bits.{bit_xor}
use Rattle.byte_runs.specs.Runs.{byte_back, inked_by}
use Rattle.mask.proofs.Masked.put_mask.Given as goal

abbrev pub invariant-loop-i : goal.invariant-loop-i
invariant-loop-i g l = record {
  long : length l.t ≡ g.row.N;
  filled : (k : ℕ) → k < l.i → get_or l.t k 0 ≡ bit_xor (byte_back l.self.back (l.self.at + k) l.dst) (inked_by l.m g.row.D l.color k);
}
