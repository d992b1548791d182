-- `back_block` meets its contract: i bytes are in the array. Assumes nothing.
use Rattle.std.proofs.Common.{◌≡◌, ℕ, ◌+◌, ◌<◌, length, get_or}
use Rattle.copy.proofs.back_block.Given as goal

abbrev pub invariant-loop-i : goal.invariant-loop-i
invariant-loop-i l = record {
  long : length l.t ≡ 16;
  filled : (k : ℕ) → k < l.i → get_or l.t k 0 ≡ get_or l.dst (l.from + k) 0;
}
