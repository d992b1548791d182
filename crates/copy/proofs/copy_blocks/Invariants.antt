-- `copy_blocks` meets its contract: the bytes before i are those of src. Assumes nothing.
use Rattle.std.proofs.Common.{ℕ, ◌≡◌, ◌<◌, length, get_or, min}
use Rattle.copy.proofs.copy_blocks.Given as goal

abbrev pub invariant-loop-i : goal.invariant-loop-i
invariant-loop-i g l = record {
  long : length l.dst ≡ length l.src;
  same : (k : ℕ) → k < min l.i (length l.src) → get_or l.dst k 0 ≡ get_or l.src k 0;
}
