-- `tests` meets its contract: i tests are in the array. Assumes nothing.
use Rattle.std.proofs.Common.{ℕ, ◌≡◌, ◌/◌, ◌<◌, length, get_or}
use Rattle.mask.specs.declared.whole.TheConstants.{BITS}
use Rattle.mask.proofs.whole.tests.Given as goal

abbrev pub invariant-loop-i : goal.invariant-loop-i
invariant-loop-i g l = record {
  long : length l.t ≡ g.row.N;
  filled : (k : ℕ) → k < l.i → get_or l.t k 0 ≡ get_or BITS (k / g.row.D) 0;
}
