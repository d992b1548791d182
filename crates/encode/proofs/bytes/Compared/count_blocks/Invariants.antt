-- `count_blocks` meets its contract. The invariant: the bytes passed are the same. Assumes nothing.
use Prim.Native.Nat.{◌-◌, ◌≤◌}
use lib.ListN.{length}
use Rattle.encode.specs.Bytes.{same_start}
use Rattle.encode.proofs.bytes.Compared.count_blocks.Given as goal

abbrev pub invariant-loop-i : goal.invariant-loop-i
invariant-loop-i g l = l.i ≤ same_start l.self.here.now l.self.back.now

abbrev pub decreases-loop-i : goal.decreases-loop-i
decreases-loop-i g l = length l.self.here.now - l.i
