-- There are no more streams than bytes passed. Assumes nothing.
use Rattle.std.proofs.Common.{◌+◌, ◌≤◌, length}
use Rattle.replay.proofs.replay.Given as goal

abbrev pub invariant-loop-records : goal.invariant-loop-records
invariant-loop-records l =
    (l.tally.streams + length l.records.rest.now ≤ length l.fn.data) × (l.tally.differ ≤ l.tally.streams)

abbrev pub decreases-loop-records : goal.decreases-loop-records
decreases-loop-records l = length l.records.rest.now
