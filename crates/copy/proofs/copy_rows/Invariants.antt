-- `copy_rows` meets its contract: what is there from a row back on are the row's bytes, over and over. Assumes nothing.
use Rattle.std.proofs.Common.{◌≡◌, ◌+◌, ◌-◌, ◌%◌, ◌≤◌, ◌<◌}
use Rattle.byte_runs.specs.Runs.{run, bytes, repeated}
use Rattle.copy.proofs.copy_rows.Given as goal

abbrev pub invariant-loop-done : goal.invariant-loop-done
invariant-loop-done l = record {
  within : l.done ≤ l.len;
  whole : l.back % l.row ≡ 0;
  there : l.done < l.len → l.back ≤ l.row + l.done;
  some : 0 < l.back;
  same : l.dst ≡ run (bytes (repeated l.initial.dst (l.at - l.row) l.row)) (l.at - l.row) (l.row + l.done) l.initial.dst;
}

abbrev pub decreases-loop-done : goal.decreases-loop-done
decreases-loop-done l = l.len - l.done
