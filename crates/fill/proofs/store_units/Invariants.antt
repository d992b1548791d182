-- `store_units` meets its contract: each turn is one unit more of the run. Assumes nothing.
use Rattle.std.proofs.Common.{◌≡◌, ◌*◌}
use Rattle.byte_runs.specs.Runs.{run, bytes, turn}
use Rattle.fill.proofs.store_units.Given as goal

abbrev pub invariant-loop-i : goal.invariant-loop-i
invariant-loop-i g l = l.dst ≡ run (bytes (turn l.unit g.row.N)) l.at (l.i * g.row.N) l.initial.dst
