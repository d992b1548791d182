-- `narrow` meets its contract: i masks are written. Assumes nothing.
use Rattle.std.proofs.Common.{◌≡◌, ◌*◌, length}
use Rattle.byte_runs.specs.Runs.{run, row_bytes, masked_by}
use Rattle.mask.proofs.Masked.narrow.Given as goal

abbrev pub invariant-loop-i : goal.invariant-loop-i
invariant-loop-i g l = record {
  long : length l.dst ≡ length l.initial.dst;
  written : l.dst ≡ run (row_bytes l.self.back l.self.at (masked_by l.masks 0 g.row.D l.self.pixel)) l.self.at (l.i * 8 * g.row.D) l.initial.dst;
}
