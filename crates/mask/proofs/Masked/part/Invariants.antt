-- `part` meets its contract: i pixels are written, and m is the mask halved i times. Assumes nothing.
use Rattle.std.proofs.Common.{◌≡◌, ◌*◌, ◌/◌, ◌^◌, length}
use Rattle.byte_runs.specs.Runs.{run, row_bytes, mask_by}
use Rattle.mask.proofs.Masked.part.Given as goal

abbrev pub invariant-loop-i : goal.invariant-loop-i
invariant-loop-i g l = record {
  long : length l.dst ≡ length l.initial.dst;
  halved : l.m ≡ l.mask / 2 ^ l.i;
  written : l.dst ≡ run (row_bytes l.self.back l.self.at (mask_by l.mask g.row.D l.self.pixel)) l.self.at (l.i * g.row.D) l.initial.dst;
}
