-- `narrow` meets its contract: i masks are written. Assumes nothing.
use Rattle.std.proofs.Common.{◌+◌, ◌*◌, refl, arith, get_or}
use Rattle.byte_runs.specs.Runs.{mask_by, masked_by}
use Rattle.byte_runs.proofs.Masks.{mask_after}
use Rattle.byte_runs.proofs.Pixels.{row_then}
use Rattle.byte_runs.proofs.Runs.{run_none}
use Rattle.mask.proofs.Masked.narrow.Goals as goal

pub loop-i-init : goal.loop-i-init
loop-i-init g c = record { long = refl; written = run_none _ _ _ _ (omega arith) }

pub loop-i-preserved : goal.loop-i-preserved
loop-i-preserved g c =
    let a = c.args in
    let l = c.loop-i in
    let D = g.row.D in
    record {
      long = omega arith;
      written =
          row_then a.self.back (mask_by (get_or a.masks.now l.i 0) D a.self.pixel) (masked_by a.masks.now 0 D a.self.pixel) a.self.at (l.i * 8 * D) (8 * D) ((l.i + 1) * 8 * D) _ l.dst _
          (λ k q. mask_after a.masks.now a.self.pixel D l.i k (omega arith) q) (omega arith) (rw (c.behind.ensures.0, c.behind.ensures.1, c.behind.ensures.2) at c.part.ensures) l.invariant.written;
    }
