-- `whole` meets its contract: i masks are written. Assumes nothing.
use Rattle.std.proofs.Common.{◌+◌, ◌*◌, ◌∙◌, refl, arith, get_or}
use Rattle.byte_runs.specs.Runs.{inked_by, masked_by}
use Rattle.byte_runs.proofs.Masks.{mask_after, mask_byte}
use Rattle.byte_runs.proofs.Patterns.{whole_pattern}
use Rattle.byte_runs.proofs.Pixels.{row_then}
use Rattle.byte_runs.proofs.Runs.{run_none}
use Rattle.mask.proofs.Masked.whole.Goals as goal

pub loop-i-init : goal.loop-i-init
loop-i-init g c = record { long = refl; written = run_none _ _ _ _ (omega arith) }

pub loop-i-preserved : goal.loop-i-preserved
loop-i-preserved g c =
    let a = c.args in
    let l = c.loop-i in
    let D = g.row.D in
    let m = get_or a.masks.now l.i 0 in
    let color = c.pattern-color in
    record {
      long = omega arith;
      written =
          row_then a.self.back (inked_by m D color.result) (masked_by a.masks.now 0 D a.self.pixel) a.self.at (l.i * 8 * D) g.row.N ((l.i + 1) * 8 * D) _ l.dst _
          (λ k q.
          mask_byte m D k a.self.pixel color.result (omega arith) (omega arith) (whole_pattern a.self.pixel color.result D (omega arith) (omega arith) color.ensures.whole k (omega arith))
          ∙ mask_after a.masks.now a.self.pixel D l.i k (omega arith) (omega arith))
          (omega arith) (rw (c.behind.ensures.0, c.behind.ensures.1) at c.put_mask.ensures) l.invariant.written;
    }
