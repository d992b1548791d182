-- `part` meets its contract: i pixels are written, and m is the mask halved i times. Assumes nothing.
use Rattle.std.proofs.Common.{ℕ, ◌+◌, ◌*◌, ◌%◌, refl, arith, get_or}
use Rattle.byte_runs.specs.Runs.{mask_by}
use Rattle.byte_runs.proofs.Masks.{half, part_byte, whole}
use Rattle.byte_runs.proofs.Pixels.{row_then}
use Rattle.byte_runs.proofs.Runs.{run_none}
use Rattle.mask.proofs.Masked.part.Goals as goal

pub loop-i-init : goal.loop-i-init
loop-i-init g c = record { long = refl; halved = whole _; written = run_none _ _ _ _ (omega arith) }

pub loop-i-preserved : goal.loop-i-preserved
loop-i-preserved g c =
    let a = c.args in
    let l = c.loop-i in
    let D = g.row.D in
    record {
      long = omega arith;
      halved = half a.mask l.m l.i l.invariant.halved;
      written =
          row_then a.self.back (λ (j : ℕ). l.m % 2 * get_or a.self.pixel j 0) (mask_by a.mask D a.self.pixel) a.self.at (l.i * D) D ((l.i + 1) * D) _ l.dst _
          (λ j q. part_byte a.mask D l.i j l.m _ a.self.pixel (omega arith) q l.invariant.halved refl)
          (omega arith) (rw (c.behind.ensures.0, c.behind.ensures.1, c.behind.ensures.2) at c.put_bit.ensures) l.invariant.written;
    }
