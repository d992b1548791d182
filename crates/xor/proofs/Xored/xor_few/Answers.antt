-- `xor_few` meets its contract: i pixels are written. Assumes nothing.
use Rattle.std.proofs.Common.{Some, refl, sym, arith, ◌+◌, ◌*◌}
use Rattle.byte_runs.specs.Runs.{turn, each}
use Rattle.byte_runs.proofs.Runs.{run_none}
use Rattle.byte_runs.proofs.Pixels.{row_then, turn_byte}
use Rattle.xor.proofs.Xored.xor_few.Goals as goal

pub loop-i-init : goal.loop-i-init
loop-i-init g c = record { long = refl; written = run_none _ _ _ _ (omega arith) }

pub loop-i-preserved : goal.loop-i-preserved
loop-i-preserved g c =
    let a = c.args in
    let l = c.loop-i in
    record {
      long = omega arith;
      written =
          row_then (Some a.self.row) (each a.self.pixel) (turn a.self.pixel g.row.D) a.self.at (l.i * g.row.D) g.row.D ((l.i + 1) * g.row.D) _ l.dst a.dst.now
          (λ k q. sym (turn_byte g.row.D l.i k a.self.pixel q)) (omega arith) (rw (c.behind.ensures.0, c.behind.ensures.1, c.behind.ensures.2) at c.xor_pixel.ensures) l.invariant.written;
    }
