-- `xor_blocks` meets its contract: the run is written up to i, or to its end; i is a multiple of the period. Assumes nothing.
use Rattle.std.proofs.Common.{◌≡◌, ◌+◌, refl, arith, min}
use native.Mathlib.Nat.{zero-mod}
use Rattle.byte_runs.proofs.Patterns.{pattern_block, mod_sum, whole_pattern, whole_pixels}
use Rattle.byte_runs.proofs.Runs.{run_none}
use Rattle.xor.proofs.Xored.xor_blocks.Goals as goal

pub loop-i-init : goal.loop-i-init
loop-i-init g c = record { period = zero-mod g.row.D; long = refl; written = run_none _ _ _ _ (omega arith) }

pub loop-i-preserved : goal.loop-i-preserved
loop-i-preserved g c =
    let a = c.args in
    let l = c.loop-i in
    record {
      period = mod_sum l.i 48 g.row.D l.invariant.period (whole_pixels g.row.D (omega arith) (omega arith));
      long = omega arith;
      written =
          pattern_block a.self.pixel c.pattern-t.result g.row.D a.self.at a.self.row l.i a.len c.min.result _ _ _ c.min.ensures (omega arith) (omega arith) (omega arith) (omega arith) (omega arith)
          (omega arith) (omega arith) (omega arith) l.invariant.period
          (whole_pattern a.self.pixel c.pattern-t.result g.row.D (omega arith) (omega arith) c.pattern-t.ensures.whole)
          c.xor_block.ensures l.invariant.written;
    }

pub returns-2 : goal.returns-2
returns-2 g c =
    let a = c.args in
    let l = c.loop-i in
    let end : min (l.i + 48) a.len ≡ a.len = omega arith in
    rw (← end) (pattern_block a.self.pixel c.pattern-t.result g.row.D a.self.at a.self.row l.i a.len c.min.result _ _ _ c.min.ensures (omega arith) (omega arith) (omega arith) (omega arith) (omega arith)
    (omega arith) (omega arith) (omega arith) l.invariant.period
    (whole_pattern a.self.pixel c.pattern-t.result g.row.D (omega arith) (omega arith) c.pattern-t.ensures.whole)
    c.xor_block.ensures l.invariant.written)
