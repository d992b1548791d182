-- `back_blocks` meets its contract: each block is 16 bytes more of the run, and the last one ends it. Assumes nothing.
use Rattle.std.proofs.Common.{◌≡◌, ℕ, ◌+◌, ◌-◌, ◌≤◌, ◌∙◌, refl, arith}
use Rattle.byte_runs.specs.Runs.{run, above}
use Rattle.byte_runs.proofs.Blocks.{back_block}
use Rattle.byte_runs.proofs.Runs.{run_none}
use Rattle.copy.proofs.back_blocks.Goals as goal
use Rattle.copy.proofs.back_blocks.Goals.{else-loop-i-test, then-loop-i-test+else-last-i-gt16}

pub loop-i-init : goal.loop-i-init
loop-i-init c = record { inside = omega arith; long = refl; written = run_none _ _ _ _ (omega arith) }

pub loop-i-preserved : goal.loop-i-preserved
loop-i-preserved c =
    let a = c.args in
    let l = c.loop-i in
    record {
      inside = omega arith;
      long = omega arith;
      written =
          back_block (λ (b k : ℕ). b) a.at a.row l.i l.i 16 _ _ _ _ _ _ refl (omega arith) refl (omega arith) (omega arith) (omega arith) (omega arith)
          (omega arith) (omega arith) c.back_block.ensures l.invariant.written;
    }

pub returns : goal.returns
returns c =
    let a = c.args in
    let l = c.loop-i in
    elim c.loop-i-test.branch [
      | else-loop-i-test w ↦ last l.i (omega (arith, w.loop-i-test)) (omega arith) (w.dst-is ∙ l.invariant.written)
      | then-loop-i-test+else-last-i-gt16 w ↦
          last (l.i + 16) (omega (arith, w.loop-i-test)) (omega (arith, w.loop-i-test))
          (w.dst-is
          ∙ back_block (λ (b k : ℕ). b) a.at a.row l.i l.i 16 _ _ _ _ _ _ refl (omega arith) refl (omega arith) (omega arith) (omega arith) (omega arith)
          (omega arith) (omega (arith, w.loop-i-test)) w.back_block.ensures l.invariant.written)
    ]
  where
    last : (i : ℕ) → c.args.len - 16 ≤ i → i ≤ c.args.len → c.loop-i-test.dst ≡ run (above c.args.at c.args.row) c.args.at i c.args.dst.now
        → c.back_block-2.new.dst ≡ run (above c.args.at c.args.row) c.args.at c.args.len c.args.dst.now
    last i reached inside e =
        back_block (λ (b k : ℕ). b) c.args.at c.args.row (c.args.len - 16) i 16 _ _ _ _ _ _ (omega arith) (omega arith) (omega arith) (omega arith) (omega arith)
        (omega arith) reached inside (omega arith) c.back_block-2.ensures e
