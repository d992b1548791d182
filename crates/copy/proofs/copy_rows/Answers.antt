-- `copy_rows` meets its contract: what is there from a row back on are the row's bytes, over and over. Assumes nothing.
use Rattle.std.proofs.Common.{ℕ, ◌+◌, ◌-◌, ◌*◌, ◌%◌, ◌≤◌, ◌∙◌, ◌≡◌, ap, sym, add-zero, get_or, arith}
use Rattle.std.proofs.Math.Nat.{mod_self}
use Rattle.byte_runs.specs.Runs.{run, bytes, above, repeated}
use Rattle.byte_runs.proofs.Patterns.{own-run, repeated_more, repeated_back, mod_sum}
use Rattle.byte_runs.proofs.Runs.{run_idle}
use Rattle.copy.proofs.copy_rows.Goals as goal

pub returns-then-row-eq0 : goal.returns-then-row-eq0
returns-then-row-eq0 c =
    let a = c.args in
    sym (run_idle (above a.at a.row) a.at a.len a.dst.now (λ k h. let same : a.at + k - a.row ≡ a.at + k = omega arith in ap (λ (j : ℕ). get_or a.dst.now j 0) same))

pub loop-done-init : goal.loop-done-init
loop-done-init c =
    let a = c.args in record {
      within = omega arith;
      whole = mod_self a.row;
      there = λ h. omega arith;
      some = omega arith;
      same = rw add-zero (own-run (a.at - a.row) a.row a.dst.now);
    }

pub loop-done-preserved-then-back-lt-SHORT : goal.loop-done-preserved-then-back-lt-SHORT
loop-done-preserved-then-back-lt-SHORT c =
    let a = c.args in
    let l = c.loop-done in
    let there : l.back ≤ a.row + l.done = l.invariant.there (omega arith) in
    record {
      within = omega (arith, c.min-n.ensures);
      whole =
          let twice : l.back * 2 ≡ l.back + l.back = omega arith in
          ap (λ (j : ℕ). j % a.row) twice ∙ mod_sum l.back l.back a.row l.invariant.whole l.invariant.whole;
      there = λ h. omega (arith, c.min-n.ensures);
      some = omega (arith, l.invariant.some);
      same =
          repeated_more (a.at - a.row) a.row a.dst.now (a.row + l.done) c.min-n.result _ l.back _ _ _ (omega arith) l.invariant.some there l.invariant.whole
          (omega (arith, c.min-n.ensures)) (omega arith) c.copy_row.ensures l.invariant.same;
    }

pub loop-done-preserved : goal.loop-done-preserved
loop-done-preserved c =
    let a = c.args in
    let l = c.loop-done in
    let there : l.back ≤ a.row + l.done = l.invariant.there (omega arith) in
    record {
      within = omega (arith, c.min-n.ensures);
      whole = l.invariant.whole;
      there = λ h. omega arith;
      some = l.invariant.some;
      same =
          repeated_more (a.at - a.row) a.row a.dst.now (a.row + l.done) c.min-n.result _ l.back _ _ _ (omega arith) l.invariant.some there l.invariant.whole
          (omega (arith, c.min-n.ensures)) (omega arith) c.copy_row.ensures l.invariant.same;
    }

pub returns : goal.returns
returns c =
    let a = c.args in
    let all : a.row + c.loop-done.done ≡ a.row + a.len = omega (arith, c.loop-done.invariant.within) in
    repeated_back (a.at - a.row) a.row a.dst.now a.len a.at c.loop-done.dst (omega arith) (omega arith) (omega arith)
    (c.loop-done.invariant.same ∙ ap (λ (j : ℕ). run (bytes (repeated a.dst.now (a.at - a.row) a.row)) (a.at - a.row) j a.dst.now) all)
