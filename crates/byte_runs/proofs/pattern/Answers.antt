-- `pattern` meets its contract: the pixel is in the array i times. Assumes nothing.
use Rattle.std.proofs.Common.{None, ℕ, zero, suc, true, ◌≡◌, ◌+◌, ◌*◌, ◌/◌, ◌≤◌, ◌<◌, List, ap, sym, refl, ◌∙◌, arith, get_or, zero-add}
use Rattle.std.proofs.lemmas.List.{length-replicate}
use lib.ListN.{replicate}
use native.Mathlib.Nat.{div-mul-le_self, le-div_iff_mul-le}
use borrow.Author.Tests.{le-leb}
use Rattle.byte_runs.specs.Runs.{run, bytes, turn, each, is_depth}
use Rattle.byte_runs.proofs.Fits.{both_hold}
use Rattle.byte_runs.proofs.Pixels.{row_then, turn_byte}
use Rattle.byte_runs.proofs.Runs.{run_none, run_settled, run_behind}
use Rattle.byte_runs.proofs.pattern.Goals as goal

pub loop-i-init : goal.loop-i-init
loop-i-init g c = record { long = length-replicate _ _; filled = run_none _ _ _ _ (omega arith) }

pub loop-i-preserved : goal.loop-i-preserved
loop-i-preserved g c =
    let D = g.row.D in
    let px = c.args.pixel in
    let l = c.loop-i in
    let some : 0 < D = omega (arith, c.if-this-eq0.false) in
    let room : (l.i + 1) * D ≤ g.row.N = (le-div_iff_mul-le {k = D} {x = l.i + 1} {y = g.row.N} some).0 (omega arith) in
    record {
      long = omega arith;
      filled =
          row_then None (each px) (turn px D) 0 (l.i * D) D ((l.i + 1) * D) _ _ _
          (λ k q. sym (turn_byte D l.i k px q)) (omega arith) (rw zero-add c.put_pixel.ensures) l.invariant.filled;
    }

-- an array of zeros has no other byte
zeros : (n k : ℕ) → get_or (replicate {A = ℕ} n 0) k 0 ≡ 0
zeros zero k = refl
zeros (suc n) zero = refl
zeros (suc n) (suc k) = zeros n k

pub returns : goal.returns
returns g c =
    let D = g.row.D in
    let N = g.row.N in
    let w : ℕ → ℕ = turn c.args.pixel D in
    let all : ℕ = N / D * D in
    let empty : List ℕ = replicate N 0 in
    let depth : is_depth D ≡ true = both_hold _ _ (le-leb 1 D (omega arith)) (le-leb D 3 (omega arith)) in
    let done : c.loop-i.i ≡ N / D = omega arith in
    let is : c.loop-i.t ≡ run (bytes w) 0 all empty = c.loop-i.invariant.filled ∙ ap (λ (i : ℕ). run (bytes w) 0 (i * D) empty) done in
    record {
      whole = λ d k h.
          ap (λ (x : List ℕ). get_or x k 0) is ∙ ap (λ (j : ℕ). get_or (run (bytes w) 0 all empty) j 0) (sym (zero-add k))
          ∙ run_settled (bytes w) 0 all k empty (λ x y j a. refl) h (omega (arith, div-mul-le_self N D, length-replicate {A = ℕ} N 0));
      rest = λ k h. ap (λ (x : List ℕ). get_or x k 0) is ∙ run_behind (bytes w) 0 all k empty (omega (arith, h depth)) ∙ zeros N k;
    }
