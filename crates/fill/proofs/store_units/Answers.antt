-- `store_units` meets its contract: each turn is one unit more of the run. Assumes nothing.
use Rattle.std.proofs.Common.{◌≡◌, ℕ, List, ◌+◌, ◌*◌, ◌≤◌, ◌∙◌, refl, sym, ap, length, length-take-le, length-drop, arith}
use Rattle.std.proofs.Math.Nat.{mul-le-mul_right}
use Rattle.byte_runs.proofs.Runs.{run_none}
use Rattle.byte_runs.proofs.Patterns.{unit_more}
use Rattle.fill.proofs.store_units.Goals as goal

pub loop-i-init : goal.loop-i-init
loop-i-init g c = run_none _ _ _ _ (omega arith)

pub loop-i-preserved : goal.loop-i-preserved
loop-i-preserved g c =
    let a = c.args in
    let l = c.loop-i in
    let room : (l.i + 1) * g.row.N ≤ a.n * g.row.N = mul-le-mul_right {m = l.i + 1} {n = a.n} g.row.N (omega arith) in
    let long : length c.copy_from_slice.new.self ≡ g.row.N = c.copy_from_slice.ensures.len ∙ length-take-le _ _ (rw length-drop (omega arith)) ∙ omega arith in
    unit_more a.unit g.row.N a.at l.i _ _ l.dst a.dst.now _ refl (omega arith) (sym long ∙ ap (λ (x : List ℕ). length x) c.copy_from_slice.ensures.after) (omega arith)
    c.copy_from_slice.ensures.after l.invariant
