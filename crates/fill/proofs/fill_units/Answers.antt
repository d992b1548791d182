-- `fill_units` meets its contract: the units that are stored, copied, are more of them. Assumes nothing.
use Rattle.std.proofs.Common.{List, ℕ, ◌≡◌, ◌+◌, ◌-◌, ◌*◌, ◌≤◌, ◌<◌, ◌∙◌, leb, length, arith}
use Rattle.byte_runs.specs.Runs.{run, run_where, both, there, above, bytes, turn}
use Rattle.byte_runs.proofs.Patterns.{unit_copies}
use Rattle.fill.proofs.fill_units.Goals as goal

-- the same by the numbers of the call that copies, so that these are read as numbers
copies : (p : List ℕ) (d at m n to len back : ℕ) (l₂ l₁ l : List ℕ) → 0 < m → 0 < d → m ≤ n → at + n * d ≤ length l → to ≡ at + m * d → len ≡ (n - m) * d → back ≡ m * d
    → l₂ ≡ run_where (both (leb back to) (there to len l₁)) (above to back) to len l₁ → l₁ ≡ run (bytes (turn p d)) at (m * d) l → l₂ ≡ run (bytes (turn p d)) at (n * d) l
copies p d at m n to len back l₂ l₁ l some wide h fits et el eb e₂ e₁ =
    unit_copies p d at m n l₂ l₁ l some wide h fits
    (e₂ ∙ (λ i. run_where (both (leb (eb i) (et i)) (there (et i) (el i) l₁)) (above (et i) (eb i)) (et i) (el i) l₁)) e₁

pub returns : goal.returns
returns g c =
    let a = c.args in
    copies a.unit g.row.N a.at a.most a.n _ _ _ _ c.store_units-2.new.dst a.dst.now (omega arith) (omega arith) (omega arith) (omega arith) (omega arith) (omega arith) (omega arith)
    c.repeat.ensures c.store_units-2.ensures
