-- `copy_row` meets its contract: bytes put in place of as many, which stood before them, are a run of those. Assumes nothing.
use Rattle.std.proofs.Common.{ℕ, ◌-◌, ◌∙◌, arith}
use Rattle.byte_runs.proofs.Arrays.{placed_split}
use Rattle.byte_runs.proofs.Blocks.{loaded}
use Rattle.copy.proofs.copy_row.Goals as goal

pub returns : goal.returns
returns c =
    let a = c.args in
    let s = c.split_at_mut-above.ensures in
    placed_split (a.at - a.row) a.at _ a.len a.dst.now _ _ _ s.front s.back c.copy_bytes.ensures (omega arith) (omega arith) (omega arith)
    ∙ loaded (λ (b k : ℕ). b) a.at (a.at - a.row) a.row a.len a.dst.now (omega arith) (omega arith)
