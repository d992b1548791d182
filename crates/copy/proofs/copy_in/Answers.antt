-- `copy_in` meets its contract: the bytes, put in place of as many, are a run of them. Assumes nothing.
use Rattle.std.proofs.Common.{arith}
use Rattle.byte_runs.proofs.Arrays.{placed_from}
use Rattle.byte_runs.proofs.Fits.{both_hold, is-there, where_holds}
use Rattle.copy.proofs.copy_in.Goals as goal

pub returns : goal.returns
returns c =
    let a = c.args in
    where_holds _ _ _ _ _
    (both_hold _ _ (is-there a.from a.len a.src.now (omega arith)) (is-there a.at a.len a.dst.now (omega arith)))
    (placed_from a.src.now a.from a.at _ _ a.len a.dst.now _ c.copy_bytes.ensures (omega arith) (omega arith) (omega arith) (omega arith))
