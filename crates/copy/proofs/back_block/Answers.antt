-- `back_block` meets its contract: the bytes that were read, put in place of as many, are a run of them. Assumes nothing.
use Rattle.std.proofs.Common.{◌-◌, ◌∙◌, arith}
use Rattle.std.proofs.lemmas.Slice.{put_mid-paste}
use Rattle.byte_runs.specs.Runs.{listed, taken}
use Rattle.byte_runs.proofs.Arrays.{pasted}
use Rattle.byte_runs.proofs.Runs.{run_cong}
use Rattle.copy.proofs.back_block.Goals as goal

pub returns : goal.returns
returns c =
    let a = c.args in
    let l = c.loop-i in
    put_mid-paste _ _ _ _ l.t 16 c.copy_from_slice.ensures.after (omega arith) (omega arith)
    ∙ pasted l.t a.to 16 a.dst.now (omega arith) (omega arith)
    ∙ run_cong (listed l.t) (taken a.dst.now (a.to - a.row)) a.to 16 a.dst.now (λ k q. l.invariant.filled k (omega arith))
