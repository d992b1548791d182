-- `xor_block` meets its contract: the mixed bytes, put in place of as many, are a run. Assumes nothing.
use Rattle.std.proofs.Common.{◌∙◌, arith}
use Rattle.std.proofs.lemmas.Slice.{put_mid-paste}
use Rattle.byte_runs.specs.Runs.{listed, mixed, each}
use Rattle.byte_runs.proofs.Arrays.{pasted}
use Rattle.byte_runs.proofs.Runs.{run_cong}
use Rattle.xor.proofs.xor_block.Goals as goal

pub returns : goal.returns
returns c =
    let a = c.args in
    let l = c.loop-i in
    put_mid-paste _ _ _ _ l.t 48 c.copy_from_slice.ensures.after (omega arith) (omega arith)
    ∙ pasted l.t a.to 48 a.dst.now (omega arith) (omega arith)
    ∙ run_cong (listed l.t) (mixed a.dst.now a.from (each a.w.now)) a.to 48 a.dst.now (λ k q. l.invariant.filled k (omega arith))
