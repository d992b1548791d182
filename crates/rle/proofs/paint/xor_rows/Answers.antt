-- `xor_rows` meets its contract: the part that is lent holds the bytes back there and those that are written. Assumes nothing.
use Rattle.rle.proofs.Parts.{part_mixed}
use Rattle.rle.proofs.paint.xor_rows.Goals as goal

pub returns : goal.returns
returns c =
    let a = c.args in
    let r = c.requires in
    part_mixed a.at a.row a.dst.now _ a.d a.n r.0.0 r.0.1 r.1 r.2 a.p c.xor_back.ensures
