-- `mask_rows` meets its contract: the parts that are lent hold the masks, the bytes back there and those that are written. Assumes nothing.
use Rattle.rle.proofs.Parts.{part_masked}
use Rattle.rle.proofs.paint.mask_rows.Goals as goal

pub returns : goal.returns
returns c =
    let a = c.args in
    let r = c.requires in
    part_masked a.d a.src.now a.from a.m r.depth.0 r.depth.1 a.p r.fits.0 a.at a.dst.now _ r.fits.1 a.back _ c.unwrap_or-row.ensures r.back c.masks.ensures
