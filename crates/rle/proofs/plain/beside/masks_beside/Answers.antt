-- `masks_beside` meets its contract: both targets are painted the same. Assumes nothing.
use Rattle.rle.proofs.Painting.{painted_same}
use Rattle.rle.proofs.plain.beside.masks_beside.Goals as goal

pub returns : goal.returns
returns c =
    let first = c.paint_masks in
    let second = c.paint_masks-2 in
    painted_same c.args.span.high c.requires.place c.requires.same first.auto.dst second.auto.dst first.ensures (rw c.requires.bg.1 at second.ensures)
