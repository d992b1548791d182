-- `paint_above` meets its contract: the part that is lent holds the row above and the pixels. Assumes nothing.
use Rattle.rle.proofs.Parts.{part_above}
use Rattle.rle.proofs.span.Span.paint_above.Goals as goal

pub returns : goal.returns
returns c =
    part_above c.args.self c.args.dst.now _ c.requires.place c.requires.above c.copy_back.ensures
