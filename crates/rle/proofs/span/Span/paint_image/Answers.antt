-- `paint_image` meets its contract: the parts that are lent hold the pixels. Assumes nothing.
use Rattle.rle.proofs.Parts.{part_copied}
use Rattle.rle.proofs.span.Span.paint_image.Goals as goal

pub returns : goal.returns
returns c =
    part_copied c.args.self c.args.dst.now _ c.requires.place c.args.src.now c.requires.operands c.copy_in.ensures
