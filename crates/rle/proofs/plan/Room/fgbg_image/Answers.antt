-- `fgbg_image` meets its contract: an image behind its foreground, of no bytes where it has none. Assumes nothing.
use borrow.Author.Tests.{le-leb, lt-leb}
use Rattle.definition.specs.Plan.{with_operands}
use Rattle.definition.proofs.Planned.{image-counts}
use Rattle.rle.proofs.Numbers.{image_is}
use Rattle.rle.proofs.plan.Room.fgbg_image.Goals as goal

pub returns-then-left-size : goal.returns-then-left-size
unfolding with_operands
returns-then-left-size c =
    let f = c.foreground_size-size.ensures in
    rw (image_is c.requires, image-counts, ← f, lt-leb _ _ c.if-left-size.true) c.too_short.ensures

pub returns : goal.returns
unfolding with_operands
returns c =
    let f = c.foreground_size-size.ensures in
    rw (image_is c.requires, image-counts, ← f, le-leb _ _ c.if-left-size.false) c.image_behind.ensures
