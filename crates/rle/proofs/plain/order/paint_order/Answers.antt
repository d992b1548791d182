-- `paint_order` meets its contract: each arm paints with the ink of its kinds. Assumes nothing.
use lib.Seq.{drop-drop}
use Rattle.std.proofs.lemmas.List.{take_rest}
use Rattle.definition.specs.Plan.{kind_ink}
use Rattle.rle.proofs.Painting.{painted-zero, painted_as, read_of_depth}
use Rattle.rle.proofs.Inks.{inserted-is}
use Rattle.rle.proofs.Orders.{own_bg}
use Rattle.rle.proofs.Sharing.{color_depth, fg-painted, masks-painted, special_painted, pixel-painted}
use Rattle.rle.proofs.plain.order.paint_order.Goals as goal

pub returns-then-n-eq0 : goal.returns-then-n-eq0
returns-then-n-eq0 c = painted-zero c.if-n-eq0.true

pub paint_bg_run-requires-clause-bg : goal.paint_bg_run-requires-clause-bg
paint_bg_run-requires-clause-bg c = own_bg c.args.o c.args.n c.requires.room c.row_inks-fg.ensures.1

pub paint_masks-requires-clause-bg : goal.paint_masks-requires-clause-bg
paint_masks-requires-clause-bg c = own_bg c.args.o c.args.n c.requires.room c.row_inks-fg.ensures.1

pub paint_mask-requires-clause-bg : goal.paint_mask-requires-clause-bg
paint_mask-requires-clause-bg c = own_bg c.args.o c.args.n c.requires.room c.row_inks-fg.ensures.1

pub paint_run-requires-in-White-clause-paintable : goal.paint_run-requires-in-White-clause-paintable
paint_run-requires-in-White-clause-paintable c =
    color_depth c.args.o.frame c.in-White.is c.white_or_black.ensures.white c.white_or_black.ensures.black

pub paint_run-requires-in-ColorRun-clause-paintable : goal.paint_run-requires-in-ColorRun-clause-paintable
paint_run-requires-in-ColorRun-clause-paintable c = read_of_depth _ c.args.o.frame.low c.args.o.frame.high c.read_pixel.ensures

pub paint_dithered-requires-clause-of_depth : goal.paint_dithered-requires-clause-of_depth
paint_dithered-requires-clause-of_depth c =
    let f = c.args.o.frame in
    (read_of_depth _ f.low f.high c.read_pixel-a.ensures, read_of_depth _ f.low f.high c.read_pixel-b.ensures)

pub returns-in-BgRun : goal.returns-in-BgRun
unfolding kind_ink
returns-in-BgRun c =
    rw c.in-BgRun.is
    (painted_as (λ j _. inserted-is _ _ _ j) (rw (c.then_some.ensures, c.row_inks-fg.ensures.0, c.row_inks-fg.ensures.1) at c.paint_bg_run.ensures))

pub returns-in-FgRun : goal.returns-in-FgRun
returns-in-FgRun c = fg-painted _ _ _ _ c.in-FgRun.is _ (rw c.row_inks-fg.ensures.0 at c.paint_run.ensures)

pub returns-in-FgBgImage : goal.returns-in-FgBgImage
returns-in-FgBgImage c =
    masks-painted _ _ _ _ c.in-FgBgImage.is _ _
    (rw (c.row_inks-fg.ensures.0, c.row_inks-fg.ensures.1, c.foreground_size.ensures) at c.paint_masks.ensures)

pub returns-in-SpecialFgBg1 : goal.returns-in-SpecialFgBg1
returns-in-SpecialFgBg1 c =
    special_painted _ _ _ _ c.in-SpecialFgBg1.is _ c.special_mask.ensures.first c.special_mask.ensures.second _
    (rw (c.row_inks-fg.ensures.0, c.row_inks-fg.ensures.1) at c.paint_mask.ensures)

pub returns-in-ColorRun : goal.returns-in-ColorRun
unfolding kind_ink
returns-in-ColorRun c = rw c.in-ColorRun.is (rw c.read_pixel.ensures at c.paint_run-in-ColorRun.ensures)

pub returns-in-ColorImage : goal.returns-in-ColorImage
unfolding kind_ink
returns-in-ColorImage c = rw c.in-ColorImage.is (rw take_rest at c.paint_image.ensures)

pub returns-in-DitheredRun : goal.returns-in-DitheredRun
unfolding kind_ink
returns-in-DitheredRun c =
    let a = c.args in
    let behind = drop-drop a.o.frame.depth.bytes a.o.state.walk.pos a.o.src.now in
    rw c.in-DitheredRun.is (rw (c.read_pixel-a.ensures, c.read_pixel-b.ensures, ← behind) at c.paint_dithered.ensures)

pub returns-in-White : goal.returns-in-White
returns-in-White c =
    pixel-painted _ _ _ _ c.in-White.is _ c.white_or_black.ensures.white c.white_or_black.ensures.black _ c.paint_run-in-White.ensures

-- no order has no pixels
pub returns-in-NoOrder : goal.returns-in-NoOrder
returns-in-NoOrder c = absurd (c.if-n-eq0.false (rw c.in-NoOrder.is at c.requires.operands))
