-- `paint_image` meets its contract. The invariant: i pixels are painted. Assumes nothing.
use Rattle.rle.proofs.Painting.{read_of_depth, painted-none, painted_more, one_as, one-solid, image-solid}
use Rattle.rle.proofs.plain.paint.paint_image.Goals as goal

pub loop-i-init : goal.loop-i-init
loop-i-init c = painted-none

pub loop-i-preserved : goal.loop-i-preserved
loop-i-preserved c =
    let l = c.loop-i in
    let s = c.args.span in
    let read = c.read_pixel-p.ensures in
    painted_more _ _ _ _ _ _ _ _ l.invariant
    (one_as (image-solid s.bytes c.args.src.now l.i read)
    (one-solid s l.i l.dst _ (rw l.auto.dst c.requires.place) c.loop-i-test.true (read_of_depth _ s.low s.high read) c.write_pixel.ensures))
