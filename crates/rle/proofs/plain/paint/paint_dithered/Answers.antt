-- `paint_dithered` meets its contract. The invariant: i pixels are painted. Assumes nothing.
use Prim.Native.Nat.{◌%◌}
use lib.Dec.{eqb}
use Rattle.rle.proofs.Painting.{painted-none, painted_more, one_as, one-solid, turn-pixel, dither_solid}
use Rattle.rle.proofs.plain.paint.paint_dithered.Goals as goal

pub loop-i-init : goal.loop-i-init
loop-i-init c = painted-none

pub loop-i-preserved : goal.loop-i-preserved
loop-i-preserved c =
    let l = c.loop-i in
    let a = c.args in
    let turn = c.dither_pixel.ensures in
    painted_more _ _ _ _ _ _ _ _ l.invariant
    (one_as (dither_solid a.a a.b l.i turn)
    (one-solid a.span l.i l.dst _ (rw l.auto.dst c.requires.place) c.loop-i-test.true
    (rw turn (turn-pixel a.span.bytes a.a a.b (eqb (l.i % 2) 0) c.requires.of_depth.0 c.requires.of_depth.1)) c.write_pixel.ensures))
