-- One byte more is read. Assumes nothing.
use Rattle.std.proofs.Common.{refl}
use Rattle.tile_text.specs.Parse.{fed}
use Rattle.tile_text.proofs.Chunks.{fed_more}
use Rattle.tile_text.proofs.parser.Parser.feed.Goals as goal

pub loop-b-init : goal.loop-b-init
unfolding fed
loop-b-init c = refl

pub loop-b-preserved : goal.loop-b-preserved
loop-b-preserved c =
    let l = c.loop-b in
    rw (fed_more _ _ l.b-index c.loop-b-test.true, ← l.invariant) c.step.ensures
