-- `start` meets its contract: the foreground is the depth's white. Assumes nothing.
use mathlib.Core.Path.{ap}
use mathlib.Core.Bool.{true, false}
use Rattle.picture.specs.Sizes.{Depth}
use Rattle.definition.specs.Pauses.{saved, start_at}
use Rattle.decoder_state.proofs.State.start.Goals as goal

pub returns : goal.returns
unfolding start_at
returns c = ap (λ (d : Depth). saved 0 0 d.white false true 0) c.depth_of.ensures.row
