-- `no_mask` meets its contract: the definition's counts, as they are. Assumes nothing.
use Rattle.definition.specs.Plan.{behind, no_mask}
use Rattle.rle.proofs.plan.no_mask.Goals as goal

pub returns : goal.returns
unfolding behind no_mask
returns c = c.too_short.ensures
