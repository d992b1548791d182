-- `pixel` meets its contract: no order, or one pixel of either color. Assumes nothing.
use mathlib.Core.Logic.{⊎_elim}
use Rattle.definition.specs.Plan.{counts_of}
use Rattle.rle.proofs.plan.Room.pixel.Goals as goal

pub returns-in-NoOrder : goal.returns-in-NoOrder
unfolding counts_of
returns-in-NoOrder c = rw c.in-NoOrder.is c.no_order.ensures

pub returns-in_default : goal.returns-in_default
unfolding counts_of
returns-in_default c =
    ⊎_elim (λ e. rw e c.run.ensures) (⊎_elim (λ e. rw e c.run.ensures) (λ e. absurd (c.in_default.not-NoOrder e))) c.requires
