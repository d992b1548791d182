-- `order` meets its contract: each arm plans its kinds. Assumes nothing.
use mathlib.Core.Logic.{⊎_elim}
use Rattle.definition.specs.Plan.{counts_of}
use Rattle.rle.proofs.plan.Room.order.Goals as goal

pub returns-in-BgRun : goal.returns-in-BgRun
unfolding counts_of
returns-in-BgRun c =
    ⊎_elim (λ e. rw e c.run.ensures)
    (⊎_elim (λ e. rw e c.run.ensures)
    (⊎_elim (λ e. rw e c.run.ensures)
    (⊎_elim (λ e. rw e c.run.ensures)
    (⊎_elim (λ e. rw e c.run.ensures) (λ e. rw e c.run.ensures)))))
    c.in-BgRun.is

pub returns-in-ColorRun : goal.returns-in-ColorRun
unfolding counts_of
returns-in-ColorRun c = ⊎_elim (λ e. rw e c.pixel_run.ensures) (λ e. rw e c.pixel_run.ensures) c.in-ColorRun.is

pub returns-in-ColorImage : goal.returns-in-ColorImage
unfolding counts_of
returns-in-ColorImage c = rw c.in-ColorImage.is c.color_image.ensures

pub returns-in-DitheredRun : goal.returns-in-DitheredRun
unfolding counts_of
returns-in-DitheredRun c = rw c.in-DitheredRun.is c.dithered_run.ensures

pub returns-in-NoOrder : goal.returns-in-NoOrder
unfolding counts_of
returns-in-NoOrder c = rw c.in-NoOrder.is c.no_order.ensures
