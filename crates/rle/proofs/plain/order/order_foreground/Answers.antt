-- `order_foreground` meets its contract: the foreground's bytes are there and read, or not. Assumes nothing.
use mathlib.Core.Path.{sym, ◌∙◌}
use lib.ListN.{length-drop}
use borrow.Author.Tests.{le-leb, lt-leb}
use Rattle.definition.specs.Plan.{new_foreground}
use Rattle.rle.proofs.Sharing.{foreground_is}
use Rattle.rle.proofs.plain.order.order_foreground.Goals.{else-sets_foreground-via-then-sets_foreground+else-d-o, else-sets_foreground-via-else-sets_foreground}
use Rattle.rle.proofs.plain.order.order_foreground.Goals as goal

pub returns-then-d-o : goal.returns-then-d-o
unfolding new_foreground
returns-then-d-o c =
    rw (foreground_is, sym c.sets_foreground.ensures ∙ c.if-sets_foreground.true, length-drop, le-leb _ _ c.if-d-o.true) c.read_pixel.ensures

pub returns-else-sets_foreground : goal.returns-else-sets_foreground
unfolding new_foreground
returns-else-sets_foreground c =
    elim c.else-sets_foreground.branch [
      | else-sets_foreground-via-then-sets_foreground+else-d-o w ↦
          rw (foreground_is, sym c.sets_foreground.ensures ∙ w.if-sets_foreground.true, length-drop, lt-leb _ _ w.if-d-o.false)
      | else-sets_foreground-via-else-sets_foreground w ↦ rw (foreground_is, sym c.sets_foreground.ensures ∙ w.if-sets_foreground.false)
    ]
