-- `image_behind` meets its contract: the image goes through, or is cut. Assumes nothing.
use mathlib.Core.Logic.{⊎_elim}
use native.Mathlib.Omega.{arith}
use borrow.Author.Tests.{le-leb}
use Rattle.definition.specs.Plan.{behind, masks_for, image_counts}
use Rattle.rle.proofs.plan.Room.image_behind.Goals as goal

pub returns-then-masks-left : goal.returns-then-masks-left
unfolding behind image_counts masks_for
returns-then-masks-left c = rw (le-leb _ _ c.if-n-self.true, le-leb _ _ c.if-masks-left.true) c.complete.ensures

pub cut_image-requires-clause-masks : goal.cut_image-requires-clause-masks
unfolding masks_for
cut_image-requires-clause-masks c = ⊎_elim (λ cut _. cut.1) (λ large h. absurd (omega arith)) c.else-n-self.either
