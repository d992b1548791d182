-- `cut_image` meets its contract: a mask is missing first, or room. Assumes nothing.
use Prim.Native.Nat.{◌≤◌}
use native.Mathlib.Omega.{arith}
use borrow.Author.Tests.{le-leb, lt-leb}
use Rattle.definition.specs.Plan.{behind, masks_for, image_counts}
use Rattle.rle.proofs.plan.Room.cut_image.Goals.{then-n-self-via-then-n-self, then-n-self-via-else-n-self+then-left-self}
use Rattle.rle.proofs.plan.Room.cut_image.Goals as goal

pub no_mask-requires : goal.no_mask-requires
unfolding masks_for
no_mask-requires c =
    let few : c.args.left ≤ 67108864 =
    elim c.then-n-self.branch [
      | then-n-self-via-then-n-self w ↦ omega (arith, c.requires.masks w.if-n-self.true, c.args.n.few)
      | then-n-self-via-else-n-self+then-left-self w ↦ omega (arith, w.if-left-self.true, c.args.self.few)
    ] in
    (few, c.requires.operands)

pub returns-then-n-self : goal.returns-then-n-self
unfolding behind image_counts
returns-then-n-self c =
    elim c.then-n-self.branch [
      | then-n-self-via-then-n-self w ↦ rw (le-leb _ _ w.if-n-self.true, lt-leb _ _ (c.requires.masks w.if-n-self.true)) c.no_mask.ensures
      | then-n-self-via-else-n-self+then-left-self w ↦ rw (lt-leb _ _ w.if-n-self.false, le-leb _ _ w.if-left-self.true) c.no_mask.ensures
    ]

pub returns : goal.returns
unfolding behind image_counts
returns c = rw (lt-leb _ _ c.if-n-self.false, lt-leb _ _ c.if-left-self.false) c.no_room.ensures
