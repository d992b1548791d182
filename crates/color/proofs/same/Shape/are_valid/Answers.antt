-- `are_valid` meets its contract: a longer slice is valid too. Assumes nothing.
use mathlib.Core.Path.{sym, ◌∙◌}
use borrow.Author.Tests.{le-leb}
use Rattle.color.proofs.Valid.{longer-valid}
use Rattle.color.proofs.same.Shape.are_valid.Goals as goal

pub returns-then-a-b : goal.returns-then-a-b
returns-then-a-b c =
    let v = sym c.is_valid.ensures ∙ c.if-is_valid.true in
    rw (v, longer-valid _ _ _ _ _ _ _ c.if-a-b.true v) (le-leb _ _ c.if-a-b.true)
