-- `run_at` meets its contract: its tests are those for three equal pixels and for three equal to those above. Assumes nothing.
use mathlib.Core.Path.{sym, ◌∙◌}
use native.Mathlib.Omega.{arith}
use borrow.Author.Tests.{lt-leb}
use Rattle.encode.proofs.Starts.{run_equal, run_first, run_above}
use Rattle.encode.proofs.image.PixelsOf.run_at.Goals as goal

pub returns-then-is_stretch : goal.returns-then-is_stretch
returns-then-is_stretch g c =
    let a = c.args in
    c.if-is_stretch.true ∙ run_equal a.self.pixels a.k (omega (arith, c.requires)) (omega (arith, c.requires)) (sym c.is_stretch.ensures ∙ c.if-is_stretch.true)

pub returns-then-self-k : goal.returns-then-self-k
returns-then-self-k g c =
    let a = c.args in
    c.is_stretch-then-self-k.ensures
    ∙ run_above a.self.pixels a.k (omega (arith, c.requires)) (omega (arith, c.requires)) (sym c.is_stretch.ensures ∙ c.if-is_stretch.false) c.if-self-k.true

pub returns-else-self-k : goal.returns-else-self-k
returns-else-self-k g c =
    let a = c.args in
    lt-leb a.self.pixels.width a.k c.if-self-k.false
    ∙ run_first a.self.pixels a.k (omega (arith, c.requires)) (omega (arith, c.requires)) (sym c.is_stretch.ensures ∙ c.if-is_stretch.false) c.if-self-k.false
