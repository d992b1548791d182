-- `above` meets its contract. Assumes nothing.
use mathlib.Core.Path.{◌≡◌, sym, ◌∙◌}
use Rattle.std.proofs.Common.{rules}
use Rattle.encode.specs.Orders.{is_background}
use Rattle.encode.proofs.Starts.{above-none, above-back}
use Rattle.encode.proofs.pixels.Place.above.Goals.{then-eq-via-then-eq, then-eq-via-else-eq+then-self}
use Rattle.encode.proofs.pixels.Place.above.Goals as goal

pub returns-then-eq : goal.returns-then-eq
returns-then-eq c =
    let a = c.args.self in
    let told : c.eq.result ≡ is_background c.args.before = search rules in
    elim c.then-eq.branch [
      | then-eq-via-then-eq w ↦ rw (sym told ∙ w.if-eq.true)
      | then-eq-via-else-eq+then-self w ↦ rw (sym told ∙ w.if-eq.false) (above-none a.pixels.now a.k a.inside w.if-self.true)
    ]

pub returns : goal.returns
returns c =
    let a = c.args.self in
    let told : c.eq.result ≡ is_background c.args.before = search rules in
    rw (sym told ∙ c.if-eq.false, above-back a.pixels.now a.k a.inside c.if-self.false) (rw (c.stretch_at.ensures, c.most.ensures))
