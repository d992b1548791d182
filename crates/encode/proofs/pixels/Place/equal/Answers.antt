-- `equal` meets its contract. Assumes nothing.
use native.Mathlib.Omega.{arith}
use Rattle.encode.proofs.Starts.{equal-few, equal-back}
use Rattle.encode.proofs.pixels.Place.equal.Goals as goal

pub overflow_add-result : goal.overflow_add-result
overflow_add-result c =
    let few = equal-few c.args.self.pixels.now c.args.self.k c.args.self.inside in
    let e = equal-back c.args.self.pixels.now c.args.self.k c.args.self.inside in
    let s = rw c.most.ensures at c.stretch_at.ensures in
    omega arith

pub returns : goal.returns
returns c = rw (equal-back c.args.self.pixels.now c.args.self.k c.args.self.inside) (rw (c.stretch_at.ensures, c.most.ensures))
