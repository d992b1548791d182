-- `order` meets its contract: each way of its tests is one of the rule's. Assumes nothing.
use native.Mathlib.Omega.{arith}
use Rattle.picture.proofs.Pixels.{length-pixels_of}
use Rattle.encode.proofs.Choosing.{chosen_background, chosen_color, chosen_image}
use Rattle.encode.proofs.pixels.Place.order.Goals as goal

pub invariant_of-result : goal.invariant_of-result
invariant_of-result c =
    let x = chosen_background _ _ _ (rw length-pixels_of c.args.self.inside) _ _ _ c.above-above.ensures c.equal-equal.ensures c.if-above-ge3.true c.if-equal-above.true in
    record { one = x.one; few = x.few }

pub returns-then-equal-above : goal.returns-then-equal-above
returns-then-equal-above c = (chosen_background _ _ _ (rw length-pixels_of c.args.self.inside) _ _ _ c.above-above.ensures c.equal-equal.ensures c.if-above-ge3.true c.if-equal-above.true).order

pub invariant_of-result-then-equal-ge3 : goal.invariant_of-result-then-equal-ge3
invariant_of-result-then-equal-ge3 c =
    let x = chosen_color _ _ _ (rw length-pixels_of c.args.self.inside) _ _ _ c.above-above.ensures c.equal-equal.ensures c.if-equal-ge3.true (omega arith) in
    record { one = x.one; few = x.few }

pub returns-then-equal-ge3 : goal.returns-then-equal-ge3
returns-then-equal-ge3 c = (chosen_color _ _ _ (rw length-pixels_of c.args.self.inside) _ _ _ c.above-above.ensures c.equal-equal.ensures c.if-equal-ge3.true (omega arith)).order

pub invariant_of-result-2 : goal.invariant_of-result-2
invariant_of-result-2 c =
    let x = chosen_image _ _ _ (rw length-pixels_of c.args.self.inside) _ _ _ c.above-above.ensures c.equal-equal.ensures (omega arith) c.if-equal-ge3.false _ c.image.ensures in
    record { one = x.one; few = x.few }

pub returns : goal.returns
returns c = (chosen_image _ _ _ (rw length-pixels_of c.args.self.inside) _ _ _ c.above-above.ensures c.equal-equal.ensures (omega arith) c.if-equal-ge3.false _ c.image.ensures).order
