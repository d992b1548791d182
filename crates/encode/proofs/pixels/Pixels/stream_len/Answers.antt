-- `stream_len` meets its contract: the sum over what the iterator gives is that over the rule's orders. Assumes nothing.
use mathlib.Core.Path.{◌∙◌}
use Prim.Native.Nat.{ℕ}
use native.Mathlib.Omega.{arith}
use Rattle.std.proofs.Common.{rules}
use Rattle.std.proofs.lemmas.Iterator.{YieldsList-from_map}
use Rattle.std.proofs.lemmas.Iterator.Consumers.{YieldsList-at, sum_by_from_yields_List, fits_by_from_yields_list}
use Rattle.encode.proofs.Streams.{steps, counted, yields, sum-all, stream_small}
use Rattle.encode.proofs.pixels.Pixels.stream_len.Goals as goal

pub sum-requires-clause-fits : goal.sum-requires-clause-fits
sum-requires-clause-fits c =
    let p = c.args.self.now in
    let s = c.orders.ensures in
    fits_by_from_yields_list (λ (n : ℕ). n) _ c.map.result _ (YieldsList-from_map {steps = steps} {v = counted p} _ (λ (n : ℕ). n) (YieldsList-at c.map.ensures.source (record { runs = yields p p.total c.orders.result s.pixels (omega arith) })) c.map.ensures.closure (λ x r q k. search rules))
    (rw (sum-all p c.orders.result s) (omega (arith, stream_small p)))

pub returns : goal.returns
returns c =
    let p = c.args.self.now in
    let s = c.orders.ensures in
    sum_by_from_yields_List (λ (n : ℕ). n) _ c.map.result c.sum.result c.sum.ensures.ran
    (YieldsList-from_map {steps = steps} {v = counted p} _ (λ (n : ℕ). n) (YieldsList-at c.map.ensures.source (record { runs = yields p p.total c.orders.result s.pixels (omega arith) })) c.map.ensures.closure (λ x r q k. search rules))
    ∙ sum-all p c.orders.result s
