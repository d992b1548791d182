-- `count_blocks` meets its contract. The invariant: the bytes passed are the same. Assumes nothing.
use mathlib.Core.Path.{◌≡◌, sym, ◌∙◌}
use Prim.Native.Nat.{◌+◌, ◌-◌}
use native.Mathlib.Omega.{arith}
use Rattle.encode.proofs.Comparing.{start_le, block_agrees, block_differs}
use Rattle.encode.proofs.bytes.Compared.count_blocks.Goals as goal

pub overflow_sub-self : goal.overflow_sub-self
overflow_sub-self g c =
    let h = c.loop-i.invariant in
    omega (arith, start_le c.args.self.here.now c.args.self.back.now)

pub loop-i-preserved : goal.loop-i-preserved
loop-i-preserved g c =
    let h = c.loop-i.invariant in
    let n : c.loop-i.i + g.row.N - c.loop-i.i ≡ g.row.N = omega arith in
    block_agrees c.args.self.here.now c.args.self.back.now c.loop-i.i g.row.N c.args.self.lengths h
    (omega (arith, start_le c.args.self.here.now c.args.self.back.now))
    (rw n at (sym c.difference.ensures ∙ c.if-difference-eq0.true))

pub returns-after-loop-i-clause-inside : goal.returns-after-loop-i-clause-inside
returns-after-loop-i-clause-inside g c = let h = c.loop-i.invariant in omega (arith, start_le c.args.self.here.now c.args.self.back.now)

pub returns-else-difference-eq0-clause-ended : goal.returns-else-difference-eq0-clause-ended
returns-else-difference-eq0-clause-ended g c fits =
    let h = c.loop-i.invariant in
    let n : c.loop-i.i + g.row.N - c.loop-i.i ≡ g.row.N = omega arith in
    (block_differs c.args.self.here.now c.args.self.back.now c.loop-i.i g.row.N c.args.self.lengths fits
    (λ same. c.if-difference-eq0.false (c.difference.ensures ∙ rw n same))).0
