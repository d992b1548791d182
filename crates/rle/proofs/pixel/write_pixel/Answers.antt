-- `write_pixel` meets its contract: one, two or three stores, by the depth. Assumes nothing.
use borrow.Author.Rules.{rules}
use native.Mathlib.Omega.{arith}
use lib.ListN.{length-set}
use Rattle.rle.proofs.Pixels.{store_1, store_2, store_3}
use Rattle.rle.proofs.pixel.write_pixel.Goals as goal

pub returns-then-d-eq1 : goal.returns-then-d-eq1
returns-then-d-eq1 c =
    let a = c.args in
    store_1 a.s.now a.p a.at a.d c.if-d-eq1.true (search rules) (omega arith)

pub bounds-s-at-2 : goal.bounds-s-at-2
bounds-s-at-2 c = simp length-set (omega arith)

pub returns-then-d-eq2 : goal.returns-then-d-eq2
returns-then-d-eq2 c =
    let a = c.args in
    store_2 a.s.now a.p a.at a.d c.if-d-eq2.true (search rules) (omega arith)

pub bounds-s-at-3 : goal.bounds-s-at-3
bounds-s-at-3 c = simp length-set (omega arith)

pub returns : goal.returns
returns c =
    let a = c.args in
    store_3 a.s.now a.p a.at a.d (omega arith) (search rules) (omega arith)
