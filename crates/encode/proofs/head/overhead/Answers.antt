-- `overhead` meets its contract, at each depth. Assumes nothing.
use Prim.Native.Nat.{◌%◌}
use native.Mathlib.Omega.{arith}
use borrow.Author.Tests.{eq-eqb, ne_eqb}
use Rattle.encoding.specs.Bound as bound
use Rattle.encoding.proofs.HeadLengths.{head-most}
use Rattle.encode.proofs.head.overhead.Goals as goal

pub returns-then-bytes-eq1 : goal.returns-then-bytes-eq1
unfolding bound.overhead
returns-then-bytes-eq1 c = rw (eq-eqb _ _ c.if-bytes-eq1.true)

pub overflow_add-result-2 : goal.overflow_add-result-2
overflow_add-result-2 c = omega (arith, c.head_len.ensures, head-most (c.args.n % 65535))

pub returns : goal.returns
unfolding bound.overhead
returns c = rw (ne_eqb _ _ c.if-bytes-eq1.false, c.head_len.ensures)
