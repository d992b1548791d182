-- `head_len` meets its contract, at each of its arms. Assumes nothing.
use native.Mathlib.Omega.{arith}
use borrow.Author.Tests.{ne_eqb, le-leb, lt-leb}
use Rattle.encoding.specs.Bound.{head_size}
use Rattle.encode.proofs.head.head_len.Goals as goal

pub returns-in-0 : goal.returns-in-0
unfolding head_size
returns-in-0 c = rw c.in-0.is

pub returns-in-1-to-31 : goal.returns-in-1-to-31
unfolding head_size
returns-in-1-to-31 c = rw (ne_eqb c.args.n 0 (λ e. omega arith), le-leb c.args.n 31 (omega arith))

pub returns-in-0-to-287 : goal.returns-in-0-to-287
unfolding head_size
returns-in-0-to-287 c = rw (ne_eqb c.args.n 0 (λ e. omega arith), lt-leb c.args.n 31 (omega arith), le-leb c.args.n 287 (omega arith))

pub returns-in_default : goal.returns-in_default
unfolding head_size
returns-in_default c = rw (ne_eqb c.args.n 0 (λ e. omega arith), lt-leb c.args.n 31 (omega arith), lt-leb c.args.n 287 (omega arith))
