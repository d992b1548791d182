-- A number of two digits or more: the digits of its tenth and then the last digit; else one digit. 20 digits are enough for 64 bits.
-- Assumes nothing.
use Rattle.std.proofs.Common.{◌≡◌, ◌≤◌, ◌<◌, ◌%◌, ◌^◌, sym, arith}
use Rattle.print.proofs.Printed.{decimal_small, decimal_more}
use Rattle.print.proofs.Writing.{prints_as, prints_append}
use Rattle.print.proofs.Output.+decimal.Goals as goal
use Rattle.print.proofs.Output.+decimal.Goals.{then-more, else-more}

pub returns : goal.returns
returns t c =
    let fits : c.args.n < 10 ^ 20 = omega arith in
    elim c.if-more.branch [
      | then-more w ↦
          let long : 10 ≤ c.args.n = omega (arith, w.if-more.true) in
          prints_as (sym (decimal_more c.args.n fits long)) (prints_append w.decimal.ensures (rw w.self-is at c.byte.ensures))
      | else-more w ↦
          let short : c.args.n < 10 = omega (arith, w.if-more.false) in
          let one : c.args.n % 10 ≡ c.args.n = omega arith in
          prints_as (rw one (sym (decimal_small c.args.n short))) (rw w.self-is at c.byte.ensures)
    ]
