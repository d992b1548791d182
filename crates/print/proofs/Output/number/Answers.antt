-- The key, the digits and a line feed, one after the other. Assumes nothing.
use Rattle.print.proofs.Writing.{prints_line}
use Rattle.print.proofs.Output.number.Goals as goal

pub returns : goal.returns
returns c = prints_line c.bytes.ensures c.decimal.ensures c.byte.ensures
