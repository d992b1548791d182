-- `put_painted` meets its contract: the key, the pairs and a line feed, one after the other. Assumes nothing.
use Rattle.print.proofs.Writing.{prints_line}
use Rattle.print.specs.Text.{ascii}
use Rattle.tile_text.specs.Answer.{painted_line}
use Rattle.tile_text.proofs.lines.put_painted.Goals as goal

pub returns : goal.returns
unfolding painted_line ascii
returns c = prints_line c.bytes.ensures c.pairs.ensures c.byte.ensures
