-- The text that was read has the answer that is written. Assumes nothing.
use Rattle.std.proofs.Common.{ℕ}
use lib.ListN.{length-replicate}
use Rattle.tile.proofs.Reading.{named_otherwise, replied}
use Rattle.tile.proofs.answer.Goals as goal

pub returns : goal.returns
returns g c =
    named_otherwise _ _ c.map_err.ensures.variant
    (replied (length-replicate {A = ℕ} 8192 0) c.new-parser.ensures c.in_ok-read_all.ensures.read c.in_ok-read_all.ensures.end c.reply-n.ensures)
    c.write_all.ensures.bytes
