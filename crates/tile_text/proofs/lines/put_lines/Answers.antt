-- `put_lines` meets its contract: the lines, one after the other. Assumes nothing.
use Rattle.print.proofs.Writing.{prints_append, prints_as}
use Rattle.print.specs.Text.{ascii}
use Rattle.tile_text.proofs.Replying.{lines_joined}
use Rattle.tile_text.proofs.lines.put_lines.Goals as goal

pub returns-clause-writes : goal.returns-clause-writes
unfolding ascii
returns-clause-writes c =
    let start = c.new-output.ensures in
    let lines =
    prints_append (prints_append (prints_append (prints_append c.put_format.ensures c.put_refusal.ensures) c.number.ensures)
    c.number-2.ensures) c.put_painted.ensures
    in
    rw (start.held, start.place) at (prints_as (lines_joined c.args.answer c.args.target.now) lines).writes
