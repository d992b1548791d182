-- The refusal's three lines, one after the other. Assumes nothing.
use Rattle.std.proofs.Common.{◌≡◌, rules, tests}
use Rattle.print.proofs.Writing.{prints_append}
use Rattle.print.specs.Text.{ascii}
use Rattle.tile_text.specs.Promises.{refusal_in, refusal_lines}
use Rattle.tile_text.proofs.lines.put_refusal.Goals as goal

pub returns : goal.returns
unfolding refusal_lines ascii
returns c =
    let n = c.map_or_else-numbers.result in
    let refusal : n.refusal ≡ (refusal_in c.args.outcome).number = search (rules, tests) in
    let first : n.first ≡ (refusal_in c.args.outcome).first = search (rules, tests) in
    let second : n.second ≡ (refusal_in c.args.outcome).second = search (rules, tests) in
    rw (refusal, first, second) at (prints_append (prints_append c.number.ensures c.number-2.ensures) c.number-3.ensures)
