-- `nulambiro_decompress` meets its contract: the numbers of the report that `decompress` promises. Assumes nothing.
use mathlib.Core.Path.{ap, ◌∙◌}
use Rattle.nulambiro.specs.Numbers.{numbers, target}
use Rattle.nulambiro.proofs.nulambiro_decompress.Goals as goal

pub returns : goal.returns
unfolding target
returns c =
    let d = c.decompress.ensures in
    record { dst_after = d.target; report_after = c.report_numbers.ensures ∙ ap numbers d.report }
