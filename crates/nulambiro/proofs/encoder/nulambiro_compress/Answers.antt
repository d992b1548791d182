-- `nulambiro_compress` meets its contract: the numbers of the answer that `compress` promises. Assumes nothing.
use mathlib.Core.Path.{◌∙◌}
use Rattle.nulambiro.specs.EncoderNumbers.{numbers_of}
use Rattle.nulambiro.proofs.encoder.nulambiro_compress.Goals as goal

pub returns : goal.returns
returns c =
    let d = c.compress.ensures in
    record { dst_after = d.output; report_after = c.answer_numbers.ensures ∙ (λ i. numbers_of (d.refusal i) (d.size i)) }
