-- `nulambiro_plain_decompress` meets its contract: it tells the pixels of the report. Assumes nothing.
use mathlib.Core.Path.{ap}
use Rattle.definition.specs.Decode.{Summary}
use Rattle.plain_library.proofs.nulambiro_plain_decompress.Goals as goal

pub returns : goal.returns
returns c =
    let d = c.decompress.ensures in
    let pixels = ap (λ (s : Summary). s.pixels) d.report in
    record { value = pixels; dst_after = rw pixels d.target }
