-- `put_pixel` meets its contract: the bytes of a slice are the pixel's. Assumes nothing.
use Rattle.std.proofs.Common.{rules, List, ℕ, ◌≡◌, sym, ap, ◌∙◌, arith, length, get_or}
use Rattle.std.proofs.lemmas.List.{get_or-take}
use lib.Seq.{length-take-le}
use Rattle.byte_runs.specs.Runs.{each}
use Rattle.byte_runs.proofs.Arrays.{placed}
use Rattle.byte_runs.proofs.put_pixel.Goals as goal

pub returns : goal.returns
returns g c =
    let a = c.args in
    let D = g.row.D in
    let after = c.copy_from_slice.ensures.after in
    let three : length a.pixel ≡ 3 = search rules in
    placed (each a.pixel) a.at _ D a.dst.now _ (omega arith) (sym (ap (λ (l : List ℕ). length l) after ∙ length-take-le D a.pixel (omega arith))) c.requires.1
    (λ k h. ap (λ (l : List ℕ). get_or l k 0) after ∙ get_or-take D a.pixel k 0 h)
