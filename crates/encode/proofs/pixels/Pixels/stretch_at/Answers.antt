-- `stretch_at` meets its contract. Assumes nothing.
use mathlib.Core.Path.{sym, ◌∙◌}
use Rattle.encode.proofs.PixelStretches.{length-here, length-behind, pixel-stretch}
use Rattle.encode.proofs.pixels.Pixels.stretch_at.Goals as goal

pub invariant_of-compared : goal.invariant_of-compared
invariant_of-compared c =
    let a = c.args in
    rw (c.bytes_of.ensures, c.bytes_of-2.ensures) (record {
      lengths = length-here a.self.now a.row a.k a.n c.requires.0 c.requires.1 ∙ sym (length-behind a.self.now a.row a.k a.n c.requires.0 c.requires.1);
    })

pub returns : goal.returns
returns c =
    let a = c.args in
    let e = pixel-stretch a.self.now a.row a.k a.n c.requires.0 c.requires.1 in
    cc (e, c.bytes_of.ensures, c.bytes_of-2.ensures, c.same_start.ensures.counted, c.whole_pixels.ensures)
