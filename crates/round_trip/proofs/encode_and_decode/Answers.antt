-- `encode_and_decode` meets its contract: what both calls promise, and the theorem that follows. Assumes nothing.
use mathlib.Core.Path.{sym}
use native.Mathlib.Omega.{arith}
use lib.Seq.{length-take-le}
use Rattle.round_trip.proofs.Back.{length-inside, not_refused, comes_back}
use Rattle.round_trip.proofs.encode_and_decode.Goals as goal

pub slice_bounds-decompress-end : goal.slice_bounds-decompress-end
slice_bounds-decompress-end c =
    let a = c.args in
    omega (
      arith,
      c.unwrap_or-n.ensures,
      length-inside a.src.now a.bpp a.width a.height _ _ _
          c.compress-answer.ensures,
    )

pub slice_bounds-decompress-end-2 : goal.slice_bounds-decompress-end-2
slice_bounds-decompress-end-2 c =
    let a = c.args in
    let inside = length-inside a.src.now a.bpp a.width a.height _ _ _ c.compress-answer.ensures in
    sym (length-take-le _ _ (rw c.unwrap_or-n.ensures inside))

pub returns : goal.returns
returns c =
    let a = c.args in
    let e = c.compress-answer.ensures in
    let d = rw c.unwrap_or-n.ensures at c.decompress-report.ensures in record {
      compresses = e;
      decompresses = d;
      round_trip = record {
        written = not_refused a.src.now a.bpp a.width a.height _ _ _ e;
        back = comes_back a.src.now a.bpp a.width a.height _ _ _ e _ _ _ d;
      };
    }
