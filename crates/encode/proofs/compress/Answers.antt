-- `compress` meets its contract: refused for depth, sizes, the pixel buffer or the output, or written. Assumes nothing.
use mathlib.Core.Path.{sym, ◌∙◌}
use native.Mathlib.Omega.{arith}
use Rattle.picture.proofs.Depths.{depth_good}
use Rattle.picture.proofs.Sizes.{matched, sized, few}
use Rattle.encode.proofs.Answers.{answers-refused, answers_short, bytes_there, answers-long, answers-written}
use Rattle.encode.proofs.compress.Goals as goal

pub returns-then-given-needed : goal.returns-then-given-needed
returns-then-given-needed c =
    let a = c.args in
    let s = matched c.in_ok-needed.was c.picture_size.ensures in
    rw c.into.ensures (answers_short a.src.now a.bpp a.width a.height a.dst.now _ s c.if-given-needed.true)

pub overflow_mul-pixels : goal.overflow_mul-pixels
overflow_mul-pixels c =
    let a = c.args in
    let s = matched c.in_ok-needed.was c.picture_size.ensures in
    let g = sized a.bpp a.width a.height _ s in
    omega (arith, few g.width g.height)

pub invariant_of-pixels : goal.invariant_of-pixels
invariant_of-pixels c =
    let a = c.args in
    let s = matched c.in_ok-needed.was c.picture_size.ensures in
    let g = sized a.bpp a.width a.height _ s in
    let d = depth_good a.bpp g.known in
    let e = c.bytes_per_pixel.ensures in
    record {
      low = rw e d.low;
      high = rw e d.high;
      few = few g.width g.height;
      there = bytes_there a.src.now a.bpp a.width a.height a.dst.now _ s _ e c.if-given-needed.false;
    }

pub returns-then-not-stream_fits : goal.returns-then-not-stream_fits
returns-then-not-stream_fits c =
    let a = c.args in
    let s = matched c.in_ok-needed.was c.picture_size.ensures in
    answers-long a.src.now a.bpp a.width a.height a.dst.now _ s _ c.bytes_per_pixel.ensures c.if-given-needed.false
    (sym c.stream_fits.ensures ∙ c.if-not-stream_fits.true)

pub returns-in_err-needed : goal.returns-in_err-needed
returns-in_err-needed c =
    let a = c.args in
    answers-refused a.src.now a.bpp a.width a.height a.dst.now _ (matched c.in_err-needed.was c.picture_size.ensures) _
    c.from_residual.ensures.1

pub returns : goal.returns
returns c =
    let a = c.args in
    let s = matched c.in_ok-needed.was c.picture_size.ensures in
    answers-written a.src.now a.bpp a.width a.height a.dst.now _ s _ c.bytes_per_pixel.ensures c.if-given-needed.false
    (sym c.stream_fits.ensures ∙ c.if-not-stream_fits.false) _ _ c.write_stream.ensures
