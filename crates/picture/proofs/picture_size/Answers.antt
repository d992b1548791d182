-- `picture_size` meets its contract: one law for each test. Assumes nothing.
use mathlib.Core.Path.{ap}
use native.Mathlib.Omega.{arith}
use Rattle.base.proofs.Tests.{clash}
use Rattle.picture.specs.Sizes.{Depth}
use Rattle.picture.proofs.Sizes.{size-bpp, size-empty, size-large, size_fits, few_bytes}
use Rattle.picture.proofs.picture_size.Goals as goal

pub returns-then-is_none : goal.returns-then-is_none
returns-then-is_none c = size-bpp c.args.bpp c.args.width c.args.height (λ k. clash (c.depth_of-depth.ensures.known.1 k) c.if-is_none.ensures)

pub returns-then-width-eq0 : goal.returns-then-width-eq0
returns-then-width-eq0 c =
    let a = c.args in
    size-empty a.bpp a.width a.height (c.depth_of-depth.ensures.known.0 c.if-is_none.ensures) c.then-width-eq0.either

pub returns-then-width-gt-MAX_DECODE_DIM : goal.returns-then-width-gt-MAX_DECODE_DIM
returns-then-width-gt-MAX_DECODE_DIM c =
    let a = c.args in
    size-large a.bpp a.width a.height (c.depth_of-depth.ensures.known.0 c.if-is_none.ensures) c.if-width-eq0.false c.if-height-eq0.false c.then-width-gt-MAX_DECODE_DIM.either

pub overflow_mul-result-2 : goal.overflow_mul-result-2
overflow_mul-result-2 c =
    let known = c.depth_of-depth.ensures.known.0 c.if-is_none.ensures in
    rw (ap (λ (d : Depth). d.bytes) c.depth_of-depth.ensures.row)
    (omega (arith, few_bytes c.args.bpp known c.if-width-gt-MAX_DECODE_DIM.false c.if-height-gt-MAX_DECODE_DIM.false))

pub returns : goal.returns
returns c =
    let a = c.args in
    size_fits a.bpp a.width a.height (c.depth_of-depth.ensures.known.0 c.if-is_none.ensures) c.if-width-eq0.false c.if-height-eq0.false c.if-width-gt-MAX_DECODE_DIM.false c.if-height-gt-MAX_DECODE_DIM.false _
    (ap (λ (d : Depth). d.bytes) c.depth_of-depth.ensures.row)
