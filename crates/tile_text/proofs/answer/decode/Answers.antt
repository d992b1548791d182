-- The tests are the definition's, in its order; within the limits there is no refusal 4, and the painted bytes fit. Assumes nothing.
use Rattle.std.proofs.Common.{refl, arith, of_calls}
use Rattle.tile_text.proofs.Replying.{answered_bad, answered_refused, answered_large, answered_decoded, painted_fit, decode_answered, outcome_mapped, answered_error, too_many}
use Rattle.tile_text.proofs.answer.decode.Goals as goal

pub returns-in_default : goal.returns-in_default
returns-in_default c = answered_bad _ _ c.in_default.not-Whole

pub returns-in_err-size : goal.returns-in_err-size
returns-in_err-size c = answered_error _ _ c.from_residual.ensures.1 (answered_refused _ _ c.in-Whole.is _ c.in_err-size.ensures)

pub returns-in_default-read : goal.returns-in_default-read
returns-in_default-read c =
    answered_large _ _ c.in-Whole.is _ c.in_ok-size.ensures (λ fits. absurd (omega (arith, c.if-size-le-PICTURE_LIMIT.false, fits)))

pub returns-in_default-read-2 : goal.returns-in_default-read-2
returns-in_default-read-2 c =
    answered_large _ _ c.in-Whole.is _ c.in_ok-size.ensures (λ _. too_many _ _ c.read.ensures.limit c.in_default-read.is)

pub overflow_mul-result : goal.overflow_mul-result
overflow_mul-result c =
    let d = c.decompress-report in
    omega (arith, painted_fit c.args.p.now _ _ _ _ c.in_ok-size.ensures c.if-size-le-PICTURE_LIMIT.true c.told-target d.auto.dst _ c.bytes_per_pixel.ensures (rw c.in-Some.ensures.bytes at d.ensures))

pub returns : goal.returns
returns c =
    let d = c.decompress-report in
    answered_decoded _ _ c.in-Whole.is _ c.in_ok-size.ensures c.if-size-le-PICTURE_LIMIT.true (c.in-Some.ensures.limit.0 refl)
    (decode_answered _ _ _ _ _ c.in_ok-size.ensures c.if-size-le-PICTURE_LIMIT.true c.told-target d.auto.dst _ c.bytes_per_pixel.ensures (rw c.in-Some.ensures.bytes at d.ensures)
    _ (outcome_mapped _ _ c.map_err.ensures.cases (λ e w m. search of_calls)) refl refl refl)
