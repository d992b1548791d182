-- `decompress_by_pauses` meets its contract. The invariant: the state is reached by calls alone, and the target has its own bytes past the
-- painted ones. Each call completes an order at least, so the orders that the picture has pixels for get fewer. Assumes nothing.
use mathlib.Core.Path.{refl}
use native.Mathlib.Omega.{arith}
use Rattle.by_pauses.proofs.Going.{between_start, between_next, fewer, never, ends}
use Rattle.by_pauses.proofs.decompress_by_pauses.Goals as goal

pub loop-next-init : goal.loop-next-init
loop-next-init c =
    (between_start _ _ _ _ _ _ (λ i. omega (arith, c.type_inv.src i)) c.start-state.ensures, omega (arith, c.max-some.ensures))

pub loop-next-smaller : goal.loop-next-smaller
loop-next-smaller c =
    let i = c.loop-next.invariant in
    fewer i.0 c.decompress_some-r.ensures (rw (rw c.in-Ok-Paused.is at c.in-Ok-Paused.field-0-is) at c.in-Ok-Paused.is) i.1

pub loop-next-preserved : goal.loop-next-preserved
loop-next-preserved c =
    let i = c.loop-next.invariant in
    let paused = rw (rw c.in-Ok-Paused.is at c.in-Ok-Paused.field-0-is) at c.in-Ok-Paused.is in
    (between_next i.0 c.decompress_some-r.ensures paused c.decompress_some-r.auto.dst, i.1)

pub unreachable-requires : goal.unreachable-requires
unreachable-requires c =
    never c.loop-next.invariant.0 c.decompress_some-r.ensures
    (rw (rw c.in-Err-BadState.is at c.in-Err-BadState.field-0-is) at c.in-Err-BadState.is)

pub returns-in-Ok-Ended : goal.returns-in-Ok-Ended
returns-in-Ok-Ended c =
    let ended = rw c.in-Ok-Ended.is at c.in-Ok-Ended.field-0-is in
    ends c.loop-next.invariant.0 c.decompress_some-r.ensures (rw (c.in-Ok-Ended.is, ended) refl) (rw (c.in-Ok-Ended.is, ended) refl)

pub returns-in-Err-Refused : goal.returns-in-Err-Refused
returns-in-Err-Refused c =
    let refused = rw c.in-Err-Refused.is at c.in-Err-Refused.field-0-is in
    ends c.loop-next.invariant.0 c.decompress_some-r.ensures (rw c.in-Err-Refused.is refl) (rw (c.in-Err-Refused.is, refused) refl)
