-- `decompress_by_pauses` meets its contract. The invariant: the state is reached by calls alone, and the target has its own bytes past the
-- painted ones. Each call completes an order at least, so the orders that the picture has pixels for get fewer. Assumes nothing.
use Prim.Native.Nat.{◌-◌, ◌*◌, ◌<◌}
use Rattle.by_pauses.proofs.Going.{Between}
use Rattle.by_pauses.proofs.decompress_by_pauses.Given as goal

abbrev pub invariant-loop-next : goal.invariant-loop-next
invariant-loop-next l = Between l.src l.bpp l.width l.height l.fn.dst l.dst l.state × (0 < l.some)

abbrev pub decreases-loop-next : goal.decreases-loop-next
decreases-loop-next l = l.width * l.height - l.state.orders
