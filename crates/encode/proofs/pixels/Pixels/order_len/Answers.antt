-- `order_len` meets its contract. Assumes nothing.
use native.Mathlib.Omega.{arith}
use Rattle.encoding.proofs.HeadLengths.{head-most}
use Rattle.encode.specs.Orders.{pixels_held}
use Rattle.encode.proofs.OrderBytes.{held_few}
use Rattle.encode.proofs.Streams.{small}
use Rattle.encode.proofs.pixels.Pixels.order_len.Goals as goal

pub overflow_add-result : goal.overflow_add-result
overflow_add-result c =
    let o = c.args.o in
    let held = small c.args.self.now (pixels_held o.kind o.pixels) (omega (arith, held_few o.kind o.pixels o.one, o.few)) in
    omega (arith, c.head_len.ensures, c.bytes_held.ensures, head-most o.pixels, held)
