-- `put_order` meets its contract. Assumes nothing.
use native.Mathlib.Omega.{arith}
use Rattle.encode.proofs.OrderBytes.{head-bytes}
use Rattle.encode.proofs.Streams.{length-order, order-written}
use Rattle.encode.proofs.pixels.Pixels.put_order.Goals as goal

pub put_head-head-requires : goal.put_head-head-requires
put_head-head-requires c =
    let a = c.args in
    omega (arith, c.requires.room, length-order a.self.now a.k a.o c.requires.ends, head-bytes a.o.kind a.o.pixels a.o.one)

pub returns : goal.returns
returns c =
    let a = c.args in
    order-written a.self.now a.k a.o c.requires.ends _ _ _ _ _ c.requires.room c.put_head-head.ensures c.bytes_held-held.ensures c.copy_in.ensures
