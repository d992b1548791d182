-- `decode` meets its contract: from the start, with orders enough. Assumes nothing.
use native.Mathlib.Omega.{arith}
use Rattle.rle.proofs.Stream.{decode-is}
use Rattle.rle.proofs.decode.FastDecoder.decode.Goals as goal

pub returns : goal.returns
returns c = rw (decode-is c.args.f c.args.src.now c.args.dst.now 18446744073709551615 (omega arith)) at (rw (c.into.ensures, c.start.ensures) at c.some_orders.ensures)
