-- `order_record` meets its contract: what a walk from the stream's start finds. Assumes nothing.
use mathlib.Core.Path.{◌∙◌}
use Rattle.std.proofs.Common.{rules}
use Rattle.orders.proofs.Looking.{recorded-told}
use Rattle.orders.proofs.order_record.Goals as goal

pub returns : goal.returns
returns c =
    let a = c.args in
    search rules ∙ recorded-told a.src.now a.bpp a.width a.height a.n c.nth_order.result (rw c.start.ensures at c.nth_order.ensures)
