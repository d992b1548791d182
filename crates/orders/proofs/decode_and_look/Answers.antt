-- `decode_and_look` meets its contract: what both calls promise, and the theorem that follows. Assumes nothing.
use Rattle.orders.proofs.Looking.{counts-orders}
use Rattle.orders.proofs.decode_and_look.Goals as goal

pub returns : goal.returns
returns c =
    let a = c.args in
    let d = c.decompress-report.ensures in
    let e = c.order_record-recorded.ensures in
    record { decompresses = d; recorded = e; counts_orders = λ space. counts-orders a.src.now a.bpp a.width a.height a.n _ _ _ _ d space e }
