-- `nth_order` meets its contract: refused before the stream, past the picture, or found by a walk. Assumes nothing.
use native.Mathlib.Omega.{arith}
use Rattle.rle.proofs.Finding.{frame_taken, finds_refused, finds_past, finds_walked}
use Rattle.rle.proofs.nth_order.Goals as goal

pub returns-in_err-f : goal.returns-in_err-f
returns-in_err-f c =
    let a = c.args in
    rw c.from_residual.ensures (finds_refused a.bpp a.width a.height a.src.now a.from a.n c.new.result c.in_err-f.ensures.value c.new.ensures)

pub returns-then-f-from : goal.returns-then-f-from
returns-then-f-from c =
    let a = c.args in
    let is = frame_taken a.bpp a.width a.height c.new.result _ c.in_ok-f.ensures.value c.new.ensures in
    finds_past a.bpp a.width a.height c.in_ok-f.f is a.src.now a.from a.n c.if-f-from.true (λ i. omega (arith, c.type_inv.src i))

pub returns : goal.returns
returns c =
    let a = c.args in
    let is = frame_taken a.bpp a.width a.height c.new.result _ c.in_ok-f.ensures.value c.new.ensures in
    rw c.found.ensures
    (finds_walked a.bpp a.width a.height c.in_ok-f.f is a.src.now a.from a.n c.walk_orders.result c.walk_orders.ensures)
