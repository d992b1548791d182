-- `count_in` meets its contract: refused before the stream, or walked to its end. Assumes nothing.
use Rattle.std.proofs.lemmas.Result.{err_from_is_err_and, MatchResult-at_err}
use Rattle.rle.proofs.Counting.{ended, counts-refused, counts_walked}
use Rattle.rle.proofs.walk.count_in.Goals as goal

pub returns-in_err-f : goal.returns-in_err-f
returns-in_err-f c =
    let e = err_from_is_err_and c.from_residual.result c.from_residual.ensures.1 in
    rw (e.1, e.2) (counts-refused c.args.src.now c.args.bpp c.args.width c.args.height _ c.in_err-f.ensures)

pub returns : goal.returns
returns c =
    counts_walked c.args.bpp c.args.width c.args.height c.in_ok-f.f c.in_ok-f.ensures c.args.src.now c.walk_orders-r.result
    (rw c.start.ensures at c.walk_orders-r.ensures) _ (rw (ended c.walk_orders-r.result.stop c.map-ending.result c.map-ending.ensures.variant (λ e h. MatchResult-at_err _ _ e h c.map-ending.ensures.cases)) at c.new-2.ensures)
