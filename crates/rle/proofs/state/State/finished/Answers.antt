-- `finished` meets its contract: a completed order and a refused one. Assumes nothing.
use Rattle.definition.specs.Plan.{leaves_insert}
use Rattle.rle.specs.Kinds.{kind_in}
use Rattle.rle.proofs.Endings.{after_ok, after_err}
use Rattle.rle.proofs.state.State.finished.Goals as goal

pub returns-then-is_ok : goal.returns-then-is_ok
returns-then-is_ok c =
    let e = after_ok c.args.p.ending c.if-is_ok.ensures.value c.leaves_insert-t.result c.args.self.walk.insert c.args.self.orders in
    rw (← c.leaves_insert-t.ensures, e.0, e.1)

pub returns-else-is_ok : goal.returns-else-is_ok
returns-else-is_ok c =
    let e = after_err c.args.p.ending c.if-is_ok.ensures.value (leaves_insert (kind_in c.args.kind)) c.args.self.walk.insert c.args.self.orders in
    rw (e.0, e.1)
