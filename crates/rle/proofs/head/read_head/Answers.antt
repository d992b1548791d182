-- `read_head` meets its contract: the stream's end, or the header's kind and its run length or refusal. Assumes nothing.
use native.Mathlib.Omega.{arith}
use Rattle.std.proofs.lemmas.Result.{err_from_is_err_and}
use Rattle.buf.proofs.Reading.{u8_is, u8_few}
use Rattle.rle.proofs.Heads.{head_read, head-refused}
use Rattle.rle.proofs.head.read_head.Goals as goal

pub returns-in_default : goal.returns-in_default
returns-in_default c =
    let few = u8_few _ _ _ _ c.u8_from.ensures c.in_default.is in
    omega arith

pub overflow_cast-header : goal.overflow_cast-header
overflow_cast-header c =
    let is = u8_is _ _ _ _ c.u8_from.ensures c.in-Ok.is in
    rw is.1 (c.type_inv.src c.args.pos)

pub overflow_add-pos : goal.overflow_add-pos
overflow_add-pos c =
    let is = u8_is _ _ _ _ c.u8_from.ensures c.in-Ok.is in
    omega arith

pub invariant_of-behind : goal.invariant_of-behind
invariant_of-behind c =
    let is = u8_is _ _ _ _ c.u8_from.ensures c.in-Ok.is in
    record { inside = rw (c.new.ensures.0, c.new.ensures.1) (omega arith) }

pub returns : goal.returns
returns c =
    let is = u8_is _ _ _ _ c.u8_from.ensures c.in-Ok.is in
    head_read c.args.src.now c.args.pos _ _ is.1 c.header_kind-kind.ensures c.in_ok-length.length _ _ (omega (arith, is.1, c.type_inv.src c.args.pos))
    (rw (c.new.ensures.0, c.new.ensures.1) at c.in_ok-length.ensures)

pub returns-in_err-length : goal.returns-in_err-length
returns-in_err-length c =
    let is = u8_is _ _ _ _ c.u8_from.ensures c.in-Ok.is in
    let e = err_from_is_err_and c.from_residual.result c.from_residual.ensures.1 in
    rw (e.1, e.2)
    (head-refused c.args.src.now c.args.pos _ _ is.1 c.header_kind-kind.ensures _ (rw (c.new.ensures.0, c.new.ensures.1) at c.in_err-length.ensures))
