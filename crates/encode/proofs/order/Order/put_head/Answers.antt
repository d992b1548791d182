-- `put_head` meets its contract, in each form of the length. Assumes nothing.
use mathlib.Core.Path.{◌≡◌, ap}
use Prim.Native.Nat.{◌/◌, ◌%◌}
use native.Mathlib.Omega.{arith}
use lib.ListN.{length, length-set}
use Rattle.encoding.proofs.HeadLengths.{head_short, head-one, head_two}
use Rattle.encode.proofs.OrderBytes.{encoded}
use Rattle.encode.proofs.Written.{one-stored, two_stored, three_stored}
use Rattle.encode.proofs.order.Order.put_head.Goals as goal

pub bounds-dst-0 : goal.bounds-dst-0
bounds-dst-0 c =
    let o = c.args.self in
    omega (arith, c.requires, ap length (head_short o.pixels (encoded o.kind) (omega arith)))

pub returns-in-0-to-31 : goal.returns-in-0-to-31
returns-in-0-to-31 c =
    let o = c.args.self in
    rw c.number-kind.ensures (one-stored _ _ _ c.requires (head_short o.pixels (encoded o.kind) (omega arith)))

pub bounds-dst-0-in-0-to-287 : goal.bounds-dst-0-in-0-to-287
bounds-dst-0-in-0-to-287 c =
    let o = c.args.self in
    omega (arith, c.requires, ap length (head-one o.pixels (encoded o.kind) (omega arith) (omega arith)))

pub bounds-dst-1 : goal.bounds-dst-1
bounds-dst-1 c =
    let o = c.args.self in
    simp length-set (omega (arith, c.requires, ap length (head-one o.pixels (encoded o.kind) (omega arith) (omega arith))))

pub returns-in-0-to-287 : goal.returns-in-0-to-287
returns-in-0-to-287 c =
    let o = c.args.self in
    rw c.number-kind.ensures (two_stored _ _ _ _ c.requires (head-one o.pixels (encoded o.kind) (omega arith) (omega arith)))

pub bounds-dst-0-in_default : goal.bounds-dst-0-in_default
bounds-dst-0-in_default c =
    let o = c.args.self in
    omega (arith, c.requires, ap length (head_two o.pixels (encoded o.kind) (omega arith)))

pub bounds-dst-1-in_default : goal.bounds-dst-1-in_default
bounds-dst-1-in_default c =
    let o = c.args.self in
    simp length-set (omega (arith, c.requires, ap length (head_two o.pixels (encoded o.kind) (omega arith))))

pub bounds-dst-2 : goal.bounds-dst-2
bounds-dst-2 c =
    let o = c.args.self in
    simp length-set (omega (arith, c.requires, ap length (head_two o.pixels (encoded o.kind) (omega arith))))

pub returns-in_default : goal.returns-in_default
returns-in_default c =
    let o = c.args.self in
    let high : o.pixels / 256 % 256 ≡ o.pixels / 256 = omega (arith, o.few) in
    rw (c.number-kind.ensures, c.to_le_bytes.ensures, high)
    (three_stored _ _ _ _ _ c.requires (head_two o.pixels (encoded o.kind) (omega arith)))
