-- `mask_part` meets its contract: what is written of the mask is what the contract names. Assumes nothing.
use Rattle.std.proofs.Common.{arith}
use Rattle.byte_runs.proofs.Masks.{mask_there}
use Rattle.mask.proofs.mask_part.Goals as goal

pub returns-in-1 : goal.returns-in-1
returns-in-1 c =
    let a = c.args in
    let s = c.in-Some.ensures.lookup.3 in
    mask_there a.src.now a.pixel a.pos a.d a.at a.back _ a.dst.now a.n 1 (omega arith) (omega arith) (omega arith) (omega arith) (omega (arith, s.0)) (omega arith)
    (rw (s.1 0) at c.part_of.ensures)

pub returns-in-2 : goal.returns-in-2
returns-in-2 c =
    let a = c.args in
    let s = c.in-Some.ensures.lookup.3 in
    mask_there a.src.now a.pixel a.pos a.d a.at a.back _ a.dst.now a.n 2 (omega arith) (omega arith) (omega arith) (omega arith) (omega (arith, s.0)) (omega arith)
    (rw (s.1 0) at c.part_of-in-2.ensures)

pub returns-in_default-d : goal.returns-in_default-d
returns-in_default-d c =
    let a = c.args in
    let s = c.in-Some.ensures.lookup.3 in
    mask_there a.src.now a.pixel a.pos a.d a.at a.back _ a.dst.now a.n 3 (omega arith) (omega arith) (omega arith) (omega arith) (omega (arith, s.0)) (omega arith)
    (rw (s.1 0) at c.part_of-in_default-d.ensures)
