-- `masks` meets its contract: what is written of the masks is what the contract names. Assumes nothing.
use Rattle.std.proofs.Common.{rules, refl, arith}
use Rattle.byte_runs.proofs.Masks.{masks_there}
use Rattle.mask.proofs.masks.Goals as goal

pub returns-in-1 : goal.returns-in-1
returns-in-1 c =
    let a = c.args in
    masks_there a.src.now a.pixel a.pos a.d a.at a.back _ a.dst.now a.m 1 _ _ (search rules) (search rules) (search rules) (omega arith) (search rules) (omega arith) refl
    c.masks_of.ensures

pub returns-in-2 : goal.returns-in-2
returns-in-2 c =
    let a = c.args in
    masks_there a.src.now a.pixel a.pos a.d a.at a.back _ a.dst.now a.m 2 _ _ (search rules) (search rules) (search rules) (omega arith) (search rules) (omega arith) refl
    c.masks_of-in-2.ensures

pub returns-in_default : goal.returns-in_default
returns-in_default c =
    let a = c.args in
    masks_there a.src.now a.pixel a.pos a.d a.at a.back _ a.dst.now a.m 3 _ _ (search rules) (search rules) (search rules) (omega arith) (search rules) (omega arith) refl
    c.masks_of-in_default.ensures
