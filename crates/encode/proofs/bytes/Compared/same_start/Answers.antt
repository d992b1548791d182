-- `same_start` meets its contract. Assumes nothing.
use Rattle.std.proofs.Common.{◌≡◌, ◌+◌, ◌∙◌, arith}
use Rattle.std.proofs.lemmas.List.{take_rest}
use Rattle.encode.specs.Bytes.{same_start}
use Rattle.encode.proofs.Comparing.{start_le, start-rest, start-stretch}
use Rattle.encode.proofs.bytes.Compared.same_start.Goals as goal

pub overflow_add-result : goal.overflow_add-result
overflow_add-result c =
    let n = rw (take_rest, take_rest) at c.count_same.ensures in
    omega (
      arith,
      start_le c.args.self.here.now c.args.self.back.now,
      start-rest c.args.self.here.now c.args.self.back.now c.count_blocks-j.result c.count_blocks-j.ensures.same,
    )

pub returns : goal.returns
returns c =
    let a = c.args.self in
    let n = rw (take_rest, take_rest) at c.count_same.ensures in
    let all : c.count_blocks-j.result + c.count_same.result ≡ same_start a.here.now a.back.now =
    rw n (start-rest a.here.now a.back.now c.count_blocks-j.result c.count_blocks-j.ensures.same) in
    record { counted = all; stretch = all ∙ start-stretch a.here.now a.back.now a.lengths }
