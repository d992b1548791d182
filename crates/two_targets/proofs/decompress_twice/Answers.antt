-- `decompress_twice` meets its contract: what two calls of `decompress` promise, and the theorem that follows. Assumes nothing.
use Rattle.rle.proofs.Theorems.{no_old_byte}
use Rattle.two_targets.proofs.decompress_twice.Goals as goal

pub returns : goal.returns
returns c =
    let a = c.args in
    let d = c.decompress-a.ensures in
    let e = c.decompress-b.ensures in
    record { first = d; second = e; no_old_byte = λ s t. no_old_byte a.src.now a.bpp a.width a.height _ _ _ _ _ _ d e s t }
