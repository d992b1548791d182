-- `decompress_both` meets its contract: what the two calls promise, and the theorem that follows. Assumes nothing.
use Rattle.rle.proofs.Theorems.{same_decoding}
use Rattle.two_decoders.proofs.decompress_both.Goals as goal

pub returns : goal.returns
returns c =
    let a = c.args in
    let fast = c.decompress-fast.ensures in
    same_decoding a.src.now a.bpp a.width a.height _ _ _ _ _ _ fast c.decompress-plain.ensures
