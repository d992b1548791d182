-- `from_two_bytes` meets its contract: the bytes give the channels that the number gives. Assumes nothing.
use Prim.Native.Nat.{◌<◌}
use native.Mathlib.Omega.{arith}
use Rattle.color.specs.Colors.{expand_word, word}
use Rattle.color.proofs.Channels.{blue, green, red}
use Rattle.color.proofs.pixel.from_two_bytes.Goals as goal

pub returns : goal.returns
unfolding expand_word word
returns g c =
    let low : c.from-low.result < 256 = omega arith in
    let high : c.from-high.result < 256 = omega arith in
    rw (c.channel_byte.ensures, c.channel_byte-2.ensures, c.channel_byte-3.ensures, ← c.from-low.ensures, ← c.from-high.ensures)
    (rw (blue _ _, green c.requires low high, red c.requires low high))
