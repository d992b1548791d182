-- `xor` meets its contract: three bytes, each by computation. Assumes nothing.
use mathlib.Core.Path.{refl}
use Rattle.picture.specs.Pixels.{xor_pixel}
use Rattle.rle.proofs.pixel.xor.Goals as goal

pub returns : goal.returns
unfolding xor_pixel
returns c = refl
