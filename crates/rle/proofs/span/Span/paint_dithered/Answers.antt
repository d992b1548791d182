-- `paint_dithered` meets its contract: the part that is lent holds the pixels, in pairs. Assumes nothing.
use Prim.Native.Nat.{◌/◌}
use native.Mathlib.Omega.{arith}
use Rattle.rle.proofs.Parts.{part_paired}
use Rattle.rle.proofs.span.Span.paint_dithered.Goals as goal

pub returns : goal.returns
returns c =
    part_paired c.args.self c.args.dst.now _ c.requires.place c.args.a c.args.b (c.args.self.pixels / 2) (omega arith) c.requires.of_depth.0
    c.requires.of_depth.1 c.fill_pairs.ensures
