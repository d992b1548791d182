-- `paint_xor` meets its contract: the bytes that are written are the pixels. Assumes nothing.
use mathlib.Core.Path.{sym, subst}
use mathlib.Core.List.{List}
use Prim.Native.Nat.{ℕ}
use Rattle.definition.specs.Decode.{above_xor}
use Rattle.rle.specs.Painting.{Paints}
use Rattle.rle.proofs.Writers.{xor_painted}
use Rattle.rle.proofs.span.Span.paint_xor.Goals as goal

pub returns : goal.returns
returns c =
    let s = c.args.self in
    subst (λ (ys : List ℕ). Paints s (λ _. above_xor c.args.p) c.args.dst.now ys) (sym c.xor_rows.ensures)
    (xor_painted s.bytes s.width s.start s.pixels c.args.dst.now s.low s.high c.requires.place s.wide c.requires.above c.args.p c.requires.of_depth)
