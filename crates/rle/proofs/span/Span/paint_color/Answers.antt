-- `paint_color` meets its contract: the part that is lent holds the pixels. Assumes nothing.
use mathlib.Core.Path.{sym, subst}
use mathlib.Core.List.{List}
use Prim.Native.Nat.{ℕ, ◌*◌}
use native.Mathlib.Omega.{arith}
use Rattle.definition.specs.Decode.{solid}
use Rattle.rle.specs.Painting.{Paints}
use Rattle.rle.proofs.Parts.{part_filled}
use Rattle.rle.proofs.Writers.{fill_painted}
use Rattle.rle.proofs.span.Span.paint_color.Goals as goal

pub returns : goal.returns
returns c =
    let a = c.args in
    let s = a.self in
    subst (λ (ys : List ℕ). Paints s (λ _. solid a.p) a.dst.now ys)
    (sym (part_filled s.bytes (s.start * s.bytes) s.pixels a.dst.now _ s.low s.high (omega (arith, c.requires.place)) a.p c.fill.ensures))
    (fill_painted s.bytes s.width s.start s.pixels a.dst.now s.low s.high c.requires.place a.p c.requires.of_depth)
