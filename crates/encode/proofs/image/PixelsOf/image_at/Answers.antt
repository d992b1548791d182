-- `image_at` meets its contract: what the search over its later pixels gives is where the rule ends it. Assumes nothing.
use mathlib.Core.Path.{◌≡◌}
use mathlib.Core.Bool.{true, false, not}
use Prim.Native.Nat.{ℕ, ◌+◌}
use Rattle.std.proofs.Common.{rules, tests}
use Rattle.std.proofs.lemmas.Iterator.{first_from_Range}
use Rattle.encoding.specs.Encode.{start_at, is_none}
use Rattle.encode.specs.Pixels.{pixels_in}
use Rattle.encode.proofs.Starts.{image-found}
use Rattle.encode.proofs.image.PixelsOf.image_at.Goals as goal

pub returns : goal.returns
returns g c =
    let a = c.args in
    let starts = λ (n : ℕ). not (is_none (start_at a.self.pixels.width (pixels_in a.self.pixels) (a.k + n) false)) in
    let first = first_from_Range _ _ _ c.find.result (λ n. starts n ≡ true) (λ n. starts n ≡ false) c.find.ensures.ran (λ x q k. search (rules, tests)) (λ x q k. search (rules, tests)) in
    rw (c.unwrap_or.ensures, c.requires.most)
    (image-found a.self.pixels a.k _ c.requires.inside (rw (c.requires.most, c.saturating_sub.ensures) at c.min-end.ensures) c.find.result first)
