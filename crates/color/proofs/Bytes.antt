-- Laws of the comparison of bytes: it holds exactly if each byte is the same, and exactly if the slices' first bytes are equal. Assumes
-- nothing.
use mathlib.Core.Path.{◌≡◌, ap, sym, ◌∙◌}
use mathlib.Core.List.{List}
use mathlib.Core.Bool.{true}
use Prim.Native.Nat.{ℕ, ◌≤◌, ◌<◌}
use native.Mathlib.Omega.{arith}
use lib.ListN.{length, get_or, take}
use borrow.Author.Tests.{eqb-true, eq-eqb}
use Rattle.std.specs.Bool.{Decides}
use Rattle.std.proofs.lemmas.List.{ext_get_or, get_or-take}
use Rattle.std.proofs.lemmas.Grind.{common_steps}
use Rattle.color.specs.SamePicture.{same_bytes}
use Rattle.color.proofs.Every.{every_passes, passes_every}

module _ (xs ys : List ℕ) (n : ℕ) where
  pub same_bytes_lem : same_bytes xs ys n ≡ true → (i : ℕ) → i < n → get_or xs i 0 ≡ get_or ys i 0
  unfolding same_bytes
  same_bytes_lem e i h = eqb-true (get_or xs i 0) (get_or ys i 0) (every_passes _ n e i h)

  pub bytes_same : ((i : ℕ) → i < n → get_or xs i 0 ≡ get_or ys i 0) → same_bytes xs ys n ≡ true
  unfolding same_bytes
  bytes_same e = passes_every _ n (λ i h. eq-eqb (get_or xs i 0) (get_or ys i 0) (e i h))

  module _ (long : n ≤ length xs) (long' : n ≤ length ys) where
    left : length (take n xs) ≡ n
    left = grind (arith, common_steps)

    right : length (take n ys) ≡ n
    right = grind (arith, common_steps)

    pub same_bytes-Decides : Decides (same_bytes xs ys n) (take n xs ≡ take n ys)
    same_bytes-Decides = (
      λ e. ext_get_or 0 (take n xs) (take n ys) (left ∙ sym right)
          (λ i h. let l : i < n = omega (arith, left) in rw (get_or-take n xs i 0 l, get_or-take n ys i 0 l) (same_bytes_lem e i l)),
      λ e. bytes_same (λ i l. sym (get_or-take n xs i 0 l) ∙ ap (λ (zs : List ℕ). get_or zs i 0) e ∙ get_or-take n ys i 0 l),
    )
