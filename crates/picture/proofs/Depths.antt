-- Laws of the depth table. Assumes nothing.
use mathlib.Core.Path.{◌≡◌, refl}
use mathlib.Core.List.{[], ◌∷◌}
use Prim.Native.Nat.{ℕ, zero, suc, ◌≤◌, ◌<◌}
use native.Mathlib.Omega.{arith}
use lib.Dec.{lit≤}
use lib.ListN.{get_or}
use Rattle.picture.specs.Pixels.{OfDepth, first_pixel}
use Rattle.picture.specs.Sizes.{Depth, depths, no_depth, depth_index, depth_of}

-- a fact of every row
by_row : (P : ℕ → Type 0) → P 0 → P 1 → P 2 → P 3 → (i : ℕ) → i < 4 → P i
by_row P a b c d zero h = a
by_row P a b c d (suc zero) h = b
by_row P a b c d (suc (suc zero)) h = c
by_row P a b c d (suc (suc (suc zero))) h = d
by_row P a b c d (suc (suc (suc (suc i)))) h = absurd (omega arith)

-- what holds of each row
pub record Good (d : Depth) : Type 0 where
  pub low : 1 ≤ d.bytes
  pub high : d.bytes ≤ 3
  pub white : OfDepth d.bytes d.white
  pub black : d.black ≡ 0 ∷ 0 ∷ 0 ∷ []
  pub listed : depth_index d.format < 4

pub depth_good : (bpp : ℕ) → depth_index bpp < 4 → Good (depth_of bpp)
unfolding depths no_depth depth_of first_pixel depth_index
depth_good bpp h =
    by_row (λ i. Good (get_or depths i no_depth))
    (record { low = lit≤ tt; high = lit≤ tt; white = refl; black = refl; listed = lit≤ tt })
    (record { low = lit≤ tt; high = lit≤ tt; white = refl; black = refl; listed = lit≤ tt })
    (record { low = lit≤ tt; high = lit≤ tt; white = refl; black = refl; listed = lit≤ tt })
    (record { low = lit≤ tt; high = lit≤ tt; white = refl; black = refl; listed = lit≤ tt })
    (depth_index bpp) h
