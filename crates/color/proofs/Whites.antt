-- White and black are the same colors at every depth without a palette, and a channel's byte grows with its value. Assumes nothing.
use mathlib.Core.Path.{◌≡◌, refl}
use mathlib.Core.Logic.{inl, inr}
use mathlib.Core.List.{List, [], ◌∷◌}
use Prim.Native.Nat.{ℕ, ◌-◌, ◌<◌}
use native.Mathlib.Omega.{arith}
use Rattle.picture.specs.Sizes.{depths, depth_index, depth_of}
use Rattle.color.specs.Colors.{channel, color_of, expand_word, expanded, giving, palette_fits, word}
use Rattle.color.specs.Promises.{ChannelValues}

-- ---- white and black

-- the depth's white gives the largest bytes, and its black zeros
abbrev pub Extremes : List ℕ → ℕ → Type 0
Extremes palette bpp =
    (expanded palette bpp (depth_of bpp).white ≡ giving (255 ∷ 255 ∷ 255 ∷ []))
    × (expanded palette bpp (depth_of bpp).black ≡ giving (0 ∷ 0 ∷ 0 ∷ []))

pub whites_match : (palette : List ℕ) → Extremes palette 15 × (Extremes palette 16 × Extremes palette 24)
unfolding expanded color_of expand_word word channel palette_fits depth_index depth_of depths
whites_match palette = ((refl, refl), ((refl, refl), (refl, refl)))

-- ---- the rule of a channel

module _ {n : ℕ} (g : ChannelValues n) where
  pub channel_rises : (c d : ℕ) → c < d → channel n c < channel n d
  unfolding channel
  channel_rises c d h = elim g [ inl e ↦ rw e (omega arith) | inr e ↦ rw e (omega arith) ]

  pub channel-ends : (channel n 0 ≡ 0) × (channel n (n - 1) ≡ 255)
  unfolding channel
  channel-ends = elim g [ inl e ↦ rw e (refl, refl) | inr e ↦ rw e (refl, refl) ]
