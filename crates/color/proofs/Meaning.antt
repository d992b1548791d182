-- `same_picture` says yes exactly if the pictures are alike: their depths and stored bytes decide, and the colors follow. Assumes nothing.
use mathlib.Core.Path.{◌≡◌, refl}
use mathlib.Core.List.{List, [], ◌∷◌}
use mathlib.Core.Bool.{true, false}
use Prim.Native.Nat.{ℕ, ◌+◌, ◌*◌, ◌≤◌, ◌<◌}
use native.Mathlib.Nat.{mul-le-mul_right}
use native.Mathlib.Omega.{arith}
use lib.Dec.{eqb}
use lib.ListN.{get_or}
use borrow.Author.Tests.{eqb-true, eq-eqb}
use Rattle.base.proofs.Tests.{both_true, same_test}
use Rattle.picture.specs.Pixels.{pixel_at, first_pixel}
use Rattle.picture.specs.Sizes.{depths, depth_index, depth_of, accept, checked, size_of, has_space}
use Rattle.picture.proofs.Depths.{depth_good}
use Rattle.picture.proofs.Pixels.{pixel_at_cong}
use Rattle.color.specs.Colors.{both, channel, color_of, expand_word, palette_fits, same_triple, word}
use Rattle.color.specs.SamePicture.{Picture, Alike, picture, valid, color_at, every_below, same_bytes, same_colors, same_picture, same_stored}
use Rattle.color.proofs.Bytes.{same_bytes_lem, bytes_same}
use Rattle.color.proofs.Every.{not_yes, passes_every}
use Rattle.color.proofs.Valid.{valid-painted}
use Rattle.color.proofs.Triples.{equal-same}

-- ---- by computing

-- a picture of two pixels in a row, of two bytes each, with so many of them painted
abbrev two : List ℕ → ℕ → ℕ → Picture
two xs n bpp = picture xs n 2 1 bpp

-- not the same: the spare bit of a painted pixel, other bits per pixel, also with nothing painted. The same: a pixel that is not painted
pub stored_computed :
    (same_picture [] (two (0x1F ∷ 0 ∷ 0 ∷ 0 ∷ []) 1 15) (two (0x1F ∷ 0x80 ∷ 0 ∷ 0 ∷ []) 1 15) ≡ false)
    × (same_picture [] (two (0 ∷ 0 ∷ 0 ∷ 0 ∷ []) 1 15) (two (0 ∷ 0 ∷ 0 ∷ 0 ∷ []) 1 16) ≡ false)
    × (same_picture [] (two (0 ∷ 0 ∷ 0 ∷ 0 ∷ []) 0 15) (two (0 ∷ 0 ∷ 0 ∷ 0 ∷ []) 0 16) ≡ false)
    × (same_picture [] (two (0x1F ∷ 0 ∷ 0 ∷ 0 ∷ []) 1 15) (two (0x1F ∷ 0 ∷ 7 ∷ 0 ∷ []) 1 15) ≡ true)
unfolding same_picture same_stored same_bytes same_colors every_below valid has_space size_of checked accept depth_index depth_of depths color_at color_of expand_word word channel pixel_at first_pixel palette_fits same_triple
stored_computed = (refl, refl, refl, refl)

-- ---- the colors follow

same-pixel : (xs ys : List ℕ) (D n : ℕ) → 1 ≤ D → ((i : ℕ) → i < n * D → get_or xs i 0 ≡ get_or ys i 0) → (k : ℕ) → k < n → pixel_at D xs k ≡ pixel_at D ys k
same-pixel xs ys D n low same k h =
    let all : (k + 1) * D ≤ n * D = mul-le-mul_right D (omega arith) in
    pixel_at_cong D k xs ys low (λ i l. same (k * D + i) (omega arith))

module _ (palette : List ℕ) (a b : Picture) where
  -- pixels of one depth that are stored in the same bytes
  pub alike_colors : Alike palette a b → (k : ℕ) → k < a.pixels → color_at palette a k ≡ color_at palette b k
  unfolding color_at
  alike_colors s k h =
      let low = (depth_good a.bpp (valid-painted palette a s.first).depth).low in
      rw (← s.depths, same-pixel a.slice b.slice (depth_of a.bpp).bytes a.pixels low s.bytes k h) refl

  -- ---- the definition

  pub same_alike : same_picture palette a b ≡ true → Alike palette a b
  unfolding same_picture same_stored
  same_alike e =
      let colors = same_colors palette a b a.pixels in
      let bytes = same_bytes a.slice b.slice (a.pixels * (depth_of a.bpp).bytes) in
      let depths = eqb a.bpp b.bpp in
      let counts = eqb a.pixels b.pixels in
      let heights = eqb a.height b.height in
      let widths = eqb a.width b.width in
      let e₁ = both_true (valid palette a) _ e in
      let e₂ = both_true (valid palette b) (both widths (both heights (both counts (both (both depths bytes) colors)))) e₁.1 in
      let e₃ = both_true widths (both heights (both counts (both (both depths bytes) colors))) e₂.1 in
      let e₄ = both_true heights (both counts (both (both depths bytes) colors)) e₃.1 in
      let e₅ = both_true counts (both (both depths bytes) colors) e₄.1 in
      let e₆ = both_true (both depths bytes) colors e₅.1 in
      let e₇ = both_true depths bytes e₆.0 in
      record {
        first = e₁.0;
        second = e₂.0;
        widths = eqb-true a.width b.width e₃.0;
        heights = eqb-true a.height b.height e₄.0;
        counts = eqb-true a.pixels b.pixels e₅.0;
        depths = eqb-true a.bpp b.bpp e₇.0;
        bytes = same_bytes_lem a.slice b.slice (a.pixels * (depth_of a.bpp).bytes) e₇.1;
      }

  colors-same : Alike palette a b → same_colors palette a b a.pixels ≡ true
  unfolding same_colors
  colors-same s = passes_every _ a.pixels (λ k h. equal-same (color_at palette a k) (color_at palette b k) (alike_colors s k h))

  pub alike_same : Alike palette a b → same_picture palette a b ≡ true
  unfolding same_picture same_stored
  alike_same s =
      simp (
        s.first,
        s.second,
        eq-eqb a.width b.width s.widths,
        eq-eqb a.height b.height s.heights,
        eq-eqb a.pixels b.pixels s.counts,
        eq-eqb a.bpp b.bpp s.depths,
        bytes_same a.slice b.slice (a.pixels * (depth_of a.bpp).bytes) s.bytes,
        colors-same s,
      )

  -- ---- what the code finds

  pub differs : (Alike palette a b → ⊥) → false ≡ same_picture palette a b
  differs h = not_yes (same_picture palette a b) (λ e. h (same_alike e))

  pub bytes_decide : valid palette a ≡ true → valid palette b ≡ true → a.width ≡ b.width → a.height ≡ b.height
      → a.pixels ≡ b.pixels → a.bpp ≡ b.bpp
      → same_bytes a.slice b.slice (a.pixels * (depth_of a.bpp).bytes) ≡ same_picture palette a b
  bytes_decide va vb w h n d =
      let count = a.pixels * (depth_of a.bpp).bytes in
      same_test (same_bytes a.slice b.slice count) (same_picture palette a b)
      (λ e.
      alike_same
      (record { first = va; second = vb; widths = w; heights = h; counts = n; depths = d; bytes = same_bytes_lem a.slice b.slice count e }))
      (λ e. bytes_same a.slice b.slice count (same_alike e).bytes)
