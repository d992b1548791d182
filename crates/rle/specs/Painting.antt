-- What the painters promise: pixels as the definition paints them, and nothing behind them changed.
use Rattle.std.specs.Prelude.{◌≡◌, Option, None, Some, List, [], ◌∷◌, ◌++◌, ℕ, ◌+◌, ◌*◌, ◌≤◌, eqb, length, drop}
use Rattle.base.specs.Picks.{pick}
use Rattle.picture.specs.Pixels.{Pixel, pixels_of, OfDepth}
use Rattle.definition.specs.Decode.{Ink, solid, above, above_xor, color, paint}
use Rattle.rle.specs.declared.paint.Ink.{Ink as CodeInk}
use Rattle.rle.specs.declared.paint.Ink.TheVariants.{Solid, Above, AboveXor}
use Rattle.rle.specs.declared.span.Span.{Span}

abbrev pub ink_of : CodeInk → Ink
ink_of (Solid p) = solid p
ink_of Above = above
ink_of (AboveXor p) = above_xor p

-- the ink of a mask's bits that are 0, by that of those that are 1: what it is without its color
abbrev pub zero_ink : CodeInk → Ink
zero_ink (Solid p) = solid (0 ∷ 0 ∷ 0 ∷ [])
zero_ink Above = above
zero_ink (AboveXor p) = above

-- the inks of a background run: the first pixel's is inserted, if there is one
abbrev pub insert_inks : Option CodeInk → CodeInk → ℕ → Ink
insert_inks None bg j = ink_of bg
insert_inks (Some fg) bg j = pick (eqb j 0) (ink_of fg) (ink_of bg)

-- ---- where pixels can be painted

-- the span's pixels have a place in xs
abbrev pub HasPlace : Span → List ℕ → Type 0
HasPlace s xs = (s.start + s.pixels) * s.bytes ≤ length xs

-- the row above is there
abbrev pub HasAbove : Span → Type 0
HasAbove s = s.width ≤ s.start

-- the row above is there where the ink looks at it, and its color is of the depth
abbrev pub Paintable : Span → CodeInk → Type 0
Paintable s (Solid p) = OfDepth s.bytes p
Paintable s Above = HasAbove s
Paintable s (AboveXor p) = HasAbove s × OfDepth s.bytes p

abbrev pub HasColor : CodeInk → Type 0
HasColor (Solid p) = Unit {0}
HasColor Above = ⊥
HasColor (AboveXor p) = Unit {0}

-- how many bytes back masks look with an ink, and its color
abbrev pub back_and_color : Span → CodeInk → Option ℕ × Pixel
back_and_color s (Solid p) = (None, p)
back_and_color s Above = (Some (s.width * s.bytes), 0 ∷ 0 ∷ 0 ∷ [])
back_and_color s (AboveXor p) = (Some (s.width * s.bytes), p)

-- t: n of the span's pixels, from number i of them on
pub record IsPart (s : Span) (i n : ℕ) (t : Span) : Type 0 where
  pub bytes : t.bytes ≡ s.bytes
  pub width : t.width ≡ s.width
  pub start : t.start ≡ s.start + i
  pub pixels : t.pixels ≡ n

-- ---- what is painted

-- pixel k is painted, and nothing after it changes
pub record PaintedOne (D w : ℕ) (ink : Ink) (k : ℕ) (before after : List ℕ) : Type 0 where
  pub pixels : pixels_of D (k + 1) after ≡ pixels_of D k before ++ (color w (pixels_of D k before) ink ∷ [])
  pub rest : drop ((k + 1) * D) after ≡ drop ((k + 1) * D) before

-- n pixels from number k on are painted, and nothing after them changes
pub record Painted (D w : ℕ) (ink : ℕ → Ink) (k n : ℕ) (before after : List ℕ) : Type 0 where
  pub pixels : pixels_of D (k + n) after ≡ paint w ink n (pixels_of D k before)
  pub rest : drop ((k + n) * D) after ≡ drop ((k + n) * D) before

-- the span's pixels are painted
abbrev pub Paints : Span → (ℕ → Ink) → List ℕ → List ℕ → Type 0
Paints s ink before after = Painted s.bytes s.width ink s.start s.pixels before after
