-- Laws of the functions that serve several kinds. Assumes nothing.
use mathlib.Core.Path.{◌≡◌, refl, sym, subst}
use mathlib.Core.List.{List}
use mathlib.Core.Bool.{Bool, false}
use mathlib.Core.Logic.{◌⊎◌, inl, inr}
use Rattle.rle.specs.declared.kind.Kind.{Kind as CodeKind}
use Rattle.rle.specs.declared.kind.Kind.TheVariants.{BgRun, FgRun, FgBgImage, ColorRun, ColorImage, SetFgRun, SetFgBgImage, DitheredRun, SpecialFgBg1, SpecialFgBg2, White, Black, NoOrder}
use Rattle.rle.specs.Kinds.{kind_in, sets_foreground, fixed_length}
use Prim.Native.Nat.{ℕ, ◌+◌, ◌*◌, ◌-◌, ◌/◌, ◌≤◌, ◌<◌, zero-le}
use native.Mathlib.Nat.{add-zero, zero-add, sub-zero}
use borrow.Author.Tests.{le-leb}
use native.Mathlib.Omega.{arith}
use lib.Dec.{leb}
use lib.ListN.{drop}
use lib.Seq.{drop-drop}
use Rattle.rle.specs.declared.frame.Frame.{Frame as CodeFrame}
use Rattle.rle.specs.declared.plan.Plan.{Plan as CodePlan}
use Rattle.base.specs.Picks.{pick}
use Rattle.picture.specs.Pixels.{Pixel, OfDepth}
use Rattle.picture.specs.Sizes.{Frame}
use Rattle.base.proofs.Tests.{by_test, apart}
use Rattle.definition.specs.Decode.{Ink, solid, mask_ink}
use Rattle.definition.specs.Plan.{Counts, counts, complete, behind, with_operands, run_counts, counts_of, new_foreground, foreground_by, image_ink, kind_ink, leaves, foreground_in}
use Rattle.rle.specs.Planning.{counts_in}
use Rattle.rle.specs.Painting.{Painted}
use Rattle.rle.specs.Operands.{HasOperands}
use Rattle.definition.proofs.Planned.{run-most}
use Rattle.rle.proofs.Inks.{black_of_depth}

-- only a set-foreground order has a foreground of its own
pub foreground_is : (D : ℕ) (k : CodeKind) (p : Pixel) (xs : List ℕ) → foreground_by D (kind_in k) p xs ≡ pick (sets_foreground k) (new_foreground D p xs) p
unfolding foreground_in leaves
foreground_is D BgRun p xs = refl
foreground_is D FgRun p xs = refl
foreground_is D FgBgImage p xs = refl
foreground_is D ColorRun p xs = refl
foreground_is D ColorImage p xs = refl
foreground_is D SetFgRun p xs = refl
foreground_is D SetFgBgImage p xs = refl
foreground_is D DitheredRun p xs = refl
foreground_is D SpecialFgBg1 p xs = refl
foreground_is D SpecialFgBg2 p xs = refl
foreground_is D White p xs = refl
foreground_is D Black p xs = refl
foreground_is D NoOrder p xs = refl

-- a foreground run has one of its own, or the state's
abbrev pub IsRun : CodeKind → Type 0
IsRun k = (k ≡ FgRun) ⊎ (k ≡ SetFgRun)

pub run_counts_by : (D n a R : ℕ) {k : CodeKind} → IsRun k → with_operands (pick (sets_foreground k) D 0) a (run_counts D n R) ≡ counts_of D (kind_in k) n a R
unfolding counts_of with_operands behind
run_counts_by D n a R (inl e) = rw (e, le-leb 0 a zero-le, zero-add)
run_counts_by D n a R (inr e) = rw e

-- a special fg/bg image has one of two masks
abbrev pub IsSpecial : CodeKind → Type 0
IsSpecial k = (k ≡ SpecialFgBg1) ⊎ (k ≡ SpecialFgBg2)

-- its length is the only one of its kind
pub special_eight : {k : CodeKind} → IsSpecial k → {n : ℕ} → fixed_length k n → n ≡ 8
special_eight (inl e) fixed = rw e at fixed
special_eight (inr e) fixed = rw e at fixed

-- it counts alike for both, no matter what is left of the stream
pub special_counts : (D n a R : ℕ) {k : CodeKind} → IsSpecial k → run_counts D n R ≡ counts_of D (kind_in k) n a R
unfolding counts_of
special_counts D n a R (inl e) = rw e
special_counts D n a R (inr e) = rw e

pub special_keeps : {k : CodeKind} → IsSpecial k → sets_foreground k ≡ false
special_keeps (inl e) = rw e
special_keeps (inr e) = rw e

pub special_few : (D R : ℕ) (p : CodePlan) → counts_in p ≡ run_counts D 8 R → p.pixels ≤ 8
special_few D R p e = subst (λ (c : Counts). c.pixels ≤ 8) (sym e) (run-most D 8 R)

-- all eight pixels or none
pub special_whole : (D R : ℕ) (p : CodePlan) → counts_in p ≡ run_counts D 8 R → p.pixels / 8 * 8 ≡ p.pixels
unfolding run_counts
special_whole D R p e =
    subst (λ (c : Counts). c.pixels / 8 * 8 ≡ c.pixels) (sym e) (by_test (λ (c : Counts). c.pixels / 8 * 8 ≡ c.pixels) (leb 8 R) (λ _. omega arith) (λ _. omega arith))

-- white, black, or no order
abbrev pub IsPixel : CodeKind → Type 0
IsPixel k = (k ≡ White) ⊎ ((k ≡ Black) ⊎ (k ≡ NoOrder))

pub pixel_counts : (D n a R : ℕ) {k : CodeKind} → IsPixel k → fixed_length k n → counts_of D (kind_in k) 1 0 R ≡ counts_of D (kind_in k) n a R
unfolding counts_of
pixel_counts D n a R (inl e) fixed = rw (e, rw e at fixed)
pixel_counts D n a R (inr (inl e)) fixed = rw (e, rw e at fixed)
pixel_counts D n a R (inr (inr e)) fixed = rw e

pub pixel_keeps : {k : CodeKind} → IsPixel k → sets_foreground k ≡ false
pixel_keeps (inl e) = rw e
pixel_keeps (inr (inl e)) = rw e
pixel_keeps (inr (inr e)) = rw e

abbrev pub IsColored : CodeKind → Type 0
IsColored k = (k ≡ White) ⊎ (k ≡ Black)

-- where any pixel is painted, it has a color
pub pixel_colored : (D n a : ℕ) {k : CodeKind} → IsPixel k → HasOperands k D n a → 0 < n → IsColored k
pixel_colored D n a (inl e) none some = inl e
pixel_colored D n a (inr (inl e)) none some = inr e
pixel_colored D n a (inr (inr e)) none some =
    let zero : n ≡ 0 = rw e at none in
    absurd (omega arith)

-- and it is the whole order
one_counted : (D R : ℕ) → 0 < (run_counts D 1 R).pixels → counts 0 1 complete ≡ run_counts D 1 R
unfolding run_counts
one_counted D R = by_test (λ (c : Counts). 0 < c.pixels → counts 0 1 complete ≡ c) (leb 1 R) (λ _ _. refl) (λ _ h. absurd (omega arith))

pub colored_counts : (D n a R : ℕ) {k : CodeKind} → IsColored k → fixed_length k n → 0 < (counts_of D (kind_in k) n a R).pixels
    → counts 0 1 complete ≡ counts_of D (kind_in k) n a R
unfolding counts_of
colored_counts D n a R (inl e) fixed = rw (e, rw e at fixed) (one_counted D R)
colored_counts D n a R (inr e) fixed = rw (e, rw e at fixed) (one_counted D R)

-- its color is of the depth
pub color_depth : (f : CodeFrame) {x : Pixel} {k : CodeKind} → IsColored k → (k ≡ White → x ≡ f.depth.white) → ((k ≡ White → ⊥) → x ≡ f.depth.black)
    → OfDepth f.depth.bytes x
color_depth f (inl e) white black = rw (white e) f.white
color_depth f (inr e) white black = rw (black (λ u. apart cc)) (black_of_depth f)

-- an fg/bg image, with a foreground of its own or without
abbrev pub IsImage : CodeKind → Type 0
IsImage k = (k ≡ FgBgImage) ⊎ (k ≡ SetFgBgImage)

-- the masks behind the foreground are enough for its pixels
pub image_masks : (D n a : ℕ) {k : CodeKind} → IsImage k → HasOperands k D n a → n ≤ (a - pick (sets_foreground k) D 0) * 8
image_masks D n a (inl e) there = rw (e, sub-zero) (rw e at there)
image_masks D n a (inr e) there = rw e (rw e at there)

-- ---- painting

-- painted by an arm that two kinds share
module _ {D w k n : ℕ} {xs ys : List ℕ} (f : Frame) {c : CodeKind} (i : Bool) (fg bg : Ink) where
  pub fg-painted : IsRun c → (os : List ℕ) → Painted D w (λ _. fg) k n xs ys → Painted D w (kind_ink f (kind_in c) i fg bg os) k n xs ys
  unfolding kind_ink
  fg-painted (inl e) os p = rw e p
  fg-painted (inr e) os p = rw e p

  pub masks-painted : IsImage c → (pos : ℕ) (src : List ℕ)
      → Painted D w (image_ink fg bg (drop (pos + pick (sets_foreground c) f.bytes 0) src)) k n xs ys → Painted D w (kind_ink f (kind_in c) i fg bg (drop pos src)) k n xs ys
  unfolding kind_ink
  masks-painted (inl e) pos src p = rw e (rw (e, add-zero) at p)
  masks-painted (inr e) pos src p = rw e (rw (e, ← drop-drop f.bytes pos src) at p)

  pub special_painted : IsSpecial c → (m : ℕ) → (c ≡ SpecialFgBg1 → m ≡ 0x03) → (c ≡ SpecialFgBg2 → m ≡ 0x05) → (os : List ℕ)
      → Painted D w (mask_ink fg bg m) k n xs ys → Painted D w (kind_ink f (kind_in c) i fg bg os) k n xs ys
  unfolding kind_ink
  special_painted (inl e) m first second os p = rw e (rw (first e) at p)
  special_painted (inr e) m first second os p = rw e (rw (second e) at p)

  pub pixel-painted : IsColored c → (x : Pixel) → (c ≡ White → x ≡ f.white) → ((c ≡ White → ⊥) → x ≡ f.black) → (os : List ℕ)
      → Painted D w (λ _. solid x) k n xs ys → Painted D w (kind_ink f (kind_in c) i fg bg os) k n xs ys
  unfolding kind_ink
  pixel-painted (inl e) x white black os p = rw e (rw (white e) at p)
  pixel-painted (inr e) x white black os p = rw e (rw (black (λ u. apart cc)) at p)
