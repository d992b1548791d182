-- Laws of the code's inks: those of a state, and of a state with another foreground. Assumes nothing.
use mathlib.Core.Path.{◌≡◌, refl, sym, ◌∙◌}
use mathlib.Core.List.{List, [], ◌∷◌}
use mathlib.Core.Bool.{Bool, true, false}
use Prim.Native.Nat.{ℕ, ◌≤◌}
use Rattle.std.specs.Prelude.{IfSome}
use Rattle.std.specs.Bool.{then_some}
use lib.Dec.{leb}
use lib.ListN.{length}
use Rattle.rle.specs.declared.state.State.{State as CodeState}
use Rattle.rle.specs.declared.frame.Frame.{Frame as CodeFrame}
use Rattle.rle.specs.declared.paint.Ink.{Ink as CodeInk}
use Rattle.rle.specs.declared.paint.Ink.TheVariants.{Solid, Above}
use Rattle.rle.specs.declared.span.Span.{Span}
use Rattle.base.specs.Picks.{pick}
use Rattle.picture.specs.Pixels.{Pixel, OfDepth}
use Rattle.picture.proofs.Pixels.{zeros_of_depth, of_depth}
use Rattle.base.proofs.Tests.{by_test}
use Rattle.definition.specs.Decode.{fg_ink, bg_ink, insert_ink}
use Rattle.definition.specs.Plan.{new_foreground, Left, an_insert, a_foreground, nothing, foreground_in}
use Rattle.rle.specs.Painting.{Paintable, HasColor, ink_of, zero_ink, insert_inks}
use Rattle.rle.specs.States.{row_above, fg_of, bg_of, insert_of, with_fg, IsSpan}

-- ---- where they can be painted

-- black has its unused bytes zero
pub black_of_depth : (f : CodeFrame) → OfDepth f.depth.bytes f.depth.black
black_of_depth f = rw f.black (zeros_of_depth f.depth.bytes)

-- the foreground that an order leaves has its unused bytes zero
pub foreground_of_depth : (D : ℕ) → 1 ≤ D → D ≤ 3 → {p : Pixel} → OfDepth D p → (xs : List ℕ) (l : Left) → OfDepth D (foreground_in D l p xs)
unfolding foreground_in new_foreground
foreground_of_depth D low high of xs an_insert = of
foreground_of_depth D low high of xs a_foreground =
    by_test (λ (x : Pixel). OfDepth D x) (leb D (length xs)) (λ e. of_depth D xs low high) (λ e. of)
foreground_of_depth D low high of xs nothing = of

-- the row above is there where the state's two inks look at it
module _ {f : CodeFrame} {s : CodeState} {n : ℕ} {t : Span} (is : IsSpan f s n t) (row : row_above s.walk.first_row f.width ≤ s.walk.pixels) where
  pub fg_paintable : {p : Pixel} → OfDepth f.depth.bytes p → Paintable t (fg_of (with_fg s p))
  fg_paintable of =
      by_test (λ (i : CodeInk). Paintable t i) s.walk.first_row (λ _. rw is.bytes of) (λ e. (rw (is.width, is.start) (rw e at row), rw is.bytes of))

  pub bg_paintable : Paintable t (bg_of f s)
  bg_paintable =
      by_test (λ (i : CodeInk). Paintable t i) s.walk.first_row (λ _. rw is.bytes (black_of_depth f)) (λ e. rw (is.width, is.start) (rw e at row))

  pub insert_paintable : OfDepth f.depth.bytes s.foreground → IfSome (insert_of s) (λ ink. Paintable t ink)
  insert_paintable of = go s.walk.insert
    where
      go : (insert : Bool) → IfSome (then_some insert (fg_of s)) (λ ink. Paintable t ink)
      go true = fg_paintable of
      go false = tt

-- a state's foreground has a color, which its masks need
pub fg_color : (s : CodeState) → HasColor (fg_of s)
fg_color s = by_test HasColor s.walk.first_row (λ _. tt) (λ _. tt)

-- ---- they are the definition's

of_pick : {A : Type 0} (f : CodeInk → A) (t : Bool) (i j : CodeInk) → f (pick t i j) ≡ pick t (f i) (f j)
of_pick f true i j = refl
of_pick f false i j = refl

-- that of a state that differs from s in the foreground alone
pub fg-is : {t : CodeState} {p : Pixel} (s : CodeState) → t ≡ with_fg s p → ink_of (fg_of t) ≡ fg_ink s.walk.first_row p
unfolding fg_ink
fg-is s e = rw e (of_pick ink_of s.walk.first_row _ _)

pub bg-is : (f : CodeFrame) (s : CodeState) → ink_of (bg_of f s) ≡ bg_ink s.walk.first_row f.depth.black
unfolding bg_ink
bg-is f s = of_pick ink_of s.walk.first_row _ _

-- a mask's bits that are 0 have the background's
pub zero-is : {t : CodeState} {p : Pixel} (f : CodeFrame) (s : CodeState) → t ≡ with_fg s p → zero_ink (fg_of t) ≡ ink_of (bg_of f s)
zero-is f s e = rw (e, f.black) (of_pick zero_ink s.walk.first_row _ _ ∙ sym (of_pick ink_of s.walk.first_row (Solid (0 ∷ 0 ∷ 0 ∷ [])) Above))

-- those of a background run
pub inserted-is : (insert : Bool) (fg bg : CodeInk) (j : ℕ) → insert_inks (then_some insert fg) bg j ≡ insert_ink insert (ink_of fg) (ink_of bg) j
unfolding insert_ink
inserted-is true fg bg j = refl
inserted-is false fg bg j = refl
