-- Laws of the first row's end: before a row is painted it changes nothing, nor does it a second time. Assumes nothing.
use mathlib.Core.Path.{◌≡◌, refl, ap, sym, ◌∙◌}
use mathlib.Core.List.{List}
use mathlib.Core.Bool.{Bool, true, false, ◌&&◌, beq}
use Prim.Native.Nat.{ℕ, ◌≤◌, ◌<◌, zero-le}
use lib.Dec.{ltb}
use lib.ListN.{drop}
use borrow.Author.Tests.{lt-ltb, ltb-true, ltb-false}
use Rattle.rle.specs.declared.frame.Frame.{Frame as CodeFrame}
use Rattle.rle.specs.declared.state.State.{State as CodeState}
use Rattle.base.specs.Picks.{pick}
use Rattle.definition.specs.Orders.{head_of}
use Rattle.definition.specs.Decode.{State, order_from, end_first_row, step}
use Rattle.rle.specs.States.{Invariant, frame_of, state_of, row_above, first_row_ended}
use Rattle.picture.proofs.Pixels.{length-pixels_of}
use Rattle.base.proofs.Tests.{both_true}

-- the marks of a row that stays
kept : (first stays insert : Bool) → (first ≡ true → stays ≡ true)
    → (pick first (pick stays insert false) insert ≡ insert) × (pick first stays false ≡ first)
kept false stays insert h = (refl, refl)
kept true stays insert h = (rw (h refl), h refl)

row_marked : (first stays : Bool) (k w : ℕ) → ltb k w ≡ stays → row_above first w ≤ k → row_above (pick first stays false) w ≤ k
row_marked false stays k w e h = h
row_marked true true k w e h = zero-le
row_marked true false k w e h = ltb-false k w e

module _ (f : CodeFrame) (s : CodeState) where
  -- a row that is not yet painted does not end
  pub row_stays : (s.walk.first_row ≡ true → s.walk.pixels < f.width) → first_row_ended f s ≡ s
  row_stays h =
      let e = kept s.walk.first_row (ltb s.walk.pixels f.width) s.walk.insert (λ t. lt-ltb s.walk.pixels f.width (h t)) in
      λ i. record {
        walk = record { pos = s.walk.pos; pixels = s.walk.pixels; insert = e.0 i; first_row = e.1 i };
        foreground = s.foreground;
        orders = s.orders;
      }

  pub row_begun : (first_row_ended f s).walk.first_row ≡ true → s.walk.pixels < f.width
  row_begun e = ltb-true s.walk.pixels f.width (both_true s.walk.first_row (ltb s.walk.pixels f.width) e).1

  -- the code's is the definition's
  pub mark-is : (src dst : List ℕ) → state_of (frame_of f) src dst (first_row_ended f s) ≡ end_first_row (frame_of f) (state_of (frame_of f) src dst s)
  unfolding end_first_row
  mark-is src dst = rw length-pixels_of

  pub invariant_marked : Invariant (frame_of f) s → Invariant (frame_of f) (first_row_ended f s)
  invariant_marked invariant =
      record {
        within = invariant.within;
        row = row_marked s.walk.first_row (ltb s.walk.pixels f.width) s.walk.pixels f.width refl invariant.row;
        foreground = invariant.foreground;
        counted = invariant.counted;
      }

-- the plain decoder works it out without a test
module _ (f : CodeFrame) (s : CodeState) where
  pub row_ended : s.walk.first_row && ltb s.walk.pixels f.width ≡ (first_row_ended f s).walk.first_row
  row_ended = so s.walk.first_row
    where
      so : (first : Bool) → first && ltb s.walk.pixels f.width ≡ pick first (ltb s.walk.pixels f.width) false
      so true = refl
      so false = refl

  pub insert_ended : s.walk.insert && beq (s.walk.first_row && ltb s.walk.pixels f.width) s.walk.first_row ≡ (first_row_ended f s).walk.insert
  insert_ended = so s.walk.first_row (ltb s.walk.pixels f.width) s.walk.insert
    where
      so : (first stays insert : Bool) → insert && beq (first && stays) first ≡ pick first (pick stays insert false) insert
      so true true true = refl
      so true true false = refl
      so true false true = refl
      so true false false = refl
      so false stays true = refl
      so false stays false = refl

-- a second time it changes nothing
pub row_again : (f : CodeFrame) (s : CodeState) → first_row_ended f (first_row_ended f s) ≡ first_row_ended f s
row_again f s = row_stays f (first_row_ended f s) (row_begun f s)

-- an order begins with it, so it may have come before
pub step_marked : (f : CodeFrame) (s : CodeState) (src dst : List ℕ)
    → step (frame_of f) (state_of (frame_of f) src dst (first_row_ended f s)) ≡ step (frame_of f) (state_of (frame_of f) src dst s)
unfolding step
step_marked f s src dst =
    let t = first_row_ended f s in
    ap (λ (x : State). order_from (frame_of f) x (head_of (drop s.walk.pos src)))
    (sym (mark-is f t src dst) ∙ ap (λ (x : CodeState). state_of (frame_of f) src dst x) (row_again f s) ∙ mark-is f s src dst)
