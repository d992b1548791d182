-- Where runs start and images end, by the bytes that the code compares. Assumes nothing.
use mathlib.Core.Path.{◌≡◌, refl, ap, sym, ◌∙◌}
use mathlib.Core.List.{List}
use mathlib.Core.Bool.{Bool, true, false, not}
use Prim.Native.Nat.{ℕ, suc, ◌+◌, ◌-◌, ◌≤◌, ◌<◌, min}
use native.Mathlib.Numerals.{add-one, one-add}
use native.Mathlib.Omega.{arith}
use lib.Dec.{leb, eqb}
use lib.ListN.{length}
use borrow.Author.Tests.{eq-eqb, eqb-true, le-leb, lt-leb, leb-true, leb-false}
use Rattle.std.proofs.Common.{unwrap_or}
use Rattle.base.specs.Picks.{pick}
use Rattle.std.specs.Prelude.{Option, Some, None, MatchOption}
use Rattle.base.proofs.Tests.{pick_same, same_test, by_less}
use Rattle.picture.specs.Pixels.{Pixel}
use Rattle.picture.proofs.Pixels.{length-pixels_of}
use Rattle.encoding.specs.Encode.{stretch, pixel, same_pixel, equal_at, above_at, Start, background, color, none, longer, start_at, is_none, image_at}
use Rattle.encoding.proofs.Stretches.{stretch_passes, stretch-is, stretch_reaches, whole}
use Rattle.encoding.proofs.SamePixels.{equal_chain}
use Rattle.encoding.proofs.Choices.{Chosen, as_background, as_color, as_none, equal_le, start_chosen}
use Rattle.encode.specs.declared.pixels.Pixels.{Pixels}
use Rattle.encode.specs.Pixels.{pixels_in, same_as_back}

-- a run starts where either stretch has three pixels
none_by_tests : (a e : ℕ) → is_none (longer a e) ≡ pick (leb 3 a) false (pick (leb 3 e) false true)
unfolding is_none longer
none_by_tests a e = go (leb e a) (leb 3 a) (leb 3 e) refl refl refl
  where
    go : (x y z : Bool) → leb e a ≡ x → leb 3 a ≡ y → leb 3 e ≡ z
        → is_none (pick x (pick y (background a) none) (pick z (color e) none)) ≡ pick y false (pick z false true)
    go true true z p q r = refl
    go true false true p q r = absurd (omega (arith, leb-true e a p, leb-false 3 a q, leb-true 3 e r))
    go true false false p q r = refl
    go false true true p q r = refl
    go false false true p q r = refl
    go false true false p q r = absurd (omega (arith, leb-false e a p, leb-true 3 a q, leb-false 3 e r))
    go false false false p q r = refl

negated : (t : Bool) → t ≡ not (pick t false true)
negated true = refl
negated false = refl

twice : (t : Bool) → t ≡ not (not t)
twice true = refl
twice false = refl

turned : (t u : Bool) → not u ≡ t → u ≡ not t
turned t u e = twice u ∙ ap not e

three_two : (n : ℕ) → leb 3 (1 + n) ≡ leb 2 n
three_two n =
    same_test (leb 3 (1 + n)) (leb 2 n) (λ e. le-leb 2 n (omega (arith, leb-true 3 (1 + n) e))) (λ e. le-leb 3 (1 + n) (omega (arith, leb-true 2 n e)))

none_chosen : {m : ℕ} {x : Start} → Chosen m x → m < 3 → is_none x ≡ true
unfolding is_none
none_chosen (as_background a b) h = absurd (omega arith)
none_chosen (as_color a b) h = absurd (omega arith)
none_chosen as_none h = refl

-- at least j places of a stretch, by the first j alone
as_many : (passes : ℕ → Bool) (k n j : ℕ) → j ≤ n → leb j (stretch passes k n) ≡ eqb (stretch passes k j) j
as_many passes k n j h =
    same_test (leb j (stretch passes k n)) (eqb (stretch passes k j) j)
    (λ e.
    let r : j ≤ stretch passes k n = leb-true j (stretch passes k n) e in
    eq-eqb (stretch passes k j) j (whole passes k j (λ i c. stretch_passes passes k n i (omega arith))))
    (λ e.
    let r : stretch passes k j ≡ j = eqb-true (stretch passes k j) j e in
    le-leb j (stretch passes k n) (stretch_reaches passes k n j h (λ i c. stretch_passes passes k j i (omega arith))))

module _ (p : Pixels) (k : ℕ) (inside : k < p.total) where
  abbrev ps : List Pixel
  ps = pixels_in p

  -- the most pixels of an order from pixel k on
  abbrev room : ℕ
  room = min 65535 (p.total - k)

  size : length ps ≡ p.total
  size = length-pixels_of p.bytes p.total p.src.now

  -- the pixels after k, each compared with the one before
  pub equal-back : equal_at ps k ≡ 1 + stretch (same_as_back ps 1) (k + 1) (room - 1)
  unfolding equal_at
  equal-back =
      let n : min 65535 (length ps - k) ≡ suc (room - 1) = rw size (omega (arith, inside)) in
      rw (add-one, one-add) (ap (λ (m : ℕ). stretch (λ i. same_pixel (pixel ps i) (pixel ps k)) k m) n ∙ equal_chain ps k (room - 1))

  pub equal-few : equal_at ps k ≤ 65535
  equal-few = omega (arith, equal_le ps k)

  pub above-back : p.width ≤ k → above_at p.width ps k ≡ stretch (same_as_back ps p.width) k room
  unfolding above_at
  above-back h = rw (le-leb p.width k h, size)

  pub above-none : k < p.width → 0 ≡ above_at p.width ps k
  unfolding above_at
  above-none h = rw (lt-leb p.width k h)

  -- ---- where a run starts

  none_short : p.total - k < 3 → true ≡ is_none (start_at p.width ps k false)
  none_short h = sym (none_chosen (start_chosen p.width ps k false) (rw size (omega arith)))

  module _ (three : 3 ≤ p.total - k) where
    three_equal : leb 3 (equal_at ps k) ≡ eqb (stretch (same_as_back ps 1) (k + 1) 2) 2
    three_equal =
        rw equal-back
        (three_two (stretch (same_as_back ps 1) (k + 1) (room - 1)) ∙ as_many (same_as_back ps 1) (k + 1) (room - 1) 2 (omega arith))

    three_above : p.width ≤ k → leb 3 (above_at p.width ps k) ≡ eqb (stretch (same_as_back ps p.width) k 3) 3
    three_above h = rw (above-back h) (as_many (same_as_back ps p.width) k room 3 (omega arith))

    -- the tests of the code: three equal pixels, row 0, three pixels equal to those above
    start_none : is_none (start_at p.width ps k false) ≡ pick (leb 3 (above_at p.width ps k)) false (pick (leb 3 (equal_at ps k)) false true)
    unfolding start_at
    start_none = none_by_tests (above_at p.width ps k) (equal_at ps k)

    pub run_equal : eqb (stretch (same_as_back ps 1) (k + 1) 2) 2 ≡ true → true ≡ not (is_none (start_at p.width ps k false))
    run_equal e =
        let some : is_none (start_at p.width ps k false) ≡ false =
        start_none ∙ rw (three_equal, e) (pick_same (leb 3 (above_at p.width ps k)) false) in
        ap not (sym some)

    module _ (unequal : eqb (stretch (same_as_back ps 1) (k + 1) 2) 2 ≡ false) where
      pub run_first : k < p.width → false ≡ not (is_none (start_at p.width ps k false))
      run_first h =
          let no_run : is_none (start_at p.width ps k false) ≡ true = start_none ∙ rw (← above-none h, three_equal, unequal) in
          ap not (sym no_run)

      pub run_above : p.width ≤ k → eqb (stretch (same_as_back ps p.width) k 3) 3 ≡ not (is_none (start_at p.width ps k false))
      run_above h = negated _ ∙ sym (ap not (start_none ∙ rw (three_above h, three_equal, unequal)))

  -- ---- an image: no run starts at its later pixels

  image-is : (n : ℕ) → 1 ≤ n → n ≤ room → ((i : ℕ) → 1 ≤ i → i < n → is_none (start_at p.width ps (k + i) false) ≡ true)
      → (n < room → is_none (start_at p.width ps (k + n) false) ≡ false) → n ≡ image_at p.width ps k
  unfolding image_at
  image-is n one few before ends =
      let m = stretch-is (λ i. is_none (start_at p.width ps i false)) (suc k) (room - 1) (n - 1) (omega arith)
      (λ i h.
      let e : suc k + i ≡ k + (i + 1) = omega arith in
      rw e (before (i + 1) (omega arith) (omega arith)))
      (λ h.
      let e : suc k + (n - 1) ≡ k + n = omega arith in
      rw e (ends (omega arith))) in
      let g : n ≡ suc (n - 1) = omega arith in
      g ∙ ap suc (sym (rw size m))

-- the search for the first later pixel at which a run starts, among those that have two pixels behind them
pub image-found : (p : Pixels) (k end : ℕ) → k < p.total → end ≡ min (min 65535 (p.total - k)) (p.total - k - 2) → (r : Option ℕ)
    → MatchOption r ((i : ℕ) → 1 ≤ i → i < end → not (is_none (start_at p.width (pixels_in p) (k + i) false)) ≡ false)
    (λ n. (1 ≤ n) × (n < end) × (not (is_none (start_at p.width (pixels_in p) (k + n) false)) ≡ true)
    × ((i : ℕ) → 1 ≤ i → i < n → not (is_none (start_at p.width (pixels_in p) (k + i) false)) ≡ false))
    → unwrap_or r (min 65535 (p.total - k)) ≡ image_at p.width (pixels_in p) k
image-found p k end inside e None no_run =
    image-is p k inside (min 65535 (p.total - k)) (omega arith) (omega arith)
    (λ i one h. by_less i end (λ l. turned false _ (no_run i one l)) (λ l. sym (none_short p (k + i) (omega arith) (omega arith))))
    (λ h. absurd (omega arith))
image-found p k end inside e (Some n) (one, few, starts, before) =
    image-is p k inside n one (omega arith) (λ i j h. turned false _ (before i j h)) (λ h. turned true _ starts)
