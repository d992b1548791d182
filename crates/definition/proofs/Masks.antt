-- An fg/bg image as one painting: the loop over the masks paints the pixels that the counts say, pixel j by bit j % 8 of mask j / 8,
-- and ends as they say. By induction over the masks: one mask takes eight pixels from the image and from the room. Assumes nothing.
use mathlib.Core.Path.{◌≡◌, refl, ap, sym, ◌∙◌}
use mathlib.Core.List.{List, [], ◌∷◌}
use mathlib.Core.Bool.{Bool, false}
use Prim.Native.Nat.{ℕ, suc, ◌+◌, ◌*◌, ◌-◌, ◌/◌, ◌%◌, ◌≤◌, ◌<◌, min}
use native.Mathlib.Omega.{arith}
use lib.Dec.{leb, eqb}
use lib.ListN.{length, get_or, drop}
use borrow.Author.Tests.{leb-true, leb-false, le-leb, lt-leb, eqb-true, eqb-false}
use Rattle.picture.specs.Pixels.{Pixel}
use Rattle.picture.specs.Sizes.{refusal, Frame}
use Rattle.base.proofs.Tests.{by_test}
use Rattle.definition.specs.Decode.{Ink, paint, mask_ink, fg, bg, State, state, Step, refused, with_painted, with_left, room, too_large, too_short, completed, one_mask, and_then, masks}
use Rattle.definition.specs.Plan.{complete, refused, Counts, counts, masks_for, no_mask, no_room, image_counts, image_ink, insert_after, orders_after, end_with}
use Rattle.definition.proofs.Painting.{length-paint, paint_add, paint_cong}

-- ---- the counts of an image, mask by mask

-- one mask with k pixels before the others
abbrev mask_before : ℕ → Counts → Counts
mask_before k c = counts (suc c.read) (k + c.pixels) c.ending

image-done : (D n a R : ℕ) → n ≡ 0 → image_counts D n a R ≡ counts 0 0 complete
unfolding image_counts masks_for
image-done D n a R e = rw (e, le-leb 0 R (omega arith), le-leb 0 a (omega arith))

-- no mask is left
image_short : (D n R : ℕ) → 1 ≤ n → image_counts D n 0 R ≡ counts 0 0 (refused (refusal 6 1 0))
unfolding image_counts no_mask masks_for
image_short D n R some =
    by_test (λ (x : Counts). x ≡ counts 0 0 (refused (refusal 6 1 0))) (leb n R)
    (λ e. rw (lt-leb ((n + 7) / 8) 0 (omega arith)))
    (λ e. rw (le-leb 0 (R / 8) (omega arith)))

-- the next mask has no room
image_large : (D n a R : ℕ) → 1 ≤ n → R < min 8 n
    → image_counts D n (suc a) R ≡ counts 1 0 (refused (refusal 7 (R * D) (min 8 n * D)))
unfolding image_counts no_room
image_large D n a R some over =
    let z : R / 8 ≡ 0 = omega arith in
    let r : R % 8 ≡ R = omega arith in
    let whole : n - R / 8 * 8 ≡ n = omega arith in
    rw (lt-leb n R (omega arith), whole, z, r, lt-leb (suc a) 0 (omega arith))

-- a later mask has no room
no_room_next : (D n R k : ℕ) → k ≡ 8 → 8 ≤ R → no_room D n R ≡ mask_before k (no_room D (n - k) (R - k))
unfolding no_room
no_room_next D n R k eight h =
    let q : R / 8 ≡ suc ((R - 8) / 8) = omega arith in
    let p : R / 8 * 8 ≡ 8 + (R - 8) / 8 * 8 = omega arith in
    let r : R % 8 ≡ (R - 8) % 8 = omega arith in
    let m : n - R / 8 * 8 ≡ n - 8 - (R - 8) / 8 * 8 = omega arith in
    rw eight (λ i. counts (suc (q i)) (p i) (refused (refusal 7 (r i * D) (min 8 (m i) * D))))

-- the next mask is painted
image-next : (D n a R : ℕ) → 1 ≤ n → min 8 n ≤ R
    → image_counts D n (suc a) R ≡ mask_before (min 8 n) (image_counts D (n - min 8 n) a (R - min 8 n))
unfolding image_counts no_mask no_room masks_for
image-next D n a R some fits =
    by_test Same (leb n R)
    (λ e.
    let inside : n ≤ R = leb-true n R e in
    by_test Same (leb ((n + 7) / 8) (suc a))
    (λ u.
    let enough : (n + 7) / 8 ≤ suc a = leb-true ((n + 7) / 8) (suc a) u in
    let q : (n + 7) / 8 ≡ suc ((n - min 8 n + 7) / 8) = omega arith in
    let p : n ≡ min 8 n + (n - min 8 n) = omega arith in
    rw (le-leb (n - min 8 n) (R - min 8 n) (omega arith), le-leb ((n - min 8 n + 7) / 8) a (omega arith))
    (λ i. counts (q i) (p i) complete))
    (λ u.
    let missing : suc a < (n + 7) / 8 = leb-false ((n + 7) / 8) (suc a) u in
    let p : suc a * 8 ≡ min 8 n + a * 8 = omega arith in
    rw (le-leb (n - min 8 n) (R - min 8 n) (omega arith), lt-leb ((n - min 8 n + 7) / 8) a (omega arith))
    (λ i. counts (suc a) (p i) (refused (refusal 6 1 0)))))
    (λ e.
    let over : R < n = leb-false n R e in
    by_test Same (leb (suc a) (R / 8))
    (λ u.
    let missing : suc a ≤ R / 8 = leb-true (suc a) (R / 8) u in
    let p : suc a * 8 ≡ min 8 n + a * 8 = omega arith in
    rw (lt-leb (n - min 8 n) (R - min 8 n) (omega arith), le-leb a ((R - min 8 n) / 8) (omega arith))
    (λ i. counts (suc a) (p i) (refused (refusal 6 1 0))))
    (λ u.
    let enough : R / 8 < suc a = leb-false (suc a) (R / 8) u in
    rw (lt-leb (n - min 8 n) (R - min 8 n) (omega arith), lt-leb a ((R - min 8 n) / 8) (omega arith))
    (no_room_next D n R (min 8 n) (omega arith) (omega arith))))
  where
    Same : Counts → Type 0
    Same x = x ≡ mask_before (min 8 n) (image_counts D (n - min 8 n) a (R - min 8 n))

-- an image paints at most its own pixels
pub image-most : (D n a R : ℕ) → (image_counts D n a R).pixels ≤ n
unfolding image_counts no_mask no_room masks_for
image-most D n a R =
    by_test Within (leb n R)
    (λ e. by_test Within (leb ((n + 7) / 8) a) (λ u. omega arith) (λ u. omega (arith, leb-false ((n + 7) / 8) a u)))
    (λ e.
    let over : R < n = leb-false n R e in
    by_test Within (leb a (R / 8)) (λ u. omega (arith, leb-true a (R / 8) u)) (λ u. omega arith))
  where
    Within : Counts → Type 0
    Within c = c.pixels ≤ n

-- the a masks left are enough for the pixels that it paints
pub image-masks : (D n a R : ℕ) → (image_counts D n a R).pixels ≤ a * 8
unfolding image_counts no_mask no_room masks_for
image-masks D n a R =
    by_test Enough (leb n R)
    (λ e. by_test Enough (leb ((n + 7) / 8) a) (λ u. omega (arith, leb-true ((n + 7) / 8) a u)) (λ u. omega arith))
    (λ e. by_test Enough (leb a (R / 8)) (λ u. omega arith) (λ u. omega (arith, leb-false a (R / 8) u)))
  where
    Enough : Counts → Type 0
    Enough c = c.pixels ≤ a * 8

-- ---- painting

-- an order carried out by its counts, its ink, and the foreground after it
unfoldable pub acted : Frame → Bool → (ℕ → Ink) → Pixel → Counts → State → Step
acted f i ink foreground c s =
    end_with c.ending
    (state (drop c.read s.left) (paint f.width ink c.pixels s.painted) foreground (insert_after c.ending i s.insert) s.first_row
    (orders_after c.ending s.orders))

-- ---- the loop over the masks

-- an image by the masks ms
abbrev pub image_acted : Frame → List ℕ → Counts → State → Step
image_acted f ms c s = acted f false (image_ink (fg s) (bg f s) ms) s.foreground c s

module _ (f : Frame) (m : ℕ) (rest : List ℕ) (n : ℕ) (s : State) (here : s.left ≡ m ∷ rest) where
  -- the state behind one mask
  mask_done : State
  unfolding with_painted with_left
  mask_done = with_painted (paint f.width (mask_ink (fg s) (bg f s) m) (min 8 n) s.painted) (with_left rest s)

  first_mask : (j : ℕ) → j < min 8 n → mask_ink (fg s) (bg f s) m j ≡ image_ink (fg s) (bg f s) (m ∷ rest) j
  unfolding image_ink
  first_mask j h =
      let z : 0 ≡ j / 8 = omega arith in
      let r : j ≡ j % 8 = omega arith in
      λ i. mask_ink (fg s) (bg f s) (get_or (m ∷ rest) (z i) 0) (r i)

  later_mask : (j : ℕ) → j < n - min 8 n → image_ink (fg s) (bg f s) rest j ≡ image_ink (fg s) (bg f s) (m ∷ rest) (min 8 n + j)
  unfolding image_ink
  later_mask j h =
      let z : suc (j / 8) ≡ (min 8 n + j) / 8 = omega arith in
      let r : j % 8 ≡ (min 8 n + j) % 8 = omega arith in
      λ i. mask_ink (fg s) (bg f s) (get_or (m ∷ rest) (z i) 0) (r i)

  mask_acted : (c : Counts) → c.pixels ≤ n - min 8 n → image_acted f rest c mask_done ≡ image_acted f (m ∷ rest) (mask_before (min 8 n) c) s
  unfolding acted mask_done with_painted with_left
  mask_acted c most =
      let l : drop c.read rest ≡ drop (suc c.read) s.left = ap (λ (x : List ℕ). drop (suc c.read) x) (sym here) in
      let ink = image_ink (fg s) (bg f s) (m ∷ rest) in
      let first = paint f.width (mask_ink (fg s) (bg f s) m) (min 8 n) s.painted in
      let ps = paint_cong f.width (image_ink (fg s) (bg f s) rest) (λ j. ink (min 8 n + j)) c.pixels first (λ j h. later_mask j (omega arith))
      ∙ ap (λ (x : List Pixel). paint f.width (λ j. ink (min 8 n + j)) c.pixels x)
      (paint_cong f.width (mask_ink (fg s) (bg f s) m) ink (min 8 n) s.painted first_mask)
      ∙ sym (paint_add f.width ink (min 8 n) c.pixels s.painted) in
      λ i. end_with c.ending
      (state (l i) (ps i) s.foreground (insert_after c.ending false s.insert) s.first_row (orders_after c.ending s.orders))

-- the image is one painting
pub masks_acted : (f : Frame) (l : List ℕ) (n : ℕ) (s : State) → s.left ≡ l
    → masks f n s l ≡ image_acted f l (image_counts f.bytes n (length l) (room f s)) s
unfolding room masks acted end_with insert_after orders_after completed paint too_short too_large one_mask and_then mask_done with_left with_painted
masks_acted f [] n s e =
    by_test (λ (x : Step). x ≡ image_acted f [] (image_counts f.bytes n 0 (room f s)) s) (eqb n 0)
    (λ t. rw (image-done f.bytes n 0 (room f s) (eqb-true n 0 t)))
    (λ t.
    let some : n ≡ 0 → ⊥ = eqb-false n 0 t in
    rw (image_short f.bytes n (room f s) (omega arith)) (ap (λ (l : List ℕ). refused (refusal 6 1 (length l)) s) e))
masks_acted f (m ∷ rest) n s e =
    by_test Acts (eqb n 0)
    (λ t. rw (image-done f.bytes n (suc (length rest)) (room f s) (eqb-true n 0 t)))
    (λ t.
    let none : n ≡ 0 → ⊥ = eqb-false n 0 t in
    let some : 1 ≤ n = omega arith in
    by_test (λ (x : Step). Acts (and_then (λ u. masks f (n - min 8 n) u rest) x)) (leb (min 8 n) (room f (with_left rest s)))
    (λ u.
    let fits : min 8 n ≤ room f s = leb-true (min 8 n) (room f s) u in
    let next = mask_done f m rest n s e in
    let fewer : ℕ → Counts = λ R. image_counts f.bytes (n - min 8 n) (length rest) R in
    let r : room f next ≡ room f s - min 8 n =
    omega (arith, length-paint f.width (mask_ink (fg s) (bg f s) m) (min 8 n) s.painted) in
    masks_acted f rest (n - min 8 n) next refl
    ∙ (λ i. image_acted f rest (fewer (r i)) next)
    ∙ mask_acted f m rest n s e (fewer (room f s - min 8 n)) (image-most f.bytes (n - min 8 n) (length rest) (room f s - min 8 n))
    ∙ ap (λ (c : Counts). image_acted f (m ∷ rest) c s) (sym (image-next f.bytes n (length rest) (room f s) some fits)))
    (λ u.
    rw (image_large f.bytes n (length rest) (room f s) some (leb-false (min 8 n) (room f s) u))
    (ap (λ (l : List ℕ). refused (refusal 7 (room f s * f.bytes) (min 8 n * f.bytes)) (with_left (drop 1 l) s)) (sym e))))
  where
    Acts : Step → Type 0
    Acts x = x ≡ image_acted f (m ∷ rest) (image_counts f.bytes n (suc (length rest)) (room f s)) s
