-- One order is its plan carried out. Every kind is a run or an image behind some operand bytes: one law each for runs, images and
-- operand bytes, then the kinds by cases. Assumes nothing.
use mathlib.Core.Path.{◌≡◌, refl, ap, ◌∙◌}
use mathlib.Core.Bool.{Bool, true, false}
use Prim.Native.Nat.{ℕ, ◌+◌, ◌*◌, ◌-◌, ◌/◌, ◌%◌, ◌≤◌, ◌<◌}
use native.Mathlib.Nat.{le_refl, sub-zero, zero-add}
use native.Mathlib.Omega.{arith}
use lib.Dec.{leb}
use lib.ListN.{length, get_or, drop, length-drop}
use lib.Seq.{drop-drop}
use borrow.Author.Tests.{leb-true, leb-false, le-leb}
use Rattle.base.specs.Picks.{pick}
use Rattle.picture.specs.Pixels.{Pixel, first_pixel}
use Rattle.picture.specs.Sizes.{Refusal, refusal, Frame}
use Rattle.base.proofs.Tests.{by_test, apart}
use Rattle.definition.specs.Orders.{Kind, BgRun, FgRun, FgBgImage, ColorRun, ColorImage, SetFgRun, SetFgBgImage, DitheredRun, SpecialFgBg1, SpecialFgBg2, White, Black, NoOrder, Head, head, refused, head_of}
use Rattle.definition.specs.Decode.{Ink, fg_ink, bg_ink, paint, bg, State, state, Step, done, with_painted, with_left, with_foreground, completed, room, too_large, too_short, need_bytes, paint_order, set_foreground, bg_run, fg_run, set_fg_run, color_run, color_image, dithered_run, special_fg_bg, fg_bg_image, set_fg_bg_image, order_of, order_from, end_first_row, step}
use Rattle.definition.specs.Plan.{Ending, complete, refused, Counts, counts, behind, with_operands, run_counts, masks_for, no_mask, no_room, image_counts, counts_of, leaves_insert, new_foreground, foreground_by, insert_after, orders_after, image_ink, kind_ink, Progress, progress_of, plan_by, plan_from, past_first_row, plan_of, plan_foreground, plan_ink, end_with, plan_state, plan_step, leaves, insert_in, foreground_in}
use Rattle.definition.proofs.Painting.{length-paint, paint_cong}
use Rattle.definition.proofs.Masks.{acted, masks_acted}

-- ---- runs, images, and the bytes before them

run_acted : (f : Frame) (i : Bool) (ink : ℕ → Ink) (n : ℕ) (s : State)
    → paint_order f i ink n s ≡ acted f i ink s.foreground (run_counts f.bytes n (room f s)) s
unfolding paint_order too_large run_counts acted end_with insert_after orders_after paint completed with_painted
run_acted f i ink n s = go (leb n (room f s))
  where
    go : (b : Bool)
        → pick b (done (completed i (with_painted (paint f.width ink n s.painted) s))) (too_large f n s)
        ≡ acted f i ink s.foreground
        (pick b (counts 0 n complete) (counts 0 0 (refused (refusal 7 (room f s * f.bytes) (n * f.bytes))))) s
    go true = refl
    go false = refl

-- an order behind d operand bytes, with the foreground p from there on
module _ (f : Frame) (s : State) (d : ℕ) (p q : Pixel) (ink ink' : ℕ → Ink)
    (there : leb d (length s.left) ≡ true → (p ≡ q) × ((k : ℕ) → ink k ≡ ink' k)) (gone : leb d (length s.left) ≡ false → s.foreground ≡ q) where
  acted_behind : (i : Bool) (c : Counts)
      → need_bytes d s (acted f i ink p c (with_left (drop d s.left) (with_foreground p s)))
      ≡ acted f i ink' q (with_operands d (length s.left) c) s
  unfolding need_bytes too_short with_operands behind acted end_with insert_after orders_after paint with_left with_foreground
  acted_behind i c = go (leb d (length s.left)) there gone
    where
      go : (b : Bool) → (b ≡ true → (p ≡ q) × ((k : ℕ) → ink k ≡ ink' k)) → (b ≡ false → s.foreground ≡ q)
          → pick b (acted f i ink p c (with_left (drop d s.left) (with_foreground p s))) (too_short d s)
          ≡ acted f i ink' q (pick b (behind d c) (counts 0 0 (refused (refusal 6 d (length s.left))))) s
      go true h g =
          let l = drop-drop c.read d s.left in
          let ps = paint_cong f.width ink ink' c.pixels s.painted (λ k b. (h refl).1 k) in
          let e = (h refl).0 in
          λ t. end_with c.ending (state (l t) (ps t) (e t) (insert_after c.ending i s.insert) s.first_row (orders_after c.ending s.orders))
      go false h g = ap (λ (x : Pixel). too_short d (with_foreground x s)) (g refl)

  run-behind : (n : ℕ) → need_bytes d s (paint_order f false ink n (with_left (drop d s.left) (with_foreground p s)))
      ≡ acted f false ink' q (with_operands d (length s.left) (run_counts f.bytes n (room f s))) s
  unfolding room with_left with_foreground
  run-behind n =
      ap (λ (x : Step). need_bytes d s x) (run_acted f false ink n (with_left (drop d s.left) (with_foreground p s)))
      ∙ acted_behind false (run_counts f.bytes n (room f s))

-- ---- every kind

-- the ink of a kind, in the state behind its run length
abbrev pub ink_by : Frame → Kind → State → ℕ → Ink
ink_by f k s =
    kind_ink f k (pick (leaves_insert k) s.insert false) (fg_ink s.first_row (foreground_by f.bytes k s.foreground s.left))
    (bg_ink s.first_row f.black) s.left

-- what holds of a kind
abbrev Acts : Frame → ℕ → State → Kind → Type 0
Acts f n s k =
    order_of f k n s
    ≡ acted f (leaves_insert k) (ink_by f k s) (foreground_by f.bytes k s.foreground s.left) (counts_of f.bytes k n (length s.left) (room f s)) s

module _ (f : Frame) (n : ℕ) (s : State) where
  -- a new foreground
  set : (ink : Pixel → ℕ → Ink)
      → (leb f.bytes (length s.left) ≡ true
      → (first_pixel f.bytes s.left ≡ new_foreground f.bytes s.foreground s.left)
      × ((k : ℕ) → ink (first_pixel f.bytes s.left) k ≡ ink (new_foreground f.bytes s.foreground s.left) k))
      × (leb f.bytes (length s.left) ≡ false → s.foreground ≡ new_foreground f.bytes s.foreground s.left)
  unfolding new_foreground
  set ink = (λ e. (rw e, λ k. rw e), λ e. rw e)

  -- other operands
  operands : (d m : ℕ) (ink : ℕ → Ink)
      → need_bytes d s (paint_order f false ink m (with_left (drop d s.left) s))
      ≡ acted f false ink s.foreground (with_operands d (length s.left) (run_counts f.bytes m (room f s))) s
  unfolding with_foreground
  operands d m ink = run-behind f s d s.foreground s.foreground ink ink (λ e. (refl, λ k. refl)) (λ e. refl) m

  set_image : Acts f n s SetFgBgImage
  unfolding order_of set_fg_bg_image fg_bg_image set_foreground counts_of kind_ink insert_in foreground_in room with_left with_foreground leaves
  set_image =
      let l = s.left in
      let p = first_pixel f.bytes l in
      let masked : Pixel → ℕ → Ink = λ x. image_ink (fg_ink s.first_row x) (bg f s) (drop f.bytes l) in
      ap (λ (x : Step). need_bytes f.bytes s x)
      (masks_acted f (drop f.bytes l) n (set_foreground f s) refl
      ∙ (λ t. acted f false (masked p) p (image_counts f.bytes n (length-drop f.bytes l t) (room f s)) (set_foreground f s)))
      ∙ acted_behind f s f.bytes p (new_foreground f.bytes s.foreground l) (masked p) _ (set masked).0 (set masked).1 false
      (image_counts f.bytes n (length l - f.bytes) (room f s))

  pub kind_acted : (k : Kind) → Acts f n s k
  unfolding order_of bg_run fg_run set_fg_run set_foreground color_run dithered_run color_image special_fg_bg fg_bg_image counts_of kind_ink insert_in foreground_in acted end_with insert_after orders_after paint with_left with_foreground leaves
  kind_acted BgRun = run_acted f true _ n s
  kind_acted FgRun = run_acted f false _ n s
  kind_acted FgBgImage = masks_acted f s.left n s refl
  kind_acted ColorRun = operands f.bytes n _
  kind_acted ColorImage = operands (n * f.bytes) n _
  kind_acted SetFgRun =
      let runs : Pixel → ℕ → Ink = λ x _. fg_ink s.first_row x in
      run-behind f s f.bytes (first_pixel f.bytes s.left) (new_foreground f.bytes s.foreground s.left) _ _ (set runs).0 (set runs).1 n
  kind_acted SetFgBgImage = set_image
  kind_acted DitheredRun = operands (2 * f.bytes) (n * 2) _
  kind_acted SpecialFgBg1 = run_acted f false _ n s
  kind_acted SpecialFgBg2 = run_acted f false _ n s
  kind_acted White = run_acted f false _ n s
  kind_acted Black = run_acted f false _ n s
  kind_acted NoOrder = refl

-- ---- one order

head_planned : (f : Frame) (h : ℕ) (s : State) (x : Head) → order_from f (end_first_row f s) x ≡ plan_step f s (plan_from f h (past_first_row f (progress_of s)) x)
unfolding order_from end_first_row plan_from plan_by plan_state plan_step plan_ink plan_foreground foreground_in past_first_row progress_of acted end_with insert_after orders_after room paint with_left leaves
head_planned f h s (head k n rest) = kind_acted f n (with_left rest (end_first_row f s)) k
head_planned f h s (refused r rest) = refl

-- an order is its plan carried out
pub step_planned : (f : Frame) (s : State) → step f s ≡ plan_step f s (plan_of f (progress_of s))
unfolding step plan_of progress_of past_first_row
step_planned f s = head_planned f (get_or s.left 0 0) s (head_of s.left)

-- the progress that it leaves is the plan's
after-pixels : (f : Frame) (h : ℕ) (m : Progress) (x : Head) → m.pixels + (plan_from f h m x).pixels ≡ (plan_from f h m x).after.pixels
unfolding plan_from plan_by
after-pixels f h m (head k n rest) = refl
after-pixels f h m (Head.refused r rest) = refl

pub progress_planned : (f : Frame) (s : State) → (plan_of f (progress_of s)).after ≡ progress_of (plan_state f s (plan_of f (progress_of s)))
unfolding progress_of plan_state plan_of past_first_row
progress_planned f s = rw (length-paint, after-pixels f (get_or s.left 0 0) (past_first_row f (progress_of s)) (head_of s.left))

-- ---- an fg/bg image with a foreground of its own or without

-- it stands behind its foreground, of no bytes where it has none
pub image-counts : (D : ℕ) (t : Bool) (n a R : ℕ)
    → counts_of D (pick t SetFgBgImage FgBgImage) n a R ≡ with_operands (pick t D 0) a (image_counts D n (a - pick t D 0) R)
unfolding counts_of with_operands behind
image-counts D true n a R = refl
image-counts D false n a R = rw (sub-zero, le-leb 0 a (omega arith), zero-add)

-- ---- what an order's counts stay within

-- a bytes left and a room of R pixels are enough for c, and a completed order paints a pixel
pub record Within (a R : ℕ) (c : Counts) : Type 0 where
  pub read : c.read ≤ a
  pub pixels : c.pixels ≤ R
  pub some : c.ending ≡ complete → 1 ≤ c.pixels

pub refused_none : {r : Refusal} {A : Type 0} → refused r ≡ complete → A
refused_none e = apart cc

run-within : (D n a R : ℕ) → 1 ≤ n → Within a R (run_counts D n R)
unfolding run_counts
run-within D n a R one =
    by_test (λ (c : Counts). Within a R c) (leb n R)
    (λ e. record { read = omega arith; pixels = leb-true n R e; some = λ _. one })
    (λ e. record { read = omega arith; pixels = omega arith; some = refused_none })

image-within : (D n a R : ℕ) → 1 ≤ n → Within a R (image_counts D n a R)
unfolding image_counts no_mask no_room masks_for
image-within D n a R one =
    by_test In (leb n R)
    (λ e.
    let fits = leb-true n R e in
    by_test In (leb ((n + 7) / 8) a)
    (λ u. record { read = leb-true ((n + 7) / 8) a u; pixels = fits; some = λ _. one })
    (λ u. record { read = omega arith; pixels = omega (arith, leb-false ((n + 7) / 8) a u); some = refused_none }))
    (λ e. by_test In (leb a (R / 8))
    (λ u. record { read = omega arith; pixels = omega (arith, leb-true a (R / 8) u); some = refused_none })
    (λ u. record { read = leb-false a (R / 8) u; pixels = omega arith; some = refused_none }))
  where
    In : Counts → Type 0
    In c = Within a R c

behind-within : (d a R : ℕ) (c : Counts) → Within (a - d) R c → Within a R (with_operands d a c)
unfolding with_operands behind
behind-within d a R c h =
    by_test (λ (x : Counts). Within a R x) (leb d a)
    (λ e. record { read = omega (arith, leb-true d a e, h.read); pixels = h.pixels; some = h.some })
    (λ e. record { read = omega arith; pixels = omega arith; some = refused_none })

pub kind-within : (D : ℕ) (k : Kind) (n a R : ℕ) → 1 ≤ n → Within a R (counts_of D k n a R)
unfolding counts_of
kind-within D BgRun n a R one = run-within D n a R one
kind-within D FgRun n a R one = run-within D n a R one
kind-within D FgBgImage n a R one = image-within D n a R one
kind-within D ColorRun n a R one = behind-within D a R _ (run-within D n (a - D) R one)
kind-within D ColorImage n a R one = behind-within (n * D) a R _ (run-within D n (a - n * D) R one)
kind-within D SetFgRun n a R one = behind-within D a R _ (run-within D n (a - D) R one)
kind-within D SetFgBgImage n a R one = behind-within D a R _ (image-within D n (a - D) R one)
kind-within D DitheredRun n a R one = behind-within (2 * D) a R _ (run-within D (n * 2) (a - 2 * D) R (omega arith))
kind-within D SpecialFgBg1 n a R one = run-within D n a R one
kind-within D SpecialFgBg2 n a R one = run-within D n a R one
kind-within D White n a R one = run-within D n a R one
kind-within D Black n a R one = run-within D n a R one
kind-within D NoOrder n a R one = record { read = omega arith; pixels = omega arith; some = refused_none }

-- so no more orders are completed than pixels painted
pub orders-few : (e : Ending) {o p k : ℕ} → o ≤ p → (e ≡ complete → 1 ≤ k) → orders_after e o ≤ p + k
unfolding orders_after
orders-few complete h some = omega (arith, some refl)
orders-few (refused r) h some = omega arith

-- ---- what its pixels ask of its operands

-- a run paints at most its own pixels
pub run-most : (D n R : ℕ) → (run_counts D n R).pixels ≤ n
unfolding run_counts
run-most D n R = by_test (λ (c : Counts). c.pixels ≤ n) (leb n R) (λ _. le_refl n) (λ _. omega arith)

-- an order that paints has its operands
pub operands-there : (d a : ℕ) (c : Counts) → 0 < (with_operands d a c).pixels → d ≤ a
unfolding with_operands
operands-there d a c = by_test (λ (x : Counts). 0 < x.pixels → d ≤ a) (leb d a) (λ e _. leb-true d a e) (λ e h. absurd (omega arith))

-- a color image has its pixels' bytes
pub image-read : (D n a R : ℕ) → (with_operands (n * D) a (run_counts D n R)).pixels * D ≤ a
unfolding with_operands behind run_counts
image-read D n a R =
    by_test (λ (c : Counts). c.pixels * D ≤ a) (leb (n * D) a)
    (λ e. by_test (λ (c : Counts). (behind (n * D) c).pixels * D ≤ a) (leb n R) (λ _. leb-true (n * D) a e) (λ _. omega arith))
    (λ _. omega arith)

-- a dithered run paints pairs
pub pairs_read : (d D n a R : ℕ) → (with_operands d a (run_counts D (n * 2) R)).pixels % 2 ≡ 0
unfolding with_operands behind run_counts
pairs_read d D n a R =
    by_test (λ (c : Counts). c.pixels % 2 ≡ 0) (leb d a)
    (λ _. by_test (λ (c : Counts). (behind d c).pixels % 2 ≡ 0) (leb (n * 2) R) (λ _. omega arith) (λ _. refl))
    (λ _. refl)
