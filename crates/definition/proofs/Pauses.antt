-- Laws of runs that pause: the orders that a paused one has completed, that a run which is not paused is the same with more orders, the
-- pixels that stay, what a state by value stands for (from one that was reached some orders give what they give from the start), and the
-- numbers of refusals. Assumes nothing.
use mathlib.Core.Path.{◌≡◌, refl, ap, sym, ◌∙◌, subst}
use mathlib.Core.List.{List}
use mathlib.Core.Bool.{Bool, true, false}
use Prim.Native.Nat.{ℕ, zero, suc, ◌+◌, ◌-◌, ◌*◌, ◌/◌, ◌≤◌, ◌<◌, zero-le}
use native.Mathlib.Nat.{add-zero, zero-add}
use native.Mathlib.Omega.{arith}
use lib.Dec.{ltb, leb, eqb}
use borrow.Author.Tests.{le-ltb, ltb-false}
use lib.ListN.{length, get_or, take, drop}
use lib.Seq.{take-append-le, take-length, take-take}
use Rattle.base.specs.Picks.{pick}
use Rattle.base.proofs.Tests.{by_less, by_test, apart}
use Rattle.picture.specs.Pixels.{Pixel, first_pixel, pixels_of, OfDepth}
use Rattle.picture.specs.Sizes.{Frame, depth_of}
use Rattle.picture.proofs.Pixels.{three, pixels_cong}
use Rattle.definition.specs.Orders.{Kind, BgRun, FgRun, FgBgImage, ColorRun, ColorImage, SetFgRun, SetFgBgImage, DitheredRun, SpecialFgBg1, SpecialFgBg2, White, Black, NoOrder, Place, nowhere, in_header, in_byte, in_two_bytes, RunLength, run_length, row_of, with_bytes, mega_length, mega_mega_length, length_at, length_of, headed, head_of}
use Rattle.definition.specs.Decode.{Ink, paint, State, done, step, Run, ended, paused, refused, run, start}
use Rattle.definition.specs.Pauses.{Saved, start_at, restored, unused_byte, bad_state}
use Rattle.definition.specs.Plan.{Ending, complete, Counts, behind, with_operands, run_counts, masks_for, no_mask, no_room, image_counts, counts_of, Progress, end_with, plan_step, plan_from, plan_by, plan_of, plan_state, progress_of, past_first_row, orders_after}
use Rattle.definition.proofs.Painting.{length-paint}
use Rattle.definition.proofs.Planned.{step_planned, kind-within}
use Rattle.definition.proofs.Records.{plan_orders}
use Rattle.definition.proofs.Bounds.{Bytes, Read, read, unread, length-read, last}
use Rattle.definition.proofs.Runs.{resumed, run_add, NotPaused, following, by_orders}

-- ---- how many orders a paused run has completed

following_orders : (f : Frame) (s : State) → (plan_of f (progress_of s)).ending ≡ complete → (following f s).orders ≡ s.orders + 1
unfolding plan_state plan_of progress_of past_first_row orders_after
following_orders f s e = plan_orders f _ _ (head_of s.left) ∙ rw e

-- a completed order paints a pixel at least
following_paints : (f : Frame) (s : State) → 0 < length s.left → Bytes s.left → (plan_of f (progress_of s)).ending ≡ complete
    → length s.painted < length (following f s).painted
unfolding plan_state plan_of progress_of past_first_row plan_from plan_by headed head_of
following_paints f s more octets ends =
    rw length-paint (omega (arith, go _ (length-read s.left more octets) ends))
  where
    go : (x : RunLength) → Read s.left x → let p = plan_from f (get_or s.left 0 0) (past_first_row f (progress_of s)) (headed (row_of (get_or s.left 0 0)).kind x) in
        p.ending ≡ complete → 1 ≤ p.pixels
    go x (read k n there few some most) e = (kind-within f.bytes _ n _ _ some).some e
    go x (unread k there) e = apart cc

-- the state that a completed order leaves
step_done : (f : Frame) (s t : State) → done t ≡ step f s → (t ≡ following f s) × ((plan_of f (progress_of s)).ending ≡ complete)
unfolding plan_step end_with
step_done f s t is = go (plan_of f (progress_of s)).ending refl (is ∙ step_planned f s)
  where
    go : (e : Ending) → (plan_of f (progress_of s)).ending ≡ e → done t ≡ end_with e (following f s)
        → (t ≡ following f s) × ((plan_of f (progress_of s)).ending ≡ complete)
    go complete ends same = (cc, ends)
    go (Ending.refused r) ends same = apart cc

-- each completed order is counted
pub step-orders : (f : Frame) (s t : State) → done t ≡ step f s → t.orders ≡ s.orders + 1
step-orders f s t is =
    let d = step_done f s t is in
    ap (λ (x : State). x.orders) d.0 ∙ following_orders f s d.1

-- and paints
pub step-paints : (f : Frame) (s t : State) → 0 < length s.left → Bytes s.left → done t ≡ step f s → length s.painted < length t.painted
step-paints f s t more octets is =
    let d = step_done f s t is in
    rw d.0 (following_paints f s more octets d.1)

abbrev PausedWith : ℕ → Run → Type 0
PausedWith k (ended s) = Unit {0}
PausedWith k (paused s) = s.orders ≡ k
PausedWith k (refused r s) = Unit {0}

pub paused-orders : (f : Frame) (n : ℕ) (s t : State) → run f n s ≡ paused t → t.orders ≡ s.orders + n
paused-orders f n s t e =
    subst (λ (x : Run). PausedWith (s.orders + n) x) e
    (by_orders f (λ m u x. PausedWith (u.orders + m) x) (λ m u. tt) (λ u more. sym (add-zero u.orders)) (λ m u r more p. tt)
    (λ m u x more p go. subst (λ (k : ℕ). PausedWith k x) (omega (arith, following_orders f u p)) go) n s)

-- ---- a run that is not paused

resumed_ended : (go : State → Run) (x : Run) → NotPaused x → resumed go x ≡ x
unfolding resumed
resumed_ended go (ended s) h = refl
resumed_ended go (paused s) h = absurd h
resumed_ended go (refused r s) h = refl

-- with more orders it is the same
pub run_beyond : (f : Frame) (m n : ℕ) (s : State) → NotPaused (run f m s) → m ≤ n → run f n s ≡ run f m s
run_beyond f m n s h le =
    let e : n ≡ m + (n - m) = omega arith in
    ap (λ (k : ℕ). run f k s) e ∙ sym (run_add f m (n - m) s) ∙ resumed_ended (run f (n - m)) (run f m s) h

-- so all of them from a state on are one
pub runs_same : (f : Frame) (m n : ℕ) (s : State) → NotPaused (run f m s) → NotPaused (run f n s) → run f m s ≡ run f n s
runs_same f m n s h k = by_less m n (λ l. sym (run_beyond f m n s h (omega arith))) (λ l. run_beyond f n m s k l)

-- ---- the pixels that stay

paint_keeps : (w : ℕ) (ink : ℕ → Ink) (n : ℕ) (ps : List Pixel) → take (length ps) (paint w ink n ps) ≡ ps
unfolding paint
paint_keeps w ink zero ps = take-length ps
paint_keeps w ink (suc n) ps =
    take-append-le (length ps) (paint w ink n ps) _ (rw length-paint (omega arith)) ∙ paint_keeps w ink n ps

following_keeps : (f : Frame) (s : State) → (length s.painted ≤ length (following f s).painted) × (take (length s.painted) (following f s).painted ≡ s.painted)
unfolding plan_state
following_keeps f s = (rw length-paint (omega arith), paint_keeps _ _ _ s.painted)

pub painted_stay : (f : Frame) (n : ℕ) (s : State) → take (length s.painted) (last (run f n s)).painted ≡ s.painted
painted_stay f =
    by_orders f (λ n s x. take (length s.painted) (last x).painted ≡ s.painted) (λ n s. take-length s.painted) (λ s more. take-length s.painted)
    (λ n s r more e. (following_keeps f s).1)
    (λ n s x more e go.
    let k = following_keeps f s in
    sym (take-take _ _ (last x).painted k.0) ∙ ap (λ (ps : List Pixel). take (length s.painted) ps) go ∙ k.1)

-- ---- states by value

pub neither : (a b : Bool) → pick a true b ≡ false → (a ≡ false) × (b ≡ false)
neither true b e = apart cc
neither false b e = (refl, e)

-- a pixel of D bytes has no unused byte that is not zero, and no other has
module _ (D : ℕ) where
  unused_zero : (t : Bool) (x : ℕ) → pick t x 0 ≡ x → pick t false (ltb 0 x) ≡ false
  unused_zero true x e = refl
  unused_zero false x e = le-ltb 0 x (omega arith)

  pub depth_unused : (p : Pixel) → OfDepth D p → unused_byte D p ≡ false
  unfolding unused_byte first_pixel
  depth_unused p of =
      rw (unused_zero (ltb 1 D) (get_or p 1 0) (ap (λ (q : Pixel). get_or q 1 0) of), unused_zero (ltb 2 D) (get_or p 2 0) (ap (λ (q : Pixel). get_or q 2 0) of))

-- and the other way round
module _ (D : ℕ) where
  zero_unused : (t : Bool) (x : ℕ) → pick t false (ltb 0 x) ≡ false → pick t x 0 ≡ x
  zero_unused true x e = refl
  zero_unused false x e = let none = ltb-false 0 x e in omega arith

  pub unused-depth : (p : Pixel) → length p ≡ 3 → unused_byte D p ≡ false → OfDepth D p
  unfolding unused_byte first_pixel
  unused-depth p size e =
      let b = neither (pick (ltb 1 D) false (ltb 0 (get_or p 1 0))) (pick (ltb 2 D) false (ltb 0 (get_or p 2 0))) e in
      rw (zero_unused (ltb 1 D) (get_or p 1 0) b.0, zero_unused (ltb 2 D) (get_or p 2 0) b.1) (sym (three p size))

start_good : (size total w D bpp : ℕ) → OfDepth D (depth_of bpp).white → bad_state size total w D (start_at bpp) ≡ false
unfolding bad_state start_at
start_good size total w D bpp of = rw (le-ltb size 0 zero-le, le-ltb total 0 zero-le) (depth_unused D (depth_of bpp).white of)

-- ---- what a state by value stands for

-- with the stream and the target the state s passes the tests, and stands where its orders from the start lead to
pub record Stands (f : Frame) (stream target : List ℕ) (s : Saved) : Type 0 where
  pub good : bad_state (length stream) f.total f.width f.bytes s ≡ false
  pub goes : (n : ℕ) → run f n (restored f stream target s) ≡ run f (s.orders + n) (start f stream)

pub start-stands : (f : Frame) (stream target : List ℕ) (bpp : ℕ) → f.white ≡ (depth_of bpp).white → OfDepth f.bytes f.white → Stands f stream target (start_at bpp)
unfolding start_at start pixels_of
start-stands f stream target bpp white of =
    record {
      good = start_good (length stream) f.total f.width f.bytes bpp (rw white at of);
      goes = λ n. rw (zero-add, white);
    }

module _ {f : Frame} {stream target : List ℕ} {s : Saved} (stands : Stands f stream target s) (low : 1 ≤ f.bytes)
    -- the target may have changed past the painted pixels
    (before : List ℕ) (left : take (s.pixels * f.bytes) before ≡ take (s.pixels * f.bytes) target) where
  -- n orders from it are the orders from the start
  pub stands-run : (n : ℕ) → run f n (restored f stream before s) ≡ run f (s.orders + n) (start f stream)
  stands-run n = rw (pixels_cong f.bytes s.pixels before target low left) (stands.goes n)

  pub stands-paused : (n : ℕ) (t : State) → run f n (restored f stream before s) ≡ paused t → (after : List ℕ) (next : Saved)
      → bad_state (length stream) f.total f.width f.bytes next ≡ false → restored f stream after next ≡ t → Stands f stream after next
  unfolding resumed
  stands-paused n t is after next good restores =
      record {
        good = good;
        goes = λ m.
            let o : next.orders ≡ s.orders + n = ap (λ (u : State). u.orders) restores ∙ paused-orders f n (restored f stream before s) t is in
            let k : s.orders + (n + m) ≡ next.orders + m = omega arith in
            ap (run f m) restores
            ∙ ap (resumed (run f m)) (sym is)
            ∙ run_add f n m (restored f stream before s)
            ∙ stands-run (n + m)
            ∙ ap (λ (j : ℕ). run f j (start f stream)) k;
      }

-- ---- the numbers of a stream's refusals

-- they are at most 8, so none of them says that a state is bad
abbrev AtMost : Ending → Type 0
AtMost complete = Unit {0}
AtMost (Ending.refused r) = r.number ≤ 8

run_at_most : (D n R : ℕ) → AtMost (run_counts D n R).ending
unfolding run_counts
run_at_most D n R = by_test (λ (c : Counts). AtMost c.ending) (leb n R) (λ _. tt) (λ _. omega arith)

image_at_most : (D n a R : ℕ) → AtMost (image_counts D n a R).ending
unfolding image_counts no_mask no_room
image_at_most D n a R =
    by_test (λ (c : Counts). AtMost c.ending) (leb n R)
    (λ _. by_test (λ (c : Counts). AtMost c.ending) (leb (masks_for n) a) (λ _. tt) (λ _. omega arith))
    (λ _. by_test (λ (c : Counts). AtMost c.ending) (leb a (R / 8)) (λ _. omega arith) (λ _. omega arith))

behind_at_most : (d a : ℕ) (c : Counts) → AtMost c.ending → AtMost (with_operands d a c).ending
unfolding with_operands behind
behind_at_most d a c h = by_test (λ (x : Counts). AtMost x.ending) (leb d a) (λ _. h) (λ _. omega arith)

kind_at_most : (D : ℕ) (k : Kind) (n a R : ℕ) → AtMost (counts_of D k n a R).ending
unfolding counts_of
kind_at_most D BgRun n a R = run_at_most D n R
kind_at_most D FgRun n a R = run_at_most D n R
kind_at_most D FgBgImage n a R = image_at_most D n a R
kind_at_most D ColorRun n a R = behind_at_most D a _ (run_at_most D n R)
kind_at_most D ColorImage n a R = behind_at_most (n * D) a _ (run_at_most D n R)
kind_at_most D SetFgRun n a R = behind_at_most D a _ (run_at_most D n R)
kind_at_most D SetFgBgImage n a R = behind_at_most D a _ (image_at_most D n (a - D) R)
kind_at_most D DitheredRun n a R = behind_at_most (2 * D) a _ (run_at_most D (n * 2) R)
kind_at_most D SpecialFgBg1 n a R = run_at_most D n R
kind_at_most D SpecialFgBg2 n a R = run_at_most D n R
kind_at_most D White n a R = run_at_most D n R
kind_at_most D Black n a R = run_at_most D n R
kind_at_most D NoOrder n a R = omega arith

abbrev ReadAtMost : RunLength → Type 0
ReadAtMost (run_length n l) = Unit {0}
ReadAtMost (RunLength.refused r l) = r.number ≤ 8

bytes_at_most : (k : ℕ) (l : List ℕ) (x : RunLength) → ReadAtMost x → ReadAtMost (with_bytes k l x)
unfolding with_bytes
bytes_at_most k l x h = by_test ReadAtMost (leb k (length l)) (λ _. h) (λ _. omega arith)

length_at_most : (p : Place) (n mega : ℕ) (l : List ℕ) → ReadAtMost (length_at p n mega l)
unfolding length_at mega_length mega_mega_length
length_at_most nowhere n mega l = tt
length_at_most in_header n mega l = tt
length_at_most in_byte n mega l = bytes_at_most 1 l _ tt
length_at_most in_two_bytes n mega l =
    bytes_at_most 2 l _ (by_test ReadAtMost (eqb (get_or l 0 0 + get_or l 1 0 * 256) 0) (λ _. omega arith) (λ _. tt))

plan_at_most : (f : Frame) (h : ℕ) (m : Progress) (k : Kind) (x : RunLength) → ReadAtMost x → AtMost (plan_from f h m (headed k x)).ending
unfolding plan_from plan_by headed
plan_at_most f h m k (run_length n l) low = kind_at_most f.bytes k n _ _
plan_at_most f h m k (RunLength.refused r l) low = low

order_at_most : (f : Frame) (m : Progress) → AtMost (plan_of f m).ending
unfolding plan_of head_of length_of
order_at_most f m = plan_at_most f (get_or m.left 0 0) _ _ _ (length_at_most _ _ _ (drop 1 m.left))

abbrev pub RunAtMost : Run → Type 0
RunAtMost (ended s) = Unit {0}
RunAtMost (paused s) = Unit {0}
RunAtMost (refused r s) = r.number ≤ 8

pub orders_at_most : (f : Frame) (n : ℕ) (s : State) → RunAtMost (run f n s)
orders_at_most f =
    by_orders f (λ n s x. RunAtMost x) (λ n s. tt) (λ s more. tt) (λ n s r more is. rw is at (order_at_most f (progress_of s))) (λ n s x more is h. h)
