-- Laws of one order, and of runs of orders: an order is the definition's step, and from each state between orders those that are left give
-- what the whole run gives. Assumes nothing.
use mathlib.Core.Path.{◌≡◌, refl, ap, sym, ◌∙◌, subst}
use mathlib.Core.List.{List, []}
use mathlib.Core.Bool.{true}
use Prim.Native.Nat.{ℕ, ◌+◌, ◌-◌, ◌*◌, ◌≤◌, ◌<◌, min, zero-le}
use Rattle.base.proofs.Tests.{by_less}
use native.Mathlib.Nat.{le_refl, sub-zero}
use native.Mathlib.Omega.{arith}
use lib.ListN.{length, drop, drop_of_length-le, length-drop}
use Rattle.rle.specs.declared.frame.Frame.{Frame as CodeFrame}
use Rattle.rle.specs.declared.state.State.{State as CodeState}
use Rattle.rle.specs.declared.head.OrderHead.{OrderHead}
use Rattle.rle.specs.declared.state.Stepped.{Stepped}
use Rattle.std.specs.Prelude.{Ok, Err}
use Rattle.rle.specs.declared.head.NoLength.{NoLength}
use Rattle.picture.specs.declared.outcome.RleError.{RleError}
use Rattle.picture.specs.Sizes.{Frame}
use Rattle.definition.specs.Orders.{Head, head_of}
use Rattle.rle.specs.Kinds.{kind_in}
use Rattle.definition.specs.Decode.{done, Run, then_run, order_of, order_from, with_left, end_first_row, step, run, start, decode}
use Rattle.definition.specs.Plan.{end_with}
use Rattle.definition.proofs.Bounds.{Bytes, bytes_drop}
use Rattle.definition.proofs.Runs.{run_end, goes_end, goes_as, goes_refused, goes_on, run_not_paused}
use Rattle.definition.proofs.Pauses.{step-orders, step-paints, runs_same}
use Rattle.picture.specs.Pixels.{pixels_of}
use Rattle.picture.proofs.Pixels.{length-pixels_of}
use Rattle.rle.specs.Heads.{HeadAt, RefusedAt}
use Rattle.rle.specs.Planning.{CodeEnding, ending_in}
use Rattle.rle.specs.States.{Framed, Invariant, frame_of, state_of, first_row_ended, at_pos, completed_in, refused_in, start_of}
use Rattle.rle.specs.Orders.{step_in, Executes, BetweenOrders, Decodes, decoded_on, DecodesOn}
use Rattle.rle.proofs.Painting.{rest_later}
use Rattle.rle.proofs.FirstRow.{mark-is, invariant_marked, step_marked}

-- ---- one order

invariant_at : {f : Frame} {s : CodeState} (pos : ℕ) → Invariant f s → Invariant f (at_pos s pos)
invariant_at pos invariant =
    record { within = invariant.within; row = invariant.row; foreground = invariant.foreground; counted = invariant.counted }

-- between two orders, in the state s, one more is carried out
pub record Advances (f : Frame) (src dst₀ dst after : List ℕ) (whole : Run) (n : ℕ) (s : CodeState) (r : Stepped) : Type 0 where
  pub between : BetweenOrders f src dst₀ dst whole n s
  pub executes : Executes f src dst after s r (step f)
  pub reads : s.walk.pos < r.state.walk.pos
  pub inside : s.walk.pos < length src

module _ (f : CodeFrame) (src dst : List ℕ) {s : CodeState} (begun : first_row_ended f s ≡ s) where
  -- an order begins with the first row's end, which is behind or not yet due
  step_from : (x : Head) → head_of (drop s.walk.pos src) ≡ x
      → order_from (frame_of f) (state_of (frame_of f) src dst s) x ≡ step (frame_of f) (state_of (frame_of f) src dst s)
  unfolding step
  step_from x e =
      let from : state_of (frame_of f) src dst s ≡ end_first_row (frame_of f) (state_of (frame_of f) src dst s) =
      ap (λ (t : CodeState). state_of (frame_of f) src dst t) (sym begun) ∙ mark-is f s src dst in
      λ i. order_from (frame_of f) (from i) (sym e i)

  -- its head was read
  pub order_read : {o : OrderHead} → HeadAt src s.walk.pos o → {after : List ℕ} {r : Stepped}
      → Executes (frame_of f) src dst after (at_pos s o.next) r (order_of (frame_of f) (kind_in o.kind) o.run_length.pixels)
      → Executes (frame_of f) src dst after s r (step (frame_of f)) × (s.walk.pos < r.state.walk.pos) × (s.walk.pos < length src)
  unfolding order_from with_left
  order_read at d = (
    record {
      is = d.is ∙ step_from _ at.is;
      rest = d.rest;
      grows = d.grows;
      reads = omega (arith, d.reads, at.reads);
      place = d.place;
      mark = d.mark;
      invariant = d.invariant;
    },
    omega (arith, at.reads, d.reads),
    omega (arith, at.reads, at.place),
  )

  module _ {dst₀ : List ℕ} {whole : Run} {n : ℕ} (between : BetweenOrders (frame_of f) src dst₀ dst whole n s) where
    pub advanced : {o : OrderHead} → HeadAt src s.walk.pos o → {after : List ℕ} {r : Stepped}
        → Executes (frame_of f) src dst after (at_pos s o.next) r (order_of (frame_of f) (kind_in o.kind) o.run_length.pixels)
        → Advances (frame_of f) src dst₀ dst after whole n s r
    advanced at d = let read = order_read at d in record { between = between; executes = read.0; reads = read.1; inside = read.2 }

    -- its head was refused
    pub order-refused : {x : NoLength} → RefusedAt src s.walk.pos x → Advances (frame_of f) src dst₀ dst dst whole n s (refused_in x.error (at_pos s x.next))
    unfolding order_from with_left end_with
    order-refused {x = x} at =
        record {
          between = between;
          executes =
              record {
                is = step_from _ at.is;
                rest = refl;
                grows = le_refl s.walk.pixels;
                reads = omega (arith, at.reads);
                place = at.place;
                mark = refl;
                invariant = invariant_at x.next between.invariant;
              };
          reads = at.reads;
          inside = omega (arith, at.reads, at.place);
        }

-- ---- runs of orders

-- a frame goes with each target that has its picture's place
pub framed : (f : CodeFrame) (given : ℕ) → f.total * f.depth.bytes ≤ given → Framed given (frame_of f)
framed f given fits =
    record { low = f.low; high = f.high; wide = f.wide; few = f.few; fits = fits; white = f.white; black = f.black }

pub between_first : (f : Frame) (src dst : List ℕ) (n : ℕ) {s : CodeState} → Invariant f s → s.walk.pos ≤ length src
    → BetweenOrders f src dst dst (run f n (state_of f src dst s)) n s
between_first f src dst n invariant place =
    record { invariant = invariant; place = place; same = refl; rest = refl; goes = refl }

invariant_start : (f : CodeFrame) → Invariant (frame_of f) (start_of f)
invariant_start f = record { within = zero-le; row = zero-le; foreground = f.white; counted = zero-le }

module _ {f : Frame} {src dst₀ dst : List ℕ} {whole : Run} {n : ℕ} {s : CodeState} (between : BetweenOrders f src dst₀ dst whole n s) where
  stopped : run f 0 (state_of f src dst s) ≡ whole → Decodes f src dst₀ dst whole (completed_in s)
  unfolding then_run end_with
  stopped is = record { is = is; rest = between.rest; place = between.place; invariant = between.invariant }

  -- the stream ends
  pub between_end : length src ≤ s.walk.pos → Decodes f src dst₀ dst whole (completed_in s)
  between_end h =
      let e : drop s.walk.pos src ≡ [] = drop_of_length-le _ h in
      stopped (run_end f 0 (state_of f src dst s) e ∙ goes_end f n (state_of f src dst s) between.goes e)

  -- no order is left of those to be carried out
  pub between_stop : n ≡ 0 → Decodes f src dst₀ dst whole (completed_in s)
  between_stop none = stopped (ap (λ (m : ℕ). run f m (state_of f src dst s)) (sym none) ∙ between.goes)

more : (src : List ℕ) (pos : ℕ) → pos < length src → 0 < length (drop pos src)
more src pos inside = rw length-drop (omega arith)

module _ {f : Frame} {src dst₀ dst after : List ℕ} {whole : Run} {n : ℕ} {s : CodeState} {r : Stepped} (advances : Advances f src dst₀ dst after whole n s r) where
  abbrev executes : Executes f src dst after s r (step f)
  executes = advances.executes

  rest : drop (r.state.walk.pixels * f.bytes) after ≡ drop (r.state.walk.pixels * f.bytes) dst₀
  rest = executes.rest ∙ rest_later f.bytes s.walk.pixels r.state.walk.pixels dst dst₀ executes.grows advances.between.rest

  done-is : r.ending ≡ Ok tt → done (state_of f src after r.state) ≡ step f (state_of f src dst s)
  unfolding end_with
  done-is p = ap (λ (e : CodeEnding). step_in e (state_of f src after r.state)) (sym p) ∙ executes.is

  -- a completed order is counted, and paints
  pub order_counted : r.ending ≡ Ok tt → r.state.orders ≡ s.orders + 1
  order_counted p = step-orders f (state_of f src dst s) (state_of f src after r.state) (done-is p)

  order_paints : Bytes src → r.ending ≡ Ok tt → s.walk.pixels < r.state.walk.pixels
  order_paints octets p =
      let paints = step-paints f (state_of f src dst s) (state_of f src after r.state) (more src s.walk.pos advances.inside) (bytes_drop s.walk.pos src octets) (done-is p) in
      rw (length-pixels_of f.bytes s.walk.pixels dst, length-pixels_of f.bytes r.state.walk.pixels after) at paints

  module _ (some : 0 < n) where
    pub decodes_refused : {e : RleError} → r.ending ≡ Err e → Decodes f src dst₀ after whole r
    unfolding then_run end_with
    decodes_refused p =
        record {
          is = rw p (goes_refused f n (state_of f src dst s) advances.between.goes (more src s.walk.pos advances.inside) some (ending_in r.ending) (state_of f src after r.state) executes.is (ap ending_in p));
          rest = rest;
          place = executes.place;
          invariant = executes.invariant;
        }

    pub between_on : r.ending ≡ Ok tt → length after ≡ length dst → BetweenOrders f src dst₀ after whole (n - 1) r.state
    between_on p k =
        record {
          invariant = executes.invariant;
          place = executes.place;
          same = k ∙ advances.between.same;
          rest = rest;
          goes = goes_on f n (state_of f src dst s) advances.between.goes (more src s.walk.pos advances.inside) some (ending_in r.ending) (state_of f src after r.state) executes.is (ap ending_in p);
        }

-- the first row may end before an order
pub between_marked : (f : CodeFrame) {src dst₀ dst : List ℕ} {whole : Run} {n : ℕ} {s : CodeState} → BetweenOrders (frame_of f) src dst₀ dst whole n s
    → s.walk.pos < length src → 0 < n → BetweenOrders (frame_of f) src dst₀ dst whole n (first_row_ended f s)
between_marked f {src} {dst₀} {dst} {whole} {n} {s} between inside some =
    record {
      invariant = invariant_marked f s between.invariant;
      place = between.place;
      same = between.same;
      rest = between.rest;
      goes =
          goes_as (frame_of f) n (state_of (frame_of f) src dst s) between.goes (more src s.walk.pos inside) some (state_of (frame_of f) src dst (first_row_ended f s)) refl
          (step_marked f s src dst);
    }

-- ---- orders by turns

-- orders from the state s, n at most, led to t; the limit is no more than that of n pixels
pub record LedTo (limit : ℕ) (f : Frame) (src dst₀ dst : List ℕ) (n : ℕ) (s t : CodeState) : Type 0 where
  pub between : BetweenOrders f src dst₀ dst (run f n (state_of f src dst₀ s)) (n - (t.orders - s.orders)) t
  pub grows : s.walk.pixels ≤ t.walk.pixels
  pub counted : s.orders ≤ t.orders
  pub few : t.orders ≤ s.orders + n
  pub each : t.orders + s.walk.pixels ≤ s.orders + t.walk.pixels
  pub none : t.orders ≡ s.orders → (t.walk.pixels ≡ s.walk.pixels) × (t.walk.pos ≡ s.walk.pos)
  pub row : t.walk.first_row ≡ true → limit ≤ f.width

pub led_start : (f : CodeFrame) (src dst : List ℕ) {n limit : ℕ} {s : CodeState} → Invariant (frame_of f) s → s.walk.pos < length src → 0 < n
    → ((first_row_ended f s).walk.first_row ≡ true → limit ≤ f.width) → LedTo limit (frame_of f) src dst dst n s (first_row_ended f s)
led_start f src dst {n} {limit} {s} invariant inside some row =
    let e : n ≡ n - (s.orders - s.orders) = omega arith in
    record {
      between =
          subst (λ (m : ℕ). BetweenOrders (frame_of f) src dst dst (run (frame_of f) n (state_of (frame_of f) src dst s)) m (first_row_ended f s)) e
          (between_marked f (between_first (frame_of f) src dst n invariant (omega arith)) inside some);
      grows = le_refl _;
      counted = le_refl _;
      few = omega arith;
      each = le_refl _;
      none = λ e. (refl, refl);
      row = row;
    }

module _ {limit : ℕ} {f : Frame} {src dst₀ dst : List ℕ} {n : ℕ} {s t : CodeState} (led : LedTo limit f src dst₀ dst n s t) (within : limit ≤ s.walk.pixels + n) where
  -- below the limit orders are left
  pub led_more : t.walk.pixels < limit → 0 < n - (t.orders - s.orders)
  led_more below = omega (arith, led.each, led.counted, led.grows)

  pub led_on : {after : List ℕ} {r : Stepped} → Advances f src dst₀ dst after (run f n (state_of f src dst₀ s)) (n - (t.orders - s.orders)) t r → t.walk.pixels < limit
      → Bytes src → r.ending ≡ Ok tt → length after ≡ length dst → LedTo limit f src dst₀ after n s r.state
  led_on {after} {r} a below octets p same =
      let o = order_counted a p in
      let paints = order_paints a octets p in
      let left = led_more below in
      let e : n - (t.orders - s.orders) - 1 ≡ n - (r.state.orders - s.orders) = omega (arith, led.counted) in
      record {
        between = subst (λ (m : ℕ). BetweenOrders f src dst₀ after (run f n (state_of f src dst₀ s)) m r.state) e (between_on a left p same);
        grows = omega (arith, led.grows);
        counted = omega (arith, led.counted);
        few = omega (arith, led.few, led.counted);
        each = omega (arith, led.each);
        none = λ e. absurd (omega (arith, led.counted));
        row = λ e. led.row (sym a.executes.mark ∙ e);
      }

-- they stop in t, at the stream's end or with the limit reached
pub led_end : {limit : ℕ} {f : Frame} {src dst₀ dst : List ℕ} {n : ℕ} {s t : CodeState} → LedTo limit f src dst₀ dst n s t → (t.orders ≡ s.orders → ⊥)
    → DecodesOn f src dst₀ dst n s (completed_in t)
led_end led some =
    record {
      grows = led.grows;
      decoded = (led.between, omega (arith, led.counted, some), omega (arith, led.few, led.counted));
    }

-- a turn, with a target that was painted before
module _ {f : Frame} {src dst₀ dst after : List ℕ} {whole : Run} {n : ℕ} {s : CodeState} {r : Stepped} (between : BetweenOrders f src dst₀ dst whole n s)
    (on : DecodesOn f src dst after n s r) where
  further : drop (r.state.walk.pixels * f.bytes) after ≡ drop (r.state.walk.pixels * f.bytes) dst
      → drop (r.state.walk.pixels * f.bytes) after ≡ drop (r.state.walk.pixels * f.bytes) dst₀
  further e = e ∙ rest_later f.bytes s.walk.pixels r.state.walk.pixels dst dst₀ on.grows between.rest

  pub decoded-refused : {e : RleError} → r.ending ≡ Err e → Decodes f src dst₀ after whole r
  decoded-refused {e} p =
      let w = run f n (state_of f src dst s) in
      let g : Decodes f src dst after w r = subst (λ (a : CodeEnding). decoded_on a f src dst after w n s r) p on.decoded in
      record { is = g.is ∙ between.goes; rest = further g.rest; place = g.place; invariant = g.invariant }

  pub decoded_further : r.ending ≡ Ok tt
      → BetweenOrders f src dst₀ after whole (n - (r.state.orders - s.orders)) r.state × (s.orders < r.state.orders) × (r.state.orders - s.orders ≤ n)
  decoded_further p =
      let w = run f n (state_of f src dst s) in
      let g : decoded_on (Ok tt) f src dst after w n s r = subst (λ (a : CodeEnding). decoded_on a f src dst after w n s r) p on.decoded in (
        record {
          invariant = g.0.invariant;
          place = g.0.place;
          same = g.0.same ∙ between.same;
          rest = further g.0.rest;
          goes = g.0.goes ∙ between.goes;
        },
        g.1,
        g.2,
      )

-- ---- the whole stream

pub between_start : (f : CodeFrame) (src dst : List ℕ) → BetweenOrders (frame_of f) src dst dst (decode (frame_of f) src) (length src - 0) (start_of f)
unfolding decode start pixels_of
between_start f src dst = rw sub-zero (between_first (frame_of f) src dst (length src) (invariant_start f) zero-le)

-- runs with orders enough for the bytes left are one
runs_enough : (f : Frame) (src dst : List ℕ) (m n : ℕ) (s : CodeState) → length src ≤ m → length src ≤ n → run f m (state_of f src dst s) ≡ run f n (state_of f src dst s)
runs_enough f src dst m n s e h =
    runs_same f m n (state_of f src dst s) (run_not_paused f m (state_of f src dst s) (rw length-drop (omega arith)))
    (run_not_paused f n (state_of f src dst s) (rw length-drop (omega arith)))

-- so a count to stop at that is too large, and cut, does no harm
pub runs_cut : (f : Frame) (src dst : List ℕ) (n most : ℕ) (s : CodeState) → length src + s.orders ≤ most
    → run f (min (s.orders + n) most - s.orders) (state_of f src dst s) ≡ run f n (state_of f src dst s)
runs_cut f src dst n most s enough =
    by_less most (s.orders + n)
    (λ l. runs_enough f src dst (min (s.orders + n) most - s.orders) n s (omega arith) (omega arith))
    (λ l. let e : min (s.orders + n) most - s.orders ≡ n = omega arith in ap (λ (k : ℕ). run f k (state_of f src dst s)) e)

-- from the start it is the whole stream's
pub decode-is : (f : CodeFrame) (src dst : List ℕ) (n : ℕ) → length src ≤ n → run (frame_of f) n (state_of (frame_of f) src dst (start_of f)) ≡ decode (frame_of f) src
unfolding decode start pixels_of
decode-is f src dst n enough = runs_enough (frame_of f) src dst n (length src) (start_of f) enough (le_refl (length src))
