-- Laws of the completed orders: the next one and then the others, what one was by its plan, and that they are as many as a report
-- counts. Assumes nothing.
use mathlib.Core.Path.{◌≡◌, refl, ap, sym, ◌∙◌}
use mathlib.Core.List.{List, [], ◌∷◌, map}
use Prim.Native.Nat.{ℕ, zero, suc, ◌+◌, ◌-◌, ◌≤◌, ◌<◌, zero-le}
use native.Mathlib.Nat.{add-zero, zero-add}
use native.Mathlib.Omega.{arith}
use lib.ListN.{length, get_or, drop, length-map}
use Rattle.base.proofs.Tests.{apart}
use Rattle.picture.specs.Sizes.{Refusal, Frame, Checked, accepted, checked}
use Rattle.definition.specs.Orders.{Kind, RunLength, run_length, row_of, length_of, Head, head, headed, head_of}
use Rattle.definition.specs.Decode.{State, Step, step, start, Run, ended, paused, at_end, then_run, run, decode, end_first_row, result_of, of_run, of_checked, result}
use Rattle.definition.specs.Plan.{Ending, complete, Progress, progress_of, plan_by, plan_from, plan_of, past_first_row, plan_state, plan_step, plan_record, end_with, insert_after, orders_after}
use Rattle.definition.specs.Records.{Order, unless_end, then_orders, orders_from, run_length_in, record_by, record_of, records_in, records, Numbered, order, no_order, numbered_by, nth}
use Rattle.definition.proofs.Painting.{length-paint}
use Rattle.definition.proofs.Bounds.{Bytes, Read, read, unread, length-read, last}
use Rattle.definition.proofs.Planned.{step_planned, refused_none, kind-within}

-- ---- the next order, and then the others

orders_end : (f : Frame) (n : ℕ) (s : State) → s.left ≡ [] → orders_from f n s ≡ []
unfolding orders_from unless_end
orders_end f zero s e = refl
orders_end f (suc n) s e = rw e

not_end : (l : List ℕ) (os : List Order) → 0 < length l → unless_end l os ≡ os
unfolding unless_end
not_end [] os h = absurd (omega arith)
not_end (x ∷ xs) os h = refl

orders-step : (f : Frame) (n : ℕ) (s : State) → 0 < length s.left → orders_from f (suc n) s ≡ then_orders s (orders_from f n) (step f s)
unfolding orders_from
orders-step f n s more = not_end s.left _ more

-- the orders from a state on, by a number that is enough for the bytes left; order n of them is meant
module _ (f : Frame) (s : State) (fuel : ℕ) (enough : length s.left ≤ fuel) (n : ℕ) where
  abbrev pub meant : Numbered Order
  meant = nth (orders_from f fuel s) n

  pub meant_end : s.left ≡ [] → meant ≡ no_order
  unfolding nth
  meant_end e = rw (orders_end f fuel s e)

  -- the next order's ending e and state t
  module _ (more : 0 < length s.left) (e : Ending) (t : State) (is : end_with e t ≡ step f s) where
    next-orders : orders_from f fuel s ≡ then_orders s (orders_from f (fuel - 1)) (end_with e t)
    next-orders =
        let k : fuel ≡ suc (fuel - 1) = omega arith in
        ap (λ (m : ℕ). orders_from f m s) k
        ∙ orders-step f (fuel - 1) s more
        ∙ ap (λ (x : Step). then_orders s (orders_from f (fuel - 1)) x) (sym is)

    pub meant_refused : {r : Refusal} → e ≡ Ending.refused r → meant ≡ no_order
    unfolding nth then_orders end_with
    meant_refused {r} p = rw (next-orders, p)

    pub meant_next : e ≡ complete → n ≡ 0 → meant ≡ order (record { before = s; after = t })
    unfolding nth then_orders end_with
    meant_next p z = rw (next-orders, p, z)

    pub meant_later : e ≡ complete → (m : ℕ) → n ≡ suc m → meant ≡ nth (orders_from f (fuel - 1) t) m
    unfolding nth then_orders end_with
    meant_later p m z = rw (next-orders, p, z)

-- ---- what an order was is what its plan says

painted_more : (a b : ℕ) → a + b - a ≡ b
painted_more a b = omega arith

module _ (f : Frame) (s : State) where
  abbrev first : ℕ
  first = get_or s.left 0 0

  planned : (x : RunLength) → (plan_from f first (past_first_row f (progress_of s)) (headed (row_of first).kind x)).ending ≡ complete
      → let a = plan_from f first (past_first_row f (progress_of s)) (headed (row_of first).kind x) in
      record_by first (headed (row_of first).kind x) (end_first_row f s) (plan_state f s a) ≡ plan_record a
  unfolding record_by run_length_in plan_record plan_state plan_from plan_by headed past_first_row progress_of end_first_row insert_after
  planned (run_length n rest) e = rw (e, length-paint, painted_more)
  planned (RunLength.refused r rest) e = refused_none e

  pub record_planned : (plan_of f (progress_of s)).ending ≡ complete
      → record_of f (record { before = s; after = plan_state f s (plan_of f (progress_of s)) }) ≡ plan_record (plan_of f (progress_of s))
  unfolding record_of plan_of head_of progress_of past_first_row
  record_planned e = planned (length_of (row_of first) first (drop 1 s.left)) e

-- ---- a picture without room completes none

not_completed : (s : State) (e : Ending) (t : State) (go : State → List Order) → (e ≡ complete → ⊥) → then_orders s go (end_with e t) ≡ []
unfolding then_orders end_with
not_completed s complete t go never = absurd (never refl)
not_completed s (Ending.refused r) t go never = refl

none_without : (os : List Order) (l : List ℕ) → (1 ≤ length l → os ≡ []) → unless_end l os ≡ []
unfolding unless_end
none_without os [] go = refl
none_without os (x ∷ xs) go = go (omega arith)

module _ (f : Frame) (s : State) (full : f.total ≤ length s.painted) where
  no_room_lem : (h : ℕ) (k : Kind) {x : RunLength} → Read s.left x → (plan_from f h (past_first_row f (progress_of s)) (headed k x)).ending ≡ complete → ⊥
  unfolding plan_from plan_by headed past_first_row progress_of
  no_room_lem h k (read j n there few some most) e =
      let w = kind-within f.bytes k n (length (drop j s.left)) (f.total - length s.painted) some in
      omega (arith, w.pixels, w.some e)
  no_room_lem h k (unread j there) e = refused_none e

  pub orders_without_room : (n : ℕ) → Bytes s.left → orders_from f n s ≡ []
  unfolding orders_from plan_step plan_of head_of progress_of
  orders_without_room zero octets = refl
  orders_without_room (suc n) octets =
      none_without _ s.left
      (λ some. rw step_planned (not_completed s _ _ (orders_from f n) (no_room_lem (get_or s.left 0 0) _ (length-read s.left some octets))))

-- ---- how many there are

none_yet : (l : List ℕ) (s : State) → (last (at_end l (ended s) (paused s))).orders ≡ s.orders + 0
unfolding at_end
none_yet [] s = sym (add-zero s.orders)
none_yet (b ∷ l) s = sym (add-zero s.orders)

ended-orders : (l : List ℕ) (s : State) (x : Run) (os : List Order) → (last x).orders ≡ s.orders + length os
    → (last (at_end l (ended s) x)).orders ≡ s.orders + length (unless_end l os)
unfolding at_end unless_end
ended-orders [] s x os e = sym (add-zero s.orders)
ended-orders (b ∷ l) s x os e = e

done-orders : (f : Frame) (n : ℕ) (s t : State) (e : Ending) → ((u : State) → (last (run f n u)).orders ≡ u.orders + length (orders_from f n u))
    → t.orders ≡ orders_after e s.orders
    → (last (then_run (run f n) (end_with e t))).orders ≡ s.orders + length (then_orders s (orders_from f n) (end_with e t))
unfolding then_run then_orders end_with orders_after
done-orders f n s t complete go is = omega (arith, go t, is)
done-orders f n s t (Ending.refused r) go is = is ∙ sym (add-zero s.orders)

pub plan_orders : (f : Frame) (h : ℕ) (m : Progress) (x : Head) → (plan_from f h m x).after.orders ≡ orders_after (plan_from f h m x).ending m.orders
unfolding plan_from plan_by
plan_orders f h m (head k n rest) = refl
plan_orders f h m (Head.refused r rest) = refl

pub orders-counted : (f : Frame) (n : ℕ) (s : State) → (last (run f n s)).orders ≡ s.orders + length (orders_from f n s)
unfolding run orders_from plan_step plan_state plan_of progress_of past_first_row
orders-counted f zero s = none_yet s.left s
orders-counted f (suc n) s = ended-orders s.left s _ _ (rw step_planned (done-orders f n s _ _ (orders-counted f n) (plan_orders f _ _ (head_of s.left))))

run-orders : (f : Frame) (k : ℕ) (x : Run) → (of_run f k x).orders ≡ (last x).orders
unfolding of_run result_of
run-orders f k (ended s) = refl
run-orders f k (paused s) = refl
run-orders f k (Run.refused r s) = refl

-- as many as the report counts
pub records-counted : (stream : List ℕ) (bpp w h : ℕ) → length (records stream bpp w h) ≡ (result stream bpp w h).orders
unfolding records result records_in of_checked decode start
records-counted stream bpp w h = go (checked bpp w h)
  where
    go : (c : Checked) → length (records_in stream c) ≡ (of_checked stream c).orders
    go (Checked.refused r) = refl
    go (accepted f k) = length-map (orders_from f (length stream) (start f stream)) (record_of f) ∙ sym (run-orders f k (decode f stream) ∙ orders-counted f (length stream) (start f stream) ∙ zero-add _)

-- ---- one of them, by its number

none-past : {A : Type 0} (xs : List A) (n : ℕ) → length xs ≤ n → nth xs n ≡ no_order
unfolding nth
none-past [] n h = refl
none-past (x ∷ xs) zero h = absurd (omega arith)
none-past (x ∷ xs) (suc n) h = none-past xs n (omega arith)

past-none : {A : Type 0} (xs : List A) (n : ℕ) → nth xs n ≡ no_order → length xs ≤ n
unfolding nth
past-none [] n e = zero-le
past-none (x ∷ xs) zero e = apart cc
past-none (x ∷ xs) (suc n) e = omega (arith, past-none xs n e)

-- there is no order n exactly if at most n are completed
pub no_order_exactly : (stream : List ℕ) (bpp w h n : ℕ)
    → (nth (records stream bpp w h) n ≡ no_order → (result stream bpp w h).orders ≤ n)
    × ((result stream bpp w h).orders ≤ n → nth (records stream bpp w h) n ≡ no_order)
no_order_exactly stream bpp w h n =
    let c = records-counted stream bpp w h in
    (λ e. rw (← c) (past-none (records stream bpp w h) n e), λ few. none-past (records stream bpp w h) n (rw c few))

pub nth_map : {A B : Type 0} (g : A → B) (xs : List A) (n : ℕ) → nth (map g xs) n ≡ numbered_by g (nth xs n)
unfolding nth numbered_by
nth_map g [] n = refl
nth_map g (x ∷ xs) zero = refl
nth_map g (x ∷ xs) (suc n) = nth_map g xs n
