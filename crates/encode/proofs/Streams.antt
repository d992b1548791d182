-- A stream written order by order: what is written so far, and what is still to come. Assumes nothing.
use mathlib.Core.Path.{◌≡◌, refl, ap, sym, ◌∙◌, subst}
use mathlib.Core.List.{List, [], ◌∷◌, ◌++◌, append-nil, append_assoc}
use mathlib.Core.Bool.{Bool, false}
use Prim.Native.Nat.{ℕ, zero, suc, ◌+◌, ◌-◌, ◌*◌, ◌%◌, ◌≤◌}
use native.Mathlib.Nat.{mul-le-mul}
use native.Mathlib.Omega.{arith}
use lib.Dec.{eqb}
use lib.ListN.{length, take, drop, length-append, length-drop, drop_of_length-le}
use lib.Seq.{take-add, take-length, drop-drop, take_at, drop_at, length-take-le, take-append_seam, drop-append_seam}
use borrow.Author.Tests.{le-ltb, lt-ltb}
use borrow.Rule.Slice.PartMut.{put_mid}
use Rattle.std.specs.Prelude.{Option, MatchOption, map}
use Rattle.std.specs.List.{sum_by}
use Rattle.std.specs.Iterator.{AlwaysYields}
use Rattle.std.proofs.lemmas.List.{take_rest}
use Rattle.std.proofs.lemmas.List.Sums.{sum_by-cons}
use Rattle.byte_runs.specs.Runs.{run_where, both, there, taken}
use Rattle.base.proofs.Tests.{by_test, by_less}
use Rattle.picture.proofs.Pixels.{length-pixels_of}
use Rattle.definition.specs.Codes.{kind_row}
use Rattle.encoding.specs.Heads.{head_bytes}
use Rattle.encoding.proofs.HeadLengths.{head-most}
use Rattle.encoding.specs.Encode.{is_bg_run, order_at, orders_from, orders_of, order_bytes, stream_of, encode}
use Rattle.encoding.specs.Encode as rule
use Rattle.encoding.specs.Bound.{head_size, overhead}
use Rattle.encoding.proofs.Bound.{stream-bound}
use Rattle.encoding.proofs.Rest.{order-counted, rest, rest_all, rest_more, rest_end}
use Rattle.encode.specs.declared.order.Kind.TheVariants.{ColorImage}
use Rattle.encode.specs.declared.order.Order.{Order}
use Rattle.encode.specs.declared.orders.Orders.{Orders}
use Rattle.encode.specs.declared.pixels.Pixels.{Pixels}
use Rattle.encode.specs.Pixels.{pixels_in, stream_in}
use Rattle.encode.specs.Orders.{kind_number, is_background, order_of, pixels_held}
use Rattle.encode.specs.Stream.{OrdersFrom, OrderTaken}
use Rattle.encode.specs.Writing.{Writes}
use Rattle.encode.proofs.OrderBytes.{head-bytes, background-is, order-bytes, order-length, held_inside}
use Rattle.encode.proofs.Written.{then_copied}

-- ---- one order more

pub overhead-few : (D n : ℕ) → overhead D n ≤ n + 4
unfolding overhead
overhead-few D n = by_test (λ (x : ℕ). x ≤ n + 4) (eqb D 1) (λ e. omega arith) (λ e. omega (arith, head-most (n % 65535)))

-- of the picture's stream, what is still to come from pixel k on
abbrev pub to_come : Pixels → ℕ → Bool → List ℕ
to_come p k after = rest p.width (pixels_in p) p.bytes k after

abbrev pub rest_of : Orders → List ℕ
rest_of s = to_come s.pixels.now s.k (is_background s.before)

-- the bytes of an order of the code from pixel k on
abbrev pub bytes_for : Pixels → ℕ → Order → List ℕ
bytes_for p k o = order_bytes p.bytes (order_of (pixels_in p) k o.kind o.pixels)

-- the iterator's steps
abbrev pub steps : Orders → Option (ℕ × Order) → Orders → Type 0
steps s r t = MatchOption r (s.pixels.now.total ≤ s.k) (λ o. OrderTaken s o.0 o.1 t)

-- what the iterator's step from s to t, which gives the order o at pixel k, says of the stream
pub record Step (p : Pixels) (s : Orders) (k : ℕ) (o : Order) (t : Orders) : Type 0 where
  pub ends : k + o.pixels ≤ p.total
  pub next : rest_of s ≡ bytes_for p k o ++ rest_of t
  pub over : t.pixels.now ≡ p
  pub is : order_of (pixels_in p) k o.kind o.pixels ≡ order_at p.width (pixels_in p) s.k (is_background s.before)
  pub place : s.k + rule.pixels_in (order_at p.width (pixels_in p) s.k (is_background s.before)) ≡ t.k
  pub background : is_bg_run (order_at p.width (pixels_in p) s.k (is_background s.before)) ≡ is_background t.before

pub step : (p : Pixels) (s : Orders) (k : ℕ) (o : Order) (t : Orders) → s.pixels.now ≡ p → OrderTaken s k o t → Step p s k o t
step p s k o t over x =
    subst (λ (p : Pixels). Step p s k o t) over
    (record { ends = ends; next = next; over = x.rest.pixels; is = rw (← x.place) x.is.is; place = place; background = rw (← x.place, x.rest.before) background })
  where
    q : Pixels
    q = s.pixels.now

    size : length (pixels_in q) ≡ q.total
    size = length-pixels_of q.bytes q.total q.src.now

    ends : k + o.pixels ≤ q.total
    ends =
        let c = order-counted q.width (pixels_in q) k (is_background s.before) (rw size x.inside) in
        omega (arith, x.inside, x.is.count, rw size at c.few)

    background : is_bg_run (order_at q.width (pixels_in q) k (is_background s.before)) ≡ is_background o.kind
    background = ap is_bg_run (sym x.is.is) ∙ background-is (pixels_in q) k o.pixels o.kind

    place : s.k + rule.pixels_in (order_at q.width (pixels_in q) s.k (is_background s.before)) ≡ t.k
    place = rw (← x.place) (omega (arith, x.is.count, x.rest.next))

    next : rest_of s ≡ bytes_for q k o ++ rest_of t
    next =
        let here = rest_more q.width (pixels_in q) q.bytes k (is_background s.before) (rw size x.inside) in
        rw (← x.place, x.rest.pixels, x.rest.next, x.rest.before)
        (here ∙ (λ i. order_bytes q.bytes (sym x.is.is i) ++ to_come q (k + sym x.is.count i) (background i)))

-- no order is left
pub nothing_left : (s : Orders) → s.pixels.now.total ≤ s.k → rest_of s ≡ []
nothing_left s h = rest_end s.pixels.now.width (pixels_in s.pixels.now) s.pixels.now.bytes s.k (is_background s.before) (rw length-pixels_of h)

-- all orders are
pub all_left : (p : Pixels) (s : Orders) → OrdersFrom p 0 ColorImage s → rest_of s ≡ stream_in p
all_left p s x = rw (x.pixels, x.next, x.before) (rest_all p.width (pixels_in p) p.bytes)

module _ (p : Pixels) (k : ℕ) (o : Order) (ends : k + o.pixels ≤ p.total) where
  pub length-order : length (bytes_for p k o) ≡ head_size o.pixels + pixels_held o.kind o.pixels * p.bytes
  length-order = order-length p k o.pixels o.one ends o.kind

  -- an order's header, and then a copy of the pixels that it holds
  pub order-written : (a b c : List ℕ) (head held : ℕ) → length (bytes_for p k o) ≤ length a
      → Writes (head_bytes (kind_row (kind_number o.kind)) o.pixels) a b head → held ≡ pixels_held o.kind o.pixels * p.bytes
      → c ≡ run_where (both (there (k * p.bytes) held p.src.now) (there head held b)) (taken p.src.now (k * p.bytes)) head held b
      → Writes (bytes_for p k o) a c (head + held)
  order-written a b c head held fits x e y =
      rw (order-bytes p k o.pixels o.one ends o.kind, ← e)
      (then_copied (head_bytes (kind_row (kind_number o.kind)) o.pixels) p.src.now a b c (k * p.bytes) head held x
      (rw e (held_inside p k o.pixels o.one ends o.kind))
      (omega (arith, fits, length-order, head-bytes o.kind o.pixels o.one, e)) y)

-- ---- the length

module _ (p : Pixels) where
  -- a product that fits every number type
  pub small : (n : ℕ) → n ≤ 67108864 → n * p.bytes ≤ 201326592
  small n h = mul-le-mul h p.high

  pub stream-few : length (stream_in p) ≤ p.total * p.bytes + overhead p.bytes p.total
  unfolding encode
  stream-few =
      stream-bound (record { bytes = p.bytes; white = []; black = []; width = p.width; total = p.total }) p.src.now p.low

  pub stream_small : length (stream_in p) ≤ 268435460
  stream_small = omega (arith, stream-few, small p.total p.few, overhead-few p.bytes p.total, p.few)

  -- the bytes of the orders, as the code counts them
  abbrev pub counted : ℕ × Order → ℕ
  counted x = head_size x.1.pixels + pixels_held x.1.kind x.1.pixels * p.bytes

  abbrev pub sizes : List rule.Order → List ℕ
  sizes os = map (λ (o : rule.Order). length (order_bytes p.bytes o)) os

  pub sum-sizes : (os : List rule.Order) → sum_by (λ n. n) (sizes os) ≡ length (stream_of p.bytes os)
  unfolding stream_of
  sum-sizes [] = refl
  sum-sizes (o ∷ os) =
      sum_by-cons (λ n. n) (length (order_bytes p.bytes o)) (sizes os)
      ∙ omega (arith, sum-sizes os, length-append (order_bytes p.bytes o) (stream_of p.bytes os))

  -- the iterator gives the rule's orders, of which there are at most as many as pixels
  pub yields : (n : ℕ) (s : Orders) → s.pixels.now ≡ p → p.total ≤ s.k + n
      → AlwaysYields steps counted s (sizes (orders_from p.width (pixels_in p) n s.k (is_background s.before)))
  unfolding orders_from
  yields zero s over enough = λ x t given. absurd (omega (arith, rw over at given.inside, given.place))
  yields (suc n) s over enough =
      by_less s.k p.total
      (λ h.
      rw (lt-ltb s.k (length (pixels_in p)) (rw length-pixels_of h)) (
        (λ t end. absurd (omega (arith, rw over at end))),
        λ x t given.
            let y = step p s x.0 x.1 t over given in (
              sym (length-order p x.0 x.1 y.ends) ∙ ap (λ (o : rule.Order). length (order_bytes p.bytes o)) y.is,
              rw (y.place, y.background) (yields n t y.over (omega (arith, enough, given.place, given.rest.next, x.1.one))),
            ),
      ))
      (λ h.
      rw (le-ltb s.k (length (pixels_in p)) (rw length-pixels_of h))
      (λ x t given. absurd (omega (arith, rw over at given.inside, given.place))))

  pub sum-all : (s : Orders) → OrdersFrom p 0 ColorImage s
      → sum_by (λ n. n) (sizes (orders_from p.width (pixels_in p) p.total s.k (is_background s.before))) ≡ length (stream_in p)
  unfolding orders_of
  sum-all s x = rw (x.next, x.before, length-pixels_of) (sum-sizes (orders_from p.width (pixels_in p) p.total 0 false))

-- ---- the output so far

-- of the stream `whole` the first `at` bytes are written, and `rest` is still to come
pub record Begun (whole before now rest : List ℕ) (at : ℕ) : Type 0 where
  pub within : at ≤ length whole
  pub next : drop at whole ≡ rest
  pub is : now ≡ take at whole ++ drop at before

-- what of the output is not yet written, as the code borrows it
abbrev pub left : List ℕ → ℕ → List ℕ
left now at = take (length now - at) (drop at now)

module _ (whole before : List ℕ) (fits : length whole ≤ length before) where
  pub begun_length : (now rest : List ℕ) (at : ℕ) → Begun whole before now rest at → length now ≡ length before
  begun_length now rest at b =
      ap length b.is
      ∙ length-append (take at whole) (drop at before)
      ∙ rw (length-take-le at whole b.within, length-drop) (omega (arith, b.within))

  pub begun_all : (now : List ℕ) (at : ℕ) → Begun whole before now [] at → Writes whole before now at
  begun_all now at b =
      let all : at ≡ length whole = omega (arith, b.within, length-drop at whole, ap length b.next) in
      record { next = all; is = b.is ∙ rw all (ap (λ (l : List ℕ). l ++ drop (length whole) before) (take-length whole)) }

  module _ (now bytes rest : List ℕ) (at : ℕ) (b : Begun whole before now (bytes ++ rest) at) where
    begun_room : at + length bytes ≤ length whole
    begun_room = omega (arith, b.within, length-drop at whole, ap length b.next, length-append bytes rest)

    -- what is not yet written has room for more
    pub begun-left : length bytes ≤ length (left now at)
    begun-left = rw (take_rest, length-drop) (omega (arith, begun_length now (bytes ++ rest) at b, begun_room))

    pub begun_more : (end : List ℕ) (r : ℕ) → Writes bytes (left now at) end r → Begun whole before (put_mid at (length now - at) now end) rest (at + r)
    begun_more end r y =
        let x = rw take_rest at y in
        let front : length (take at whole) ≡ at = length-take-le at whole b.within in
        let kept : take at now ≡ take at whole = rw b.is (take_at (take at whole) (drop at before) at front) in
        let behind : drop (length bytes) (drop at now) ≡ drop (at + length bytes) before =
        ap (λ (l : List ℕ). drop (length bytes) l) (ap (λ (l : List ℕ). drop at l) b.is ∙ drop_at (take at whole) (drop at before) at front)
        ∙ drop-drop (length bytes) at before in
        let end_of : drop (length now - at) (drop at now) ≡ [] = drop_of_length-le (drop at now) (rw length-drop (omega arith)) in
        let written : take (at + length bytes) whole ≡ take at whole ++ bytes =
        take-add at (length bytes) whole ∙ rw b.next (ap (λ (l : List ℕ). take at whole ++ l) (take-append_seam bytes rest)) in
        record {
          within = rw x.next begun_room;
          next = rw x.next (sym (drop-drop (length bytes) at whole) ∙ rw b.next (drop-append_seam bytes rest));
          is = rw (end_of, append-nil, x.next, x.is, kept, behind, written) (sym (append_assoc (take at whole) bytes (drop (at + length bytes) before)));
        }

-- the order o at pixel k, where it and the rest are still to come
module _ (p : Pixels) (s : Orders) (k : ℕ) (o : Order) (t : Orders) (x : Step p s k o t) (before now : List ℕ) (at : ℕ)
    (fits : length (stream_in p) ≤ length before) (begun : Begun (stream_in p) before now (rest_of s) at) where
  begun_here : Begun (stream_in p) before now (bytes_for p k o ++ rest_of t) at
  begun_here = rw x.next at begun

  pub order-room : length (bytes_for p k o) ≤ length (left now at)
  order-room = begun-left (stream_in p) before fits now (bytes_for p k o) (rest_of t) at begun_here

  pub order_begun : (end : List ℕ) (r : ℕ) → Writes (bytes_for p k o) (left now at) end r
      → Begun (stream_in p) before (put_mid at (length now - at) now end) (rest_of t) (at + r)
  order_begun end r y = begun_more (stream_in p) before fits now (bytes_for p k o) (rest_of t) at begun_here end r y
