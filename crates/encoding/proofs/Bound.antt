-- The stream of every picture is at most as long as `bound` says. Assumes nothing.
use mathlib.Core.Path.{◌≡◌, refl, ap, sym}
use mathlib.Core.List.{List, ◌∷◌, ◌++◌}
use mathlib.Core.Bool.{Bool, true, false}
use Prim.Native.Nat.{ℕ, zero, suc, ◌+◌, ◌-◌, ◌*◌, ◌/◌, ◌%◌, ◌≤◌, ◌<◌}
use native.Mathlib.Nat.{sub-zero, mul-le-mul_left}
use native.Mathlib.Decide.{dec_lt, dec_le}
use native.Mathlib.Omega.{arith}
use lib.ListN.{length, take, drop, length-append, length-take}
use borrow.Author.Tests.{le-ltb, lt-ltb, ne_eqb}
use Rattle.base.proofs.Tests.{clash}
use Rattle.picture.specs.Pixels.{Pixel, pixels_of, bytes_of}
use Rattle.picture.specs.Sizes.{Frame, depth_of, accepted, accept, checked, size_of}
use Rattle.picture.proofs.Depths.{depth_good}
use Rattle.picture.proofs.Sizes.{sized}
use Rattle.picture.proofs.Pixels.{length-pixels_of, bytes_le}
use Rattle.definition.specs.Codes.{kind_row}
use Rattle.encoding.specs.Heads.{head_bytes}
use Rattle.encoding.specs.Encode.{pixel, most, Start, background, color, none, start_at, is_none, image_at, Order, pixels_in, is_bg_run, order_of, order_at, orders_from, orders_of, order_bytes, stream_of, encode}
use Rattle.encoding.specs.Bound.{head_size, overhead, bound_of, bound}
use Rattle.encoding.proofs.HeadLengths.{background-kind, color-kind, image-kind, by_head, head-length, head-most}
use Rattle.encoding.proofs.Choices.{Chosen, as_background, as_color, as_none, start_chosen, image-one, image_le, image-stops, image-length}

-- ---- the numbers

-- m pixels of D bytes are to have at most m * D + more m bytes, and at most m * D + less m where a run starts them or they are none
record Covers (D : ℕ) (more less : ℕ → ℕ) : Type 0 where
  -- a run of n pixels, and any m pixels after it
  run : (n m : ℕ) → 3 ≤ n → head_size n + D + more m ≤ n * D + less (n + m)
  -- an image, and m pixels that a run starts, or none
  image : (n m : ℕ) → 1 ≤ n → n ≤ 65535 → head_size n + less m ≤ more (n + m)
  -- the longest image, and any m pixels
  full : (m : ℕ) → 3 + more m ≤ more (65535 + m)
  weaker : (m : ℕ) → less m ≤ more m

-- with the one byte of its color, a run is still shorter than its pixels
head-run : (n : ℕ) → 3 ≤ n → head_size n + 2 ≤ n
head-run n h = by_head (λ x. x + 2 ≤ n) n (λ e. omega arith) (λ a b. omega arith) (λ a b. omega arith) (λ a. omega arith)

-- with one byte a pixel
covers_one : Covers 1 (overhead 1) (λ m. m / 35)
unfolding overhead
covers_one =
    record {
      run = λ n m h. omega (arith, head-run n h);
      image = λ n m a b. by_head (λ x. x + m / 35 ≤ overhead 1 (n + m)) n
          (λ e. omega arith) (λ c d. omega arith) (λ c d. omega arith) (λ c. omega arith);
      full = λ m. omega arith;
      weaker = λ m. omega arith;
    }

-- with two or more: images alone
head_mono : (m n : ℕ) → m ≤ n → head_size m ≤ head_size n
head_mono m n h =
    by_head (λ x. x ≤ head_size n) m (λ e. omega arith)
    (λ a b. by_head (λ x. 1 ≤ x) n (λ e. omega arith) (λ c d. omega arith) (λ c d. omega arith) (λ c. omega arith))
    (λ a b. by_head (λ x. 2 ≤ x) n (λ e. omega arith) (λ c d. omega arith) (λ c d. omega arith) (λ c. omega arith))
    (λ a. by_head (λ x. 3 ≤ x) n (λ e. omega arith) (λ c d. omega arith) (λ c d. omega arith) (λ c. omega arith))

over_mono : (m n : ℕ) → m ≤ n → overhead 2 m ≤ overhead 2 n
unfolding overhead
over_mono m n h =
    elim (dec_lt (m / 65535) (n / 65535)) [
      | yes a ↦ omega (arith, head-most (m % 65535))
      | no a ↦ omega (arith, head_mono (m % 65535) (n % 65535) (omega arith))
    ]

over_alone : (n : ℕ) → 1 ≤ n → n ≤ 65535 → head_size n ≤ overhead 2 n
unfolding overhead
over_alone n a b =
    elim (dec_lt n 65535) [
      | yes c ↦
          let e : n % 65535 ≡ n = omega arith in
          rw e (omega arith)
      | no c ↦ omega (arith, head-most n)
    ]

over_full : (m : ℕ) → 3 + overhead 2 m ≤ overhead 2 (65535 + m)
unfolding overhead
over_full m =
    let e : (65535 + m) % 65535 ≡ m % 65535 = omega arith in
    rw e (omega arith)

covers_more : (D : ℕ) → 2 ≤ D → Covers D (overhead 2) (λ m. overhead 2 m - 3)
covers_more D h =
    record {
      run = λ n m a. omega (arith, over_mono m (n + m) (omega arith), saved n a);
      image = λ n m a b. omega (arith, head-most n, over_mono m (n + m) (omega arith), over_mono n (n + m) (omega arith), over_alone n a b);
      full = over_full;
      weaker = λ m. omega arith;
    }
  where
    saved : (n : ℕ) → 3 ≤ n → head_size n + D + 3 ≤ n * D
    saved zero a = absurd (omega arith)
    saved (suc n) a = omega (arith, head-run (suc n) a, mul-le-mul_left {m = 2} {n = D} n h)

-- ---- all orders

module _ (D w : ℕ) (ps : List Pixel) (more less : ℕ → ℕ) (covers : Covers D more less) where
  abbrev left : ℕ → ℕ
  left k = length ps - k

  -- the bytes of the orders from pixel k on, n orders at the most
  abbrev bytes_from : ℕ → ℕ → Bool → ℕ
  bytes_from n k after = length (stream_of D (orders_from w ps n k after))

  -- the two bounds at pixel k
  record Bounded (n k : ℕ) : Type 0 where
    any : (after : Bool) → bytes_from n k after ≤ left k * D + more (left k)
    starting : (k < length ps → is_none (start_at w ps k false) ≡ false) → bytes_from n k false ≤ left k * D + less (left k)

  module _ (n k : ℕ) (inside : k < length ps) (next : (j : ℕ) → Bounded n j) where
    -- a run of m pixels, in x bytes
    run-bounded : (m x : ℕ) (after : Bool) → 3 ≤ m → m ≤ most ps k → x ≤ head_size m + D
        → x + bytes_from n (k + m) after ≤ left k * D + less (left k)
    run-bounded m x after a b c =
        let e : left k ≡ m + left (k + m) = omega arith in
        rw e (omega (arith, covers.run m (left (k + m)) a, (next (k + m)).any after))

    -- an image of m pixels, in x bytes
    image_bounded : (m x : ℕ) → 1 ≤ m → m ≤ most ps k → (m < most ps k → is_none (start_at w ps (k + m) false) ≡ false)
        → x ≤ head_size m + m * D → x + bytes_from n (k + m) false ≤ left k * D + more (left k)
    image_bounded m x a b stops c =
        let e : left k ≡ m + left (k + m) = omega arith in
        rw e
        (elim (dec_lt m 65535) [
          | yes f ↦ omega (arith, covers.image m (left (k + m)) a (omega arith), (next (k + m)).starting (λ g. stops (omega arith)))
          | no f ↦
              let g : m ≡ 65535 = omega arith in
              omega (arith, rw (← g) at (covers.full (left (k + m))), head-most m, (next (k + m)).any false)
        ])

    -- the order at k that a start comes to, and those after it
    from_start_lem : Start → List Order
    from_start_lem t = order_of w ps k t ∷ orders_from w ps n (k + pixels_in (order_of w ps k t)) (is_bg_run (order_of w ps k t))

    run_starts : (t : Start) → Chosen (most ps k) t → is_none t ≡ false → length (stream_of D (from_start_lem t)) ≤ left k * D + less (left k)
    unfolding from_start_lem stream_of order_bytes order_of pixels_in is_bg_run is_none
    run_starts t (as_background {n = m} a b) i =
        rw length-append (run-bounded m _ true a b (omega (arith, head-length 0 m background-kind (omega arith))))
    run_starts t (as_color {n = m} a b) i =
        rw length-append
        (run-bounded m _ false a b
        (omega (
          arith,
          length-append (head_bytes (kind_row 3) m) (take D (pixel ps k)),
          length-take D (pixel ps k),
          head-length 3 m color-kind (omega arith),
        )))
    run_starts t as_none i = clash refl i

    image_starts : length (stream_of D (from_start_lem none)) ≤ left k * D + more (left k)
    unfolding from_start_lem stream_of order_bytes order_of pixels_in is_bg_run
    image_starts =
        let m = image_at w ps k in
        let qs = take m (drop k ps) in
        let l = image-length w ps k inside in
        let one = image-one w ps k in
        rw (length-append (head_bytes (kind_row 4) (length qs) ++ bytes_of D qs), l)
        (image_bounded m _ one (image_le w ps k inside) (image-stops w ps k inside)
        (omega (arith, length-append (head_bytes (kind_row 4) m) (bytes_of D qs), rw l at (bytes_le D qs), head-length 4 m image-kind one)))

    order_starts : (t : Start) → Chosen (most ps k) t → length (stream_of D (from_start_lem t)) ≤ left k * D + more (left k)
    unfolding is_none
    order_starts t (as_background {n = m} a b) =
        omega (arith, run_starts (background m) (as_background a b) refl, covers.weaker (left k))
    order_starts t (as_color {n = m} a b) = omega (arith, run_starts (color m) (as_color a b) refl, covers.weaker (left k))
    order_starts t as_none = image_starts

  bounded : (n k : ℕ) → Bounded n k
  unfolding orders_from order_at stream_of from_start_lem
  bounded zero k = record { any = λ after. omega arith; starting = λ s. omega arith }
  bounded (suc n) k =
      elim (dec_lt k (length ps)) [
        | yes h ↦
            let go = lt-ltb k (length ps) h in
            record {
              any = λ after. rw go (order_starts n k h (bounded n) (start_at w ps k after) (start_chosen w ps k after));
              starting = λ s. rw go (run_starts n k h (bounded n) (start_at w ps k false) (start_chosen w ps k false) (s h));
            }
        | no h ↦
            let end = le-ltb k (length ps) (omega arith) in
            record { any = λ after. rw end (omega arith); starting = λ s. rw end (omega arith) }
      ]

  -- the whole stream
  covered : length (stream_of D (orders_of w ps)) ≤ length ps * D + more (length ps)
  unfolding orders_of
  covered = rw sub-zero at ((bounded (length ps) 0).any false)

stream_covered : (D w : ℕ) (ps : List Pixel) → 1 ≤ D → length (stream_of D (orders_of w ps)) ≤ length ps * D + overhead D (length ps)
unfolding overhead
stream_covered D w ps low =
    elim (dec_le D 1) [
      | yes h ↦
          let e : D ≡ 1 = omega arith in
          rw e (covered 1 w ps (overhead 1) (λ m. m / 35) covers_one)
      | no h ↦ rw (ne_eqb D 1 (λ e. omega arith)) (covered D w ps (overhead 2) (λ m. overhead 2 m - 3) (covers_more D (omega arith)))
    ]

pub stream-bound : (f : Frame) (bytes : List ℕ) → 1 ≤ f.bytes
    → length (encode f bytes) ≤ f.total * f.bytes + overhead f.bytes f.total
unfolding encode
stream-bound f bytes low =
    rw length-pixels_of at (stream_covered f.bytes f.width (pixels_of f.bytes f.total bytes) low)

pub bound_holds : (bpp w h k : ℕ) (f : Frame) (bytes : List ℕ) → checked bpp w h ≡ accepted f k → length (encode f bytes) ≤ bound bpp w h
unfolding bound bound_of accept size_of
bound_holds bpp w h k f bytes is =
    let s = sized bpp w h (f.total * f.bytes) (sym (ap size_of is)) in
    let e : f.bytes ≡ (depth_of bpp).bytes = cc s.checks in
    rw is (stream-bound f bytes (rw e (depth_good bpp s.known).low))
