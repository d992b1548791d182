-- Bounds of the definition: orders completed are at most the pixels painted, and those at most 26,214 for each byte of the stream.
-- By a potential, 26,214 for each byte left and one for each pixel painted, that no order's plan raises. Assumes nothing.
use mathlib.Core.Path.{◌≡◌}
use mathlib.Core.List.{List, [], ◌∷◌}
use Prim.Native.Nat.{ℕ, zero, suc, ◌+◌, ◌*◌, ◌-◌, ◌≤◌, ◌<◌, zero-le}
use native.Mathlib.Omega.{arith}
use lib.Dec.{leb, eqb}
use lib.ListN.{length, get_or, drop, length-drop}
use lib.Seq.{get_or-drop}
use borrow.Author.Tests.{leb-true, eqb-false}
use Rattle.picture.specs.Sizes.{Refusal, Frame}
use Rattle.base.proofs.Tests.{by_test}
use Rattle.definition.specs.Orders.{Kind, BgRun, FgRun, FgBgImage, ColorRun, ColorImage, SetFgRun, SetFgBgImage, DitheredRun, SpecialFgBg1, SpecialFgBg2, White, Black, NoOrder, Place, nowhere, in_header, in_byte, in_two_bytes, row_of, place_of, own_length, mega_of, RunLength, run_length, refused, with_bytes, mega_length, mega_mega_length, length_at, length_of, headed, head_of}
use Rattle.definition.specs.Decode.{State, start, Run, ended, paused, refused, at_end, then_run, run}
use Rattle.definition.specs.Plan.{Ending, complete, refused, Counts, behind, with_operands, run_counts, image_counts, counts_of, progress_of, plan_by, plan_from, past_first_row, plan_of, end_with, plan_state, plan_step}
use Rattle.definition.specs.Codes.{kind_number}
use Rattle.definition.proofs.Painting.{length-paint}
use Rattle.definition.proofs.Headers.{Tested, tested, mega_range}
use Rattle.definition.proofs.Masks.{image-most}
use Rattle.definition.proofs.Planned.{Within, orders-few, refused_none, kind-within, step_planned}

-- ---- counts

-- the bytes that c reads and k before them pay for its pixels
record Paid (k : ℕ) (c : Counts) : Type 0 where
  most : c.pixels ≤ 26214 * (k + c.read)

run_paid : (D n R : ℕ) {k : ℕ} → n ≤ 26214 * k → Paid k (run_counts D n R)
unfolding run_counts
run_paid D n R {k} h =
    by_test (λ (c : Counts). Paid k c) (leb n R) (λ _. record { most = omega arith }) (λ _. record { most = omega arith })

image_paid : (D n a R : ℕ) {k : ℕ} → n ≤ 26214 * k → Paid k (image_counts D n a R)
image_paid D n a R h = record { most = omega (arith, image-most D n a R) }

behind_paid : (d a : ℕ) {k : ℕ} {c : Counts} → Paid (k + d) c → Paid k (with_operands d a c)
unfolding with_operands behind
behind_paid d a {k} h =
    by_test (λ (c : Counts). Paid k c) (leb d a) (λ _. record { most = omega (arith, h.most) }) (λ _. record { most = omega arith })

-- an order of n pixels whose header and run length are k bytes; a dithered run has twice the pixels, and two operands
module _ (D n a R k : ℕ) (low : 1 ≤ D) (most : n ≤ 21845 * k) (few : k ≤ 3) where
  kind_paid : (c : Kind) → Paid k (counts_of D c n a R)
  unfolding counts_of
  kind_paid BgRun = run_paid D n R (omega arith)
  kind_paid FgRun = run_paid D n R (omega arith)
  kind_paid FgBgImage = image_paid D n a R (omega arith)
  kind_paid ColorRun = behind_paid D a (run_paid D n R (omega arith))
  kind_paid ColorImage = behind_paid (n * D) a (run_paid D n R (omega arith))
  kind_paid SetFgRun = behind_paid D a (run_paid D n R (omega arith))
  kind_paid SetFgBgImage = behind_paid D a (image_paid D n (a - D) R (omega arith))
  kind_paid DitheredRun = behind_paid (2 * D) a (run_paid D (n * 2) R (omega arith))
  kind_paid SpecialFgBg1 = run_paid D n R (omega arith)
  kind_paid SpecialFgBg2 = run_paid D n R (omega arith)
  kind_paid White = run_paid D n R (omega arith)
  kind_paid Black = run_paid D n R (omega arith)
  kind_paid NoOrder = record { most = omega arith }

-- ---- run lengths

-- the bytes of a stream
abbrev pub Bytes : List ℕ → Type 0
Bytes l = (i : ℕ) → get_or l i 0 < 256

pub bytes_drop : (k : ℕ) (l : List ℕ) → Bytes l → Bytes (drop k l)
bytes_drop k l h i = rw get_or-drop (h (k + i))

-- a run length behind the first k bytes of l
pub data Read (l : List ℕ) : RunLength → Type 0 where
  read : (k n : ℕ) → k ≤ length l → k ≤ 3 → 1 ≤ n → n ≤ 21845 * k → Read l (run_length n (drop k l))
  unread : {r : Refusal} (k : ℕ) → k ≤ length l → Read l (refused r (drop k l))

module _ (h : ℕ) (rest : List ℕ) (octets : Bytes (h ∷ rest)) where
  with_bytes_lem : (k : ℕ) {x : RunLength} → (k ≤ length rest → Read (h ∷ rest) x) → Read (h ∷ rest) (with_bytes k rest x)
  unfolding with_bytes
  with_bytes_lem k go =
      by_test (λ (x : RunLength). Read (h ∷ rest) x) (leb k (length rest)) (λ e. go (leb-true k (length rest) e)) (λ e. unread 1 (omega arith))

  place_read : (p : Place) (n mega : ℕ) → Tested p h n mega → Read (h ∷ rest) (length_at p n mega rest)
  unfolding length_at mega_length mega_mega_length
  place_read nowhere n mega t = read 1 n (omega arith) (omega arith) t.0 (omega (arith, t.1))
  place_read in_header n mega t = read 1 n (omega arith) (omega arith) t.0 (omega (arith, t.1))
  place_read in_byte n mega t =
      with_bytes_lem 1
      (λ some.
      let range = mega_range (kind_number h) in
      read 2 (get_or rest 0 0 + mega) (omega arith) (omega arith) (omega (arith, t.1, range.0)) (omega (arith, t.1, range.1, octets 1)))
  place_read in_two_bytes n mega t =
      with_bytes_lem 2
      (λ some.
      by_test (λ (x : RunLength). Read (h ∷ rest) x) (eqb (get_or rest 0 0 + get_or rest 1 0 * 256) 0) (λ e. unread 3 (omega arith))
      (λ e.
      let nonzero : get_or rest 0 0 + get_or rest 1 0 * 256 ≡ 0 → ⊥ = eqb-false _ 0 e in
      read 3 (get_or rest 0 0 + get_or rest 1 0 * 256) (omega arith) (omega arith) (omega arith) (omega (arith, octets 1, octets 2))))

pub length-read : (l : List ℕ) → 1 ≤ length l → Bytes l → Read l (length_of (row_of (get_or l 0 0)) (get_or l 0 0) (drop 1 l))
unfolding length_of
length-read [] some octets = absurd (omega arith)
length-read (h ∷ rest) some octets =
    place_read h rest octets (place_of (row_of h) h) (own_length h (row_of h).size (row_of h).lengths) (mega_of (row_of h).lengths) (tested h (octets 0))

-- ---- one order

-- what holds between orders: N pays for the pixels painted and the bytes left
record Bounded (N : ℕ) (s : State) : Type 0 where
  counted : s.orders ≤ length s.painted
  paid : length s.painted + 26214 * length s.left ≤ N
  octets : Bytes s.left

-- the state that a run leaves
abbrev pub last : Run → State
last (ended s) = s
last (paused s) = s
last (refused r s) = s

module _ (f : Frame) (low : 1 ≤ f.bytes) (N : ℕ) where
  -- the counts c behind j bytes
  counts-bounded : (s : State) (h n j : ℕ) (k : Kind) (c : Counts) {R : ℕ} → Bounded N s → j ≤ length s.left → Within (length (drop j s.left)) R c
      → Paid j c → Bounded N (plan_state f s (plan_by h k n (drop j s.left) (past_first_row f (progress_of s)) c))
  unfolding plan_state plan_by past_first_row progress_of
  counts-bounded s h n j k c b there w p =
      record {
        counted = rw length-paint (orders-few c.ending b.counted w.some);
        paid = simp (length-paint, length-drop) (omega (arith, length-drop j s.left, w.read, p.most, b.paid));
        octets = bytes_drop c.read (drop j s.left) (bytes_drop j s.left b.octets);
      }

  read-bounded : (s : State) (h : ℕ) (k : Kind) {x : RunLength} → Bounded N s → Read s.left x
      → Bounded N (plan_state f s (plan_from f h (past_first_row f (progress_of s)) (headed k x)))
  unfolding plan_from headed
  read-bounded s h k b (read j n there few some most) =
      counts-bounded s h n j k _ b there (kind-within f.bytes k n _ _ some) (kind_paid f.bytes n _ _ j low most few k)
  read-bounded s h k b (unread j there) =
      counts-bounded s h 0 j NoOrder _ {R = 0} b there (record { read = omega arith; pixels = omega arith; some = refused_none })
      (record { most = omega arith })

  -- ---- the whole stream

  at_end_lem : {s : State} (l : List ℕ) (x : Run) → Bounded N s → (1 ≤ length l → Bounded N (last x)) → Bounded N (last (at_end l (ended s) x))
  unfolding at_end
  at_end_lem [] x b go = b
  at_end_lem (h ∷ rest) x b go = go (omega arith)

  end_bounded : (go : State → Run) → ((t : State) → Bounded N t → Bounded N (last (go t))) → (e : Ending) {s : State} → Bounded N s
      → Bounded N (last (then_run go (end_with e s)))
  unfolding then_run end_with
  end_bounded go next complete b = next _ b
  end_bounded go next (refused r) b = b

  run-bounded : (n : ℕ) (s : State) → Bounded N s → Bounded N (last (run f n s))
  unfolding run plan_step plan_of head_of progress_of
  run-bounded zero s b = at_end_lem s.left _ b (λ _. b)
  run-bounded (suc n) s b =
      at_end_lem s.left _ b
      (λ some. rw step_planned (end_bounded (run f n) (run-bounded n) _ (read-bounded s _ _ b (length-read s.left some b.octets))))

-- however many orders from the start: those completed are at most the pixels painted, and those at most 26,214 for each byte of the stream
pub start_bounds : (f : Frame) (n : ℕ) (stream : List ℕ) → 1 ≤ f.bytes → Bytes stream
    → let t = last (run f n (start f stream)) in (t.orders ≤ length t.painted) × (length t.painted ≤ 26214 * length stream)
unfolding start
start_bounds f n stream low octets =
    let b = run-bounded f low (26214 * length stream) n (start f stream)
    (record { counted = zero-le; paid = omega arith; octets = octets }) in
    (b.counted, omega (arith, b.paid))
