-- Laws of bytes written to the front of the output: stored one by one, and followed by a copy. Assumes nothing.
use mathlib.Core.Path.{◌≡◌, refl, ap, sym, ◌∙◌}
use mathlib.Core.List.{List, [], ◌∷◌, ◌++◌}
use Prim.Native.Nat.{ℕ, zero, suc, ◌+◌, ◌≤◌}
use native.Mathlib.Omega.{arith}
use lib.ListN.{length, take, drop, set, length-append, length-drop}
use lib.Seq.{paste, paste-zero, paste-suc, get_or-drop, length-take-le, take-append_seam, drop-append_seam, drop-drop}
use borrow.Author.Tests.{le-leb}
use Rattle.byte_runs.specs.Runs.{run, run_where, both, there, taken}
use Rattle.encode.specs.Writing.{Writes}

-- ---- stored

pub one-stored : (bytes l : List ℕ) (x : ℕ) → length bytes ≤ length l → bytes ≡ x ∷ [] → Writes bytes l (set l 0 x) 1
one-stored bytes [] x fits e = absurd (omega (arith, ap length e))
one-stored bytes (a ∷ l) x fits e = rw e (record { next = refl; is = refl })

pub two_stored : (bytes l : List ℕ) (x y : ℕ) → length bytes ≤ length l → bytes ≡ x ∷ y ∷ [] → Writes bytes l (set (set l 0 x) 1 y) 2
two_stored bytes [] x y fits e = absurd (omega (arith, ap length e))
two_stored bytes (a ∷ []) x y fits e = absurd (omega (arith, ap length e))
two_stored bytes (a ∷ b ∷ l) x y fits e = rw e (record { next = refl; is = refl })

pub three_stored : (bytes l : List ℕ) (x y z : ℕ) → length bytes ≤ length l → bytes ≡ x ∷ y ∷ z ∷ []
    → Writes bytes l (set (set (set l 0 x) 1 y) 2 z) 3
three_stored bytes [] x y z fits e = absurd (omega (arith, ap length e))
three_stored bytes (a ∷ []) x y z fits e = absurd (omega (arith, ap length e))
three_stored bytes (a ∷ b ∷ []) x y z fits e = absurd (omega (arith, ap length e))
three_stored bytes (a ∷ b ∷ c ∷ l) x y z fits e = rw e (record { next = refl; is = refl })

-- writing leaves the length
pub length-written : (bytes a b : List ℕ) (r : ℕ) → Writes bytes a b r → length bytes ≤ length a → length b ≡ length a
length-written bytes a b r x fits =
    ap length x.is ∙ length-append bytes (drop (length bytes) a) ∙ rw length-drop (omega arith)

-- ---- and copied

run_pastes : (s l : List ℕ) (from at n : ℕ) → from + n ≤ length s → at + n ≤ length l → run (taken s from) at n l ≡ paste l at (drop from s) n
unfolding run
run_pastes s l from at zero h b = paste-zero l at (drop from s)
run_pastes s l from at (suc n) h b =
    rw (run_pastes s l from at n (omega arith) (omega arith), ← get_or-drop from s n 0)
    (paste-suc l at (drop from s) n 0 (omega arith) (rw length-drop (omega arith)))

-- xs is written, and n bytes of s from a place on are copied behind it
pub then_copied : (xs s a b c : List ℕ) (from at n : ℕ) → Writes xs a b at → from + n ≤ length s → length xs + n ≤ length a
    → c ≡ run_where (both (there from n s) (there at n b)) (taken s from) at n b → Writes (xs ++ take n (drop from s)) a c (at + n)
then_copied xs s a b c from at n x h fits e =
    let room : at + n ≤ length b = omega (arith, length-written xs a b at x (omega arith), x.next) in
    let m : length (take n (drop from s)) ≡ n = length-take-le n (drop from s) (rw length-drop (omega arith)) in
    let pasted : c ≡ take at b ++ take n (drop from s) ++ drop (at + n) b =
    rw (e, le-leb (from + n) (length s) h, le-leb (at + n) (length b) room) (run_pastes s b from at n h room) in
    let long : length (xs ++ take n (drop from s)) ≡ at + n = rw (length-append, m) (omega (arith, x.next)) in
    let kept : take at b ≡ xs = rw (x.is, x.next) (take-append_seam xs (drop (length xs) a)) in
    let behind : drop (at + n) b ≡ drop (at + n) a =
    sym (drop-drop n at b) ∙ rw (x.is, x.next) (ap (λ (l : List ℕ). drop n l) (drop-append_seam xs (drop (length xs) a)) ∙ drop-drop n (length xs) a) in
    record { next = sym long; is = pasted ∙ rw (kept, behind, long) }
