-- Laws of runs of bytes: runs that follow each other, overlap, or change nothing. Assumes nothing.
use mathlib.Core.Path.{◌≡◌, refl, sym, ap, ◌∙◌}
use mathlib.Core.List.{List}
use Prim.Native.Nat.{ℕ, zero, suc, ◌+◌, ◌-◌, ◌≤◌, ◌<◌}
use native.Mathlib.Nat.{add-zero, add-suc, add_assoc}
use native.Mathlib.Omega.{arith}
use lib.Seq.{get_or-set_same, get_or-set_other, set-get_or}
use native.Mathlib.Numerals.{add-one}
use lib.ListN.{length, set, get_or, length-set}
use Rattle.byte_runs.specs.Runs.{run}

-- a turn's store is one byte more
pub run_more : (v : List ℕ → ℕ → ℕ) (at j : ℕ) (l l₀ : List ℕ) → l ≡ run v at j l₀ → set l (at + j) (v l j) ≡ run v at (j + 1) l₀
unfolding run
run_more v at j l l₀ e = ap (λ (m : List ℕ). set m (at + j) (v m j)) e ∙ ap (λ (n : ℕ). run v at n l₀) (sym (add-one j))

-- one store more, at a place and with a byte that equal the run's
pub store_more : (v : List ℕ → ℕ → ℕ) (at j p b : ℕ) (l l₀ : List ℕ) → p ≡ at + j → b ≡ v l j → l ≡ run v at j l₀ → set l p b ≡ run v at (j + 1) l₀
store_more v at j p b l l₀ ep eb e =
    ap (λ (q : ℕ). set l q b) ep ∙ ap (λ (x : ℕ). set l (at + j) x) eb ∙ run_more v at j l l₀ e

-- no byte yet
pub run_none : (v : List ℕ → ℕ → ℕ) (at n : ℕ) (l : List ℕ) → n ≡ 0 → l ≡ run v at n l
unfolding run
run_none v at n l e = ap (λ (j : ℕ). run v at j l) (sym e)

pub length_run : (v : List ℕ → ℕ → ℕ) (at n : ℕ) (l : List ℕ) → length (run v at n l) ≡ length l
unfolding run
length_run v at zero l = refl
length_run v at (suc n) l = length-set (run v at n l) (at + n) (v (run v at n l) n) ∙ length_run v at n l

-- m bytes and then n more are m + n
pub run-append : (v : List ℕ → ℕ → ℕ) (at m n : ℕ) (l : List ℕ) → run (λ (x : List ℕ) (k : ℕ). v x (m + k)) (at + m) n (run v at m l) ≡ run v at (m + n) l
unfolding run
run-append v at m zero l = ap (λ (n : ℕ). run v at n l) (sym (add-zero m))
run-append v at m (suc n) l =
    ap (λ (x : List ℕ). set x (at + m + n) (v x (m + n))) (run-append v at m n l)
    ∙ ap (λ (i : ℕ). set (run v at (m + n) l) i (v (run v at (m + n) l) (m + n))) (add_assoc at m n)
    ∙ ap (λ (k : ℕ). run v at k l) (sym (add-suc m n))

-- equal bytes, on the lists that the run passes through, make equal runs
pub run_cong : (v w : List ℕ → ℕ → ℕ) (at n : ℕ) (l : List ℕ) → ((k : ℕ) → k < n → v (run v at k l) k ≡ w (run v at k l) k) → run v at n l ≡ run w at n l
unfolding run
run_cong v w at zero l h = refl
run_cong v w at (suc n) l h =
    ap (λ (b : ℕ). set (run v at n l) (at + n) b) (h n (omega arith))
    ∙ ap (λ (x : List ℕ). set x (at + n) (w x n)) (run_cong v w at n l (λ k q. h k (omega arith)))

-- what stands before the run stays
pub run-before : (v : List ℕ → ℕ → ℕ) (at n i : ℕ) (l : List ℕ) → i < at → get_or (run v at n l) i 0 ≡ get_or l i 0
unfolding run
run-before v at zero i l h = refl
run-before v at (suc n) i l h =
    get_or-set_other (run v at n l) (at + n) i (v (run v at n l) n) 0 (λ (e : i ≡ at + n). omega arith) ∙ run-before v at n i l h

-- so does what stands behind it
pub run_behind : (v : List ℕ → ℕ → ℕ) (at n i : ℕ) (l : List ℕ) → at + n ≤ i → get_or (run v at n l) i 0 ≡ get_or l i 0
unfolding run
run_behind v at zero i l h = refl
run_behind v at (suc n) i l h =
    get_or-set_other (run v at n l) (at + n) i (v (run v at n l) n) 0 (λ (e : i ≡ at + n). omega arith) ∙ run_behind v at n i l (omega arith)

-- what is written stays
run_stays : (v : List ℕ → ℕ → ℕ) (at m n i : ℕ) (l : List ℕ) → i < at + m → get_or (run v at (m + n) l) i 0 ≡ get_or (run v at m l) i 0
run_stays v at m n i l h =
    ap (λ (x : List ℕ). get_or x i 0) (sym (run-append v at m n l))
    ∙ run-before (λ (x : List ℕ) (k : ℕ). v x (m + k)) (at + m) n i (run v at m l) h

-- v reads only what stands before the place that it is for
abbrev pub Backward : (List ℕ → ℕ → ℕ) → ℕ → Type 0
Backward v at = (x y : List ℕ) (k : ℕ) → ((i : ℕ) → i < at + k → get_or x i 0 ≡ get_or y i 0) → v x k ≡ v y k

-- each byte is its value, also on the finished list
pub run_settled : (v : List ℕ → ℕ → ℕ) (at n k : ℕ) (l : List ℕ) → Backward v at → k < n → at + n ≤ length l
    → get_or (run v at n l) (at + k) 0 ≡ v (run v at n l) k
unfolding run
run_settled v at n k l b h fits =
    let e : suc k + (n - suc k) ≡ n = omega arith in
    let f : k + (n - k) ≡ n = omega arith in
    let u : List ℕ = run v at k l in
    let lu : length u ≡ length l = length_run v at k l in
    ap (λ (m : ℕ). get_or (run v at m l) (at + k) 0) (sym e)
    ∙ run_stays v at (suc k) (n - suc k) (at + k) l (omega arith)
    ∙ get_or-set_same u (at + k) (v u k) 0 (omega arith)
    ∙ b u (run v at n l) k (λ i q. sym (run_stays v at k (n - k) i l q) ∙ ap (λ (m : ℕ). get_or (run v at m l) i 0) f)

-- a run whose bytes are there already changes nothing
pub run_idle : (w : List ℕ → ℕ → ℕ) (at n : ℕ) (l : List ℕ) → ((k : ℕ) → k < n → w l k ≡ get_or l (at + k) 0) → run w at n l ≡ l
unfolding run
run_idle w at zero l h = refl
run_idle w at (suc n) l h =
    ap (λ (x : List ℕ). set x (at + n) (w x n)) (run_idle w at n l (λ k q. h k (omega arith)))
    ∙ ap (λ (b : ℕ). set l (at + n) b) (h n (omega arith))
    ∙ set-get_or l (at + n) 0

-- AGAIN: the last n of m + n bytes once more change nothing
run_again : (v : List ℕ → ℕ → ℕ) (at m n : ℕ) (l : List ℕ) → Backward v at → at + (m + n) ≤ length l
    → run (λ (x : List ℕ) (k : ℕ). v x (m + k)) (at + m) n (run v at (m + n) l) ≡ run v at (m + n) l
run_again v at m n l b fits =
    run_idle (λ (x : List ℕ) (k : ℕ). v x (m + k)) (at + m) n (run v at (m + n) l)
    (λ k q. sym (run_settled v at (m + n) (m + k) l b (omega arith) fits) ∙ ap (λ (i : ℕ). get_or (run v at (m + n) l) i 0) (sym (add_assoc at m k)))

-- OVER: a block of n from m on, over a run of i that reaches into it, makes a run of m + n
pub run_over : (v w : List ℕ → ℕ → ℕ) (at m i n : ℕ) (l : List ℕ) → Backward v at → m ≤ i → i ≤ m + n → at + (m + n) ≤ length l
    → ((x : List ℕ) (k : ℕ) → w x k ≡ v x (m + k))
    → run w (at + m) n (run v at i l) ≡ run v at (m + n) l
run_over v w at m i n l b h g fits same =
    let p : ℕ = i - m in
    let q : ℕ = m + n - i in
    let ep : m + (i - m) ≡ i = omega arith in
    let en : i - m + (m + n - i) ≡ n = omega arith in
    let ei : i + (m + n - i) ≡ m + n = omega arith in
    let ea : at + m + (i - m) ≡ at + i = omega arith in
    let s : List ℕ → ℕ → ℕ = λ (x : List ℕ) (k : ℕ). v x (m + k) in
    let idle : run s (at + m) (i - m) (run v at i l) ≡ run v at i l =
    ap (λ (j : ℕ). run s (at + m) (i - m) (run v at j l)) (sym ep) ∙ run_again v at m (i - m) l b (omega arith) ∙ ap (λ (j : ℕ). run v at j l) ep in
    run_cong w s (at + m) n (run v at i l) (λ k z. same (run w (at + m) k (run v at i l)) k)
    ∙ ap (λ (j : ℕ). run s (at + m) j (run v at i l)) (sym en)
    ∙ sym (run-append s (at + m) (i - m) (m + n - i) (run v at i l))
    ∙ ap (λ (x : List ℕ). run (λ (y : List ℕ) (k : ℕ). s y (i - m + k)) (at + m + (i - m)) (m + n - i) x) idle
    ∙ ap (λ (a : ℕ). run (λ (y : List ℕ) (k : ℕ). s y (i - m + k)) a (m + n - i) (run v at i l)) ea
    ∙ run_cong (λ (y : List ℕ) (k : ℕ). v y (m + (i - m + k))) (λ (y : List ℕ) (k : ℕ). v y (i + k)) (at + i) (m + n - i) (run v at i l)
    (λ k z.
    let y : List ℕ = run (λ (y : List ℕ) (k : ℕ). v y (m + (i - m + k))) (at + i) k (run v at i l) in
    ap (λ (j : ℕ). v y j) (sym (add_assoc m (i - m) k) ∙ ap (λ (j : ℕ). j + k) ep))
    ∙ run-append v at i (m + n - i) l
    ∙ ap (λ (j : ℕ). run v at j l) ei
