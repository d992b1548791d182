-- Laws of blocks: a block that is read whole before it is written, and may overlap the one before it, is a run. Assumes nothing.
use mathlib.Core.Path.{◌≡◌, refl, sym, ap, ◌∙◌}
use mathlib.Core.List.{List}
use Prim.Native.Nat.{ℕ, ◌+◌, ◌-◌, ◌≤◌, ◌<◌}
use native.Mathlib.Nat.{add_assoc}
use native.Mathlib.Omega.{arith}
use lib.ListN.{length, get_or}
use lib.Bits.{bit_xor}
use Rattle.byte_runs.specs.Runs.{run, xored, mixed, bytes}
use Rattle.byte_runs.proofs.Runs.{run_cong, run-before, Backward, run_over}

-- bytes read before the block is written are those read while it is, if they stand before it
pub loaded : (f : ℕ → ℕ → ℕ) (to from row n : ℕ) (l : List ℕ) → from + row ≡ to → n ≤ row
    → run (λ (x : List ℕ) (k : ℕ). f (get_or l (from + k) 0) k) to n l ≡ run (λ (x : List ℕ) (k : ℕ). f (get_or x (to + k - row) 0) k) to n l
loaded f to from row n l e h =
    let v : List ℕ → ℕ → ℕ = λ (x : List ℕ) (k : ℕ). f (get_or l (from + k) 0) k in
    run_cong v (λ (x : List ℕ) (k : ℕ). f (get_or x (to + k - row) 0) k) to n l
    (λ k q.
    let i : to + k - row ≡ from + k = omega arith in
    ap (λ (b : ℕ). f b k) (sym (run-before v to k (from + k) l (omega arith)) ∙ ap (λ (j : ℕ). get_or (run v to k l) j 0) (sym i)))

-- what is made of the byte a row back reads backward
pub backward_above : (f : ℕ → ℕ → ℕ) (at row : ℕ) → 0 < row → row ≤ at → Backward (λ (x : List ℕ) (k : ℕ). f (get_or x (at + k - row) 0) k) at
backward_above f at row h g x y k all = ap (λ (b : ℕ). f b k) (all (at + k - row) (omega arith))

-- BLOCK: one block of what is made of the byte a row back, read before it is written; it may overlap the run before it
pub back_block : (f : ℕ → ℕ → ℕ) (at row m i n len to from : ℕ) (new l l₀ : List ℕ) → to ≡ at + m → from + row ≡ to → m + n ≡ len
    → 0 < n → n ≤ row → row ≤ at → m ≤ i → i ≤ len → at + len ≤ length l₀
    → new ≡ run (λ (x : List ℕ) (k : ℕ). f (get_or l (from + k) 0) (m + k)) to n l
    → l ≡ run (λ (x : List ℕ) (k : ℕ). f (get_or x (at + k - row) 0) k) at i l₀
    → new ≡ run (λ (x : List ℕ) (k : ℕ). f (get_or x (at + k - row) 0) k) at len l₀
back_block f at row m i n len to from new l l₀ et ef en pos hn hr h g fits e r =
    let w : List ℕ → ℕ → ℕ = λ (x : List ℕ) (k : ℕ). f (get_or x (at + m + k - row) 0) (m + k) in
    let v : List ℕ → ℕ → ℕ = λ (x : List ℕ) (k : ℕ). f (get_or x (at + k - row) 0) k in
    e ∙ ap (λ (p : ℕ). run (λ (x : List ℕ) (k : ℕ). f (get_or l (from + k) 0) (m + k)) p n l) et
    ∙ loaded (λ (b k : ℕ). f b (m + k)) (at + m) from row n l (omega arith) hn
    ∙ ap (λ (x : List ℕ). run w (at + m) n x) r
    ∙ run_over v w at m i n l₀ (backward_above f at row (omega arith) hr) h (omega arith) (omega arith)
    (λ x k. ap (λ (j : ℕ). f (get_or x (j - row) 0) (m + k)) (add_assoc at m k))
    ∙ ap (λ (j : ℕ). run v at j l₀) en

-- the same for bytes that do not depend on the list; w are the block's, W the run's
pub bytes_block : (w W : ℕ → ℕ) (at m i n len to : ℕ) (new l l₀ : List ℕ) → ((k : ℕ) → k < n → w k ≡ W (m + k)) → to ≡ at + m → m + n ≡ len → m ≤ i → i ≤ len → at + len ≤ length l₀
    → new ≡ run (bytes w) to n l → l ≡ run (bytes W) at i l₀ → new ≡ run (bytes W) at len l₀
bytes_block w W at m i n len to new l l₀ ew et en h g fits e r =
    let u : List ℕ → ℕ → ℕ = λ (x : List ℕ) (k : ℕ). W (m + k) in
    e ∙ run_cong (bytes w) u to n l ew
    ∙ ap (λ (p : ℕ). run u p n l) et
    ∙ ap (λ (x : List ℕ). run u (at + m) n x) r
    ∙ run_over (bytes W) u at m i n l₀ (λ x y k a. refl) h (omega arith) (omega arith) (λ x k. refl)
    ∙ ap (λ (j : ℕ). run (bytes W) at j l₀) en

-- a block of exclusive-or, read first; w are the block's bytes, W the run's
pub mixed_block : (w W : ℕ → ℕ) (at row m i n len to from : ℕ) (new l l₀ : List ℕ) → ((k : ℕ) → k < n → w k ≡ W (m + k)) → to ≡ at + m → from + row ≡ to → m + n ≡ len
    → 0 < n → n ≤ row → row ≤ at → m ≤ i → i ≤ len → at + len ≤ length l₀
    → new ≡ run (mixed l from w) to n l → l ≡ run (xored at row W) at i l₀ → new ≡ run (xored at row W) at len l₀
mixed_block w W at row m i n len to from new l l₀ ew et ef en pos hn hr h g fits e r =
    back_block (λ (b k : ℕ). bit_xor b (W k)) at row m i n len to from new l l₀ et ef en pos hn hr h g fits
    (e ∙ run_cong (mixed l from w) (λ (x : List ℕ) (k : ℕ). bit_xor (get_or l (from + k) 0) (W (m + k))) to n l
    (λ k q. ap (λ (b : ℕ). bit_xor (get_or l (from + k) 0) b) (ew k q)))
    r
