-- Laws of a pixel's bytes, over and over, and of runs of pixels with the row above or without. Assumes nothing.
use mathlib.Core.Path.{◌≡◌, ap, ◌∙◌}
use mathlib.Core.List.{List}
use mathlib.Core.Bool.{true}
use Rattle.std.specs.Prelude.{Option, None, Some}
use Prim.Native.Nat.{ℕ, ◌+◌, ◌-◌, ◌*◌, ◌≤◌, ◌<◌}
use native.Mathlib.Nat.{add_assoc, mod-eq_of_lt, mul-add-mod_self_right}
use native.Mathlib.Omega.{arith}
use borrow.Author.Tests.{leb-true}
use lib.ListN.{get_or}
use lib.Bits.{bit_xor, xor_zero_l}
use Rattle.byte_runs.specs.Runs.{run, listed, xored, mixed, bytes, turn, byte_back, row_there, row_holds, row_bytes}
use Rattle.byte_runs.proofs.Blocks.{loaded}
use Rattle.byte_runs.proofs.Runs.{run-append, run_cong}

-- byte i of a pattern, after j of them
pub turn_byte : (d j i : ℕ) (p : List ℕ) → i < d → turn p d (j * d + i) ≡ get_or p i 0
turn_byte d j i p h = ap (λ (m : ℕ). get_or p m 0) (mul-add-mod_self_right j d i ∙ mod-eq_of_lt h)

-- a byte exclusive-or the one so many places back
pub row_byte : (back : Option ℕ) (w : ℕ → ℕ) (at j a b : ℕ) (l : List ℕ) → a ≡ byte_back back (at + j) l → b ≡ w j → bit_xor a b ≡ row_bytes back at w l j
row_byte None w at j a b l ea eb = ap (λ (x : ℕ). bit_xor x b) ea ∙ xor_zero_l b ∙ eb
row_byte (Some row) w at j a b l ea eb = ap (λ (x : ℕ). bit_xor x b) ea ∙ ap (λ (x : ℕ). bit_xor (get_or l (at + j - row) 0) x) eb

-- equal bytes make equal runs
pub row_cong : (back : Option ℕ) (w W : ℕ → ℕ) (at n : ℕ) (l : List ℕ) → ((k : ℕ) → k < n → w k ≡ W k)
    → run (row_bytes back at w) at n l ≡ run (row_bytes back at W) at n l
row_cong None w W at n l e = run_cong (bytes w) (bytes W) at n l (λ k h. e k h)
row_cong (Some row) w W at n l e =
    run_cong (xored at row w) (xored at row W) at n l (λ k h. ap (λ (b : ℕ). bit_xor (get_or (run (xored at row w) at k l) (at + k - row) 0) b) (e k h))

-- m bytes and then n more, at a place of their own
row_append : (back : Option ℕ) (W : ℕ → ℕ) (at m n : ℕ) (l : List ℕ)
    → run (row_bytes back (at + m) (λ (k : ℕ). W (m + k))) (at + m) n (run (row_bytes back at W) at m l) ≡ run (row_bytes back at W) at (m + n) l
row_append None W at m n l = run-append (bytes W) at m n l
row_append (Some row) W at m n l =
    let v : List ℕ → ℕ → ℕ = xored (at + m) row (λ (k : ℕ). W (m + k)) in
    let first : List ℕ = run (xored at row W) at m l in
    run_cong v (λ (x : List ℕ) (k : ℕ). xored at row W x (m + k)) (at + m) n first
    (λ k h. ap (λ (j : ℕ). bit_xor (get_or (run v (at + m) k first) (j - row) 0) (W (m + k))) (add_assoc at m k))
    ∙ run-append (xored at row W) at m n l

-- a run that goes on where another ends: no bound on the row
pub row_then : (back : Option ℕ) (w W : ℕ → ℕ) (at m n len : ℕ) (new l l₀ : List ℕ) → ((k : ℕ) → k < n → w k ≡ W (m + k)) → m + n ≡ len
    → new ≡ run (row_bytes back (at + m) w) (at + m) n l → l ≡ run (row_bytes back at W) at m l₀ → new ≡ run (row_bytes back at W) at len l₀
row_then back w W at m n len new l l₀ ew en e r =
    e ∙ row_cong back w (λ (k : ℕ). W (m + k)) (at + m) n l ew
    ∙ ap (λ (x : List ℕ). run (row_bytes back (at + m) (λ (k : ℕ). W (m + k))) (at + m) n x) r
    ∙ row_append back W at m n l₀
    ∙ ap (λ (j : ℕ). run (row_bytes back at W) at j l₀) en

-- a block that is read whole before it is written
pub row_read : (back : Option ℕ) (w : ℕ → ℕ) (to n : ℕ) (t l : List ℕ) → row_there back to ≡ true → row_holds back n ≡ true
    → ((k : ℕ) → k < n → get_or t k 0 ≡ bit_xor (byte_back back (to + k) l) (w k)) → run (listed t) to n l ≡ run (row_bytes back to w) to n l
row_read None w to n t l h g e = run_cong (listed t) (bytes w) to n l (λ k q. e k q ∙ xor_zero_l (w k))
row_read (Some row) w to n t l h g e =
    let le : row ≤ to = leb-true row to h in
    let wide : n ≤ row = leb-true n row g in
    run_cong (listed t) (mixed l (to - row) w) to n l
    (λ k q. let place : to + k - row ≡ to - row + k = omega arith in e k q ∙ ap (λ (j : ℕ). bit_xor (get_or l j 0) (w k)) place)
    ∙ loaded (λ (b k : ℕ). bit_xor b (w k)) to (to - row) row n l (omega arith) wide
