-- Laws of patterns: pixels over and over, from a block of them or from bytes that stand before. Assumes nothing.
use mathlib.Core.Path.{◌≡◌, refl, sym, ap, ◌∙◌}
use mathlib.Core.List.{List}
use Prim.Native.Nat.{ℕ, zero, suc, ◌+◌, ◌-◌, ◌*◌, ◌/◌, ◌%◌, ◌≤◌, ◌<◌, min}
use native.Mathlib.Nat.{add-zero, zero-add, add-suc, add_assoc, eq-or-lt_of_le, mod-add-mod, mod-eq_of_lt, mod_self, min-le_left, mul-add-mod_self_right, add-mul, mul-le-mul_right, div-add-mod', add_comm}
use native.Mathlib.Omega.{arith}
use mathlib.Core.Logic.{⊎_elim}
use lib.Dec.{leb}
use lib.ListN.{length, set, get_or}
use mathlib.Core.Bool.{true}
use borrow.Author.Tests.{le-leb}
use borrow.Rule.Slice.PartMut.{put_mid}
use Rattle.byte_runs.specs.Runs.{run, run_where, both, there, above, xored, mixed, bytes, is_depth, turn, each, repeated}
use Rattle.byte_runs.proofs.Runs.{length_run, run-append, run_settled, run_idle}
use Rattle.byte_runs.proofs.Arrays.{placed}
use Rattle.byte_runs.proofs.Blocks.{bytes_block, mixed_block}
use Rattle.byte_runs.proofs.Fits.{both_hold, back-there}
use Rattle.byte_runs.proofs.Pixels.{turn_byte}

-- a pattern from a multiple of its period on
turn_at : (px : List ℕ) (d m k : ℕ) → m % d ≡ 0 → turn px d k ≡ turn px d (m + k)
turn_at px d m k z = ap (λ (x : ℕ). get_or px x 0) (ap (λ (x : ℕ). x % d) (sym (zero-add k)) ∙ ap (λ (x : ℕ). (x + k) % d) (sym z) ∙ mod-add-mod m d k)

-- 48 bytes hold whole pixels of each depth
pub whole_pixels : (d : ℕ) → 1 ≤ d → d ≤ 3 → 48 % d ≡ 0
whole_pixels zero low high = omega arith
whole_pixels (suc zero) low high = refl
whole_pixels (suc (suc zero)) low high = refl
whole_pixels (suc (suc (suc zero))) low high = refl
whole_pixels (suc (suc (suc (suc d)))) low high = omega arith

-- so they are all of the pattern that `pattern` makes
pub whole_pattern : (px t : List ℕ) (d : ℕ) → 1 ≤ d → d ≤ 3 → (is_depth d ≡ true → (k : ℕ) → k < 48 / d * d → get_or t k 0 ≡ turn px d k)
    → (k : ℕ) → k < 48 → get_or t k 0 ≡ turn px d k
whole_pattern px t d low high all k h =
    let q : 48 / d * d ≡ 48 = sym (add-zero (48 / d * d)) ∙ ap (λ (y : ℕ). 48 / d * d + y) (sym (whole_pixels d low high)) ∙ div-add-mod' 48 d in
    all (both_hold _ _ (le-leb 1 d low) (le-leb d 3 high)) k (rw q h)

pub mod_sum : (a b d : ℕ) → a % d ≡ 0 → b % d ≡ 0 → (a + b) % d ≡ 0
mod_sum a b d ea eb = sym (mod-add-mod a d b) ∙ ap (λ (x : ℕ). (x + b) % d) ea ∙ ap (λ (x : ℕ). x % d) (zero-add b) ∙ eb

-- 48 less is a multiple too
mod_less : (x d : ℕ) → 48 % d ≡ 0 → (x + 48) % d ≡ 0 → x % d ≡ 0
mod_less x d e z =
    let q : 48 / d * d ≡ 48 = sym (add-zero (48 / d * d)) ∙ ap (λ (y : ℕ). 48 / d * d + y) (sym e) ∙ div-add-mod' 48 d in
    sym (mul-add-mod_self_right (48 / d) d x) ∙ ap (λ (y : ℕ). (y + x) % d) q ∙ ap (λ (y : ℕ). y % d) (add_comm 48 x) ∙ z

-- so each block's place is one
place_mod : (i len d : ℕ) → 48 ≤ len → 48 % d ≡ 0 → len % d ≡ 0 → i % d ≡ 0 → min i (len - 48) % d ≡ 0
place_mod i len d h e el ei =
    let z : len - 48 + 48 ≡ len = omega arith in
    ⊎_elim
    (λ (s : min i (len - 48) ≡ i). ap (λ (x : ℕ). x % d) s ∙ ei)
    (λ (s : min i (len - 48) < i).
    let l : min i (len - 48) ≡ len - 48 = omega arith in
    ap (λ (x : ℕ). x % d) l ∙ mod_less (len - 48) d e (ap (λ (x : ℕ). x % d) z ∙ el))
    (eq-or-lt_of_le (min-le_left i (len - 48)))

-- a block w of the pattern px; the last block ends where the run ends
module _ (px w : List ℕ) (d at row i len p : ℕ) (new l l₀ : List ℕ) where
  pub pattern_block : p ≡ min i (len - 48) → i < len → 48 ≤ len → 48 ≤ row → row ≤ at → at + len ≤ length l₀
      → 1 ≤ d → d ≤ 3 → len % d ≡ 0 → i % d ≡ 0 → ((k : ℕ) → k < 48 → get_or w k 0 ≡ turn px d k)
      → new ≡ run (mixed l (at + p - row) (each w)) (at + p) 48 l → l ≡ run (xored at row (turn px d)) at (min i len) l₀
      → new ≡ run (xored at row (turn px d)) at (min (i + 48) len) l₀
  pattern_block ep hi hl hr ha fits low high el ei per e r =
      mixed_block (each w) (turn px d) at row p (min i len) 48 (min (i + 48) len) (at + p) (at + p - row) new l l₀
      (λ k q. per k q ∙ turn_at px d p k (ap (λ (x : ℕ). x % d) ep ∙ place_mod i len d hl (whole_pixels d low high) el ei))
      refl (omega arith) (omega arith) (omega arith) hr ha (omega arith) (omega arith) (omega arith) e r

-- BACK: a run of bytes that repeat after p of them: the rest is copied from p places back
run-back : (w : ℕ → ℕ) (at p m : ℕ) (l : List ℕ) → 0 < p → ((k : ℕ) → w (p + k) ≡ w k) → at + (p + m) ≤ length l
    → run (above (at + p) p) (at + p) m (run (bytes w) at p l) ≡ run (bytes w) at (p + m) l
unfolding run
run-back w at p zero l hp per fits = ap (λ (n : ℕ). run (bytes w) at n l) (sym (add-zero p))
run-back w at p (suc m) l hp per fits =
    let r : ℕ → List ℕ = λ (n : ℕ). run (bytes w) at n l in
    let e : at + p + m - p ≡ at + m = omega arith in
    ap (λ (x : List ℕ). set x (at + p + m) (get_or x (at + p + m - p) 0)) (run-back w at p m l hp per (omega arith))
    ∙ ap (λ (b : ℕ). set (r (p + m)) (at + p + m) b)
    (ap (λ (i : ℕ). get_or (r (p + m)) i 0) e ∙ run_settled (bytes w) at (p + m) m l (λ x y k a. refl) (omega arith) (omega arith) ∙ sym (per m))
    ∙ ap (λ (i : ℕ). set (r (p + m)) i (w (p + m))) (add_assoc at p m)
    ∙ ap r (sym (add-suc p m))

-- the same behind any run of them that is no shorter: the bytes repeat after `back` of them
run_back_more : (w : ℕ → ℕ) (at m back n : ℕ) (l : List ℕ) → 0 < back → back ≤ m → ((k : ℕ) → w (back + k) ≡ w k) → at + (m + n) ≤ length l
    → run (above (at + m) back) (at + m) n (run (bytes w) at m l) ≡ run (bytes w) at (m + n) l
run_back_more w at m back n l hp hm per fits =
    let u : ℕ → ℕ = λ (k : ℕ). w (m - back + k) in
    let first : List ℕ = run (bytes w) at (m - back) l in
    let long : length (run (bytes w) at (m - back) l) ≡ length l = length_run (bytes w) at (m - back) l in
    let em : m - back + back ≡ m = omega arith in
    let ea : at + (m - back) + back ≡ at + m = omega arith in
    let en : m - back + (back + n) ≡ m + n = omega arith in
    ap (λ (x : List ℕ). run (above (at + m) back) (at + m) n x)
    (sym (run-append (bytes w) at (m - back) back l ∙ ap (λ (j : ℕ). run (bytes w) at j l) em))
    ∙ ap (λ (j : ℕ). run (above j back) j n (run (bytes u) (at + (m - back)) back first)) (sym ea)
    ∙ run-back u (at + (m - back)) back n first hp
    (λ k. let e : m - back + (back + k) ≡ back + (m - back + k) = omega arith in ap w e ∙ per (m - back + k)) (omega arith)
    ∙ run-append (bytes w) at (m - back) (back + n) l
    ∙ ap (λ (j : ℕ). run (bytes w) at j l) en

-- the first p bytes from `at` on, over and over: they are a run of themselves, and repeat after any multiple of p
module _ (at p : ℕ) (l : List ℕ) where
  pub own-run : l ≡ run (bytes (repeated l at p)) at p l
  own-run = sym (run_idle (bytes (repeated l at p)) at p l (λ k h. ap (λ (j : ℕ). get_or l (at + j) 0) (mod-eq_of_lt h)))

  period : (m k : ℕ) → m % p ≡ 0 → repeated l at p (m + k) ≡ repeated l at p k
  period m k z =
      ap (λ (j : ℕ). get_or l (at + j) 0) (sym (mod-add-mod m p k) ∙ ap (λ (x : ℕ). (x + k) % p) z ∙ ap (λ (x : ℕ). x % p) (zero-add k))

  -- n more bytes, copied from a multiple of p bytes back
  pub repeated_more : (m n len back to : ℕ) (new l₁ : List ℕ) → m + n ≡ len → 0 < back → back ≤ m → back % p ≡ 0 → at + len ≤ length l → to ≡ at + m
      → new ≡ run (above to back) to n l₁ → l₁ ≡ run (bytes (repeated l at p)) at m l → new ≡ run (bytes (repeated l at p)) at len l
  repeated_more m n len back to new l₁ en some le z fits et e r =
      e ∙ ap (λ (j : ℕ). run (above j back) j n l₁) et ∙ ap (λ (x : List ℕ). run (above (at + m) back) (at + m) n x) r
      ∙ run_back_more (repeated l at p) at m back n l some le (λ k. period back k z) (omega arith)
      ∙ ap (λ (j : ℕ). run (bytes (repeated l at p)) at j l) en

  -- the bytes behind the first p are copied from p bytes back
  pub repeated_back : (n to : ℕ) (new : List ℕ) → 0 < p → at + (p + n) ≤ length l → to ≡ at + p
      → new ≡ run (bytes (repeated l at p)) at (p + n) l → new ≡ run (above to p) to n l
  repeated_back n to new pos fits et e =
      e ∙ sym (run-back (repeated l at p) at p n l pos (λ k. period p k (mod_self p)) fits)
      ∙ ap (λ (x : List ℕ). run (above (at + p) p) (at + p) n x) (sym own-run)
      ∙ ap (λ (j : ℕ). run (above j p) j n l) (sym et)

-- one unit of d bytes more, put in place of as many
pub unit_more : (p : List ℕ) (d at i to m : ℕ) (l l₀ part : List ℕ) → to ≡ at + i * d → m ≡ d → d ≡ length p → at + (i + 1) * d ≤ length l₀ → part ≡ p
    → l ≡ run (bytes (turn p d)) at (i * d) l₀ → put_mid to m l part ≡ run (bytes (turn p d)) at ((i + 1) * d) l₀
unit_more p d at i to m l l₀ part et em ep fits e r =
    let more : i * d + d ≡ (i + 1) * d = omega arith in
    let long : length l ≡ length l₀ = ap (λ (x : List ℕ). length x) r ∙ length_run (bytes (turn p d)) at (i * d) l₀ in
    bytes_block (each p) (turn p d) at (i * d) (i * d) d ((i + 1) * d) to (put_mid to m l part) l l₀
    (λ k h. sym (turn_byte d i k p h)) et more (omega arith) (omega arith) fits
    (placed (each p) to m d l part em (ep ∙ ap (λ (x : List ℕ). length x) (sym e)) (omega arith) (λ k h. ap (λ (x : List ℕ). get_or x k 0) e)) r

-- n units, of which the first m are stored and the others copied from them
pub unit_copies : (p : List ℕ) (d at m n : ℕ) (l₂ l₁ l : List ℕ) → 0 < m → 0 < d → m ≤ n → at + n * d ≤ length l
    → l₂ ≡ run_where (both (leb (m * d) (at + m * d)) (there (at + m * d) ((n - m) * d) l₁)) (above (at + m * d) (m * d)) (at + m * d) ((n - m) * d) l₁
    → l₁ ≡ run (bytes (turn p d)) at (m * d) l → l₂ ≡ run (bytes (turn p d)) at (n * d) l
unit_copies p d at m n l₂ l₁ l some wide h fits e₂ e₁ =
    let pos : 1 * d ≤ m * d = mul-le-mul_right {m = 1} {n = m} d some in
    let sum : m * d + (n - m) * d ≡ n * d = sym (add-mul m (n - m) d) ∙ ap (λ (j : ℕ). j * d) (let e : m + (n - m) ≡ n = omega arith in e) in
    let long : length l₁ ≡ length l = ap (λ (x : List ℕ). length x) e₁ ∙ length_run (bytes (turn p d)) at (m * d) l in
    back-there (at + m * d) ((n - m) * d) (m * d) l₂ l₁ (omega arith) (omega arith) e₂
    ∙ ap (λ (x : List ℕ). run (above (at + m * d) (m * d)) (at + m * d) ((n - m) * d) x) e₁
    ∙ run-back (turn p d) at (m * d) ((n - m) * d) l (omega arith) (λ k. ap (λ (j : ℕ). get_or p j 0) (mul-add-mod_self_right m d k)) (omega arith)
    ∙ ap (λ (j : ℕ). run (bytes (turn p d)) at j l) sum
