-- Laws of masks: the test of a bit against the definition's quotient, by one test that antt computes, and the bytes of many masks. Assumes nothing.
use mathlib.Core.Path.{◌≡◌, refl, sym, ap, ◌∙◌}
use mathlib.Core.List.{List, [], ◌∷◌}
use Prim.Native.Nat.{ℕ, zero, suc, ◌+◌, ◌*◌, ◌/◌, ◌%◌, ◌≤◌, ◌<◌, ◌^◌}
use native.Mathlib.Nat.{not-suc-le-zero, one-mul, zero-mul, add-zero, zero-add, add_assoc, mul_assoc, div-div-eq-div-mul, div-eq_of_lt, div-lt_iff_lt-mul, div-one, mod-eq_of_lt, mul-add-div_right, mul-add-mod_self_right, mul-le-mul_right, pow-suc}
use native.Mathlib.Omega.{arith}
use native.Mathlib.Numerals.{add-one}
use lib.ListN.{length, get_or, take, drop}
use lib.Bits.{bit_and}
use Rattle.std.proofs.lemmas.List.{get_or-take, get_or-drop}
use Rattle.byte_runs.specs.Runs.{run_where, both, there, pixels_there, row_there, row_bytes, inked, inked_by, mask_by, masked_by, turn}
use Rattle.byte_runs.proofs.Fits.{both_hold, is-there, pixels-there, where_left}
use Rattle.byte_runs.proofs.Parts.{length_part}
use Rattle.byte_runs.proofs.Pixels.{row_cong, turn_byte}
use mathlib.Core.Bool.{Bool, true, false, cond}
use lib.Dec.{eqb, leb}
use borrow.Author.Tests.{eqb-true, le-leb}
use Rattle.std.specs.Prelude.{Option}
use Rattle.base.specs.Picks.{pick}
use Rattle.base.proofs.Tests.{both_true, before_or_last}

-- the test f passes at each number below n
abbrev upto : (ℕ → Bool) → ℕ → Bool
upto f zero = true
upto f (suc n) = both (f n) (upto f n)

below : (f : ℕ → Bool) (n : ℕ) → upto f n ≡ true → (k : ℕ) → k < n → f k ≡ true
below f zero t k h = absurd (not-suc-le-zero h)
below f (suc n) t k h =
    let both_so = both_true (f n) (upto f n) t in
    before_or_last k n h (λ l. below f n both_so.1 k l) (λ e. ap f e ∙ both_so.0)

-- 1 for a test that holds
abbrev one : Bool → ℕ
one true = 1
one false = 0

-- what the mask twice, in 16 bits, is tested against for each bit: for bits 0 to 3 their place in the upper copy, for bits 4 to 7 in the lower
abbrev tests : List ℕ
tests = 256 ∷ 512 ∷ 1024 ∷ 2048 ∷ 16 ∷ 32 ∷ 64 ∷ 128 ∷ []

abbrev found : ℕ → ℕ → Bool
found m b = eqb (bit_and (m * 257) b) b

abbrev right : ℕ → ℕ → Bool
right m k = eqb (one (found m (get_or tests k 0))) (m / 2 ^ k % 2)

-- all 256 masks, all 8 bits
bits_right : (m k : ℕ) → m < 256 → k < 8 → one (found m (get_or tests k 0)) ≡ m / 2 ^ k % 2
bits_right m k h g = eqb-true _ _ (below (right m) 8 (below (λ (n : ℕ). upto (right n) 8) 256 refl m h) k g)

-- byte i of pixels of d bytes, tested by its pixel's bit: the color's byte a where it is set, zero where it is clear
pub ink_found : (d m i b a : ℕ) → 0 < d → m < 256 → i < 8 * d → b ≡ get_or tests (i / d) 0 → cond (found m b) a 0 ≡ inked m a (i / d)
ink_found d m i b a hd h g e =
    let hk : i / d < 8 = (div-lt_iff_lt-mul hd).1 g in
    picked (found m b) a ∙ ap (λ (x : ℕ). x * a) (ap (λ (x : ℕ). one (found m x)) e ∙ bits_right m (i / d) h hk)
  where
    picked : (t : Bool) (n : ℕ) → cond t n 0 ≡ one t * n
    picked true n = sym (one-mul n)
    picked false n = sym (zero-mul n)

-- a mask that is halved turn by turn
pub half : (mask m i : ℕ) → m ≡ mask / 2 ^ i → m / 2 ≡ mask / 2 ^ (i + 1)
half mask m i e =
    ap (λ (x : ℕ). x / 2) e ∙ div-div-eq-div-mul mask (2 ^ i) 2 ∙ ap (λ (x : ℕ). mask / x) (sym (pow-suc 2 i)) ∙ ap (λ (j : ℕ). mask / 2 ^ j) (sym (add-one i))

pub whole : (mask : ℕ) → mask ≡ mask / 2 ^ 0
whole mask = sym (div-one mask)

-- the bytes from mask i on are those of the masks from place 8 * d * i on
masks-from : (s px : List ℕ) (pos d i k : ℕ) → 0 < d → masked_by s (pos + i) d px k ≡ masked_by s pos d px (i * 8 * d + k)
masks-from s px pos d i k h =
    let n : ℕ = i * 8 * d + k in
    let h₈ : 0 < 8 * d = omega arith in
    let q : pos + i + k / (8 * d) ≡ pos + (i * 8 * d + k) / (8 * d) =
    add_assoc pos i (k / (8 * d)) ∙ ap (λ (j : ℕ). pos + j) (sym (mul-add-div_right h₈ i k) ∙ ap (λ (j : ℕ). (j + k) / (8 * d)) (sym (mul_assoc i 8 d))) in
    let r : k / d % 8 ≡ (i * 8 * d + k) / d % 8 =
    sym (mul-add-mod_self_right i 8 (k / d)) ∙ ap (λ (j : ℕ). j % 8) (sym (mul-add-div_right h (i * 8) k)) in
    ap (λ (j : ℕ). inked (get_or s j 0) (turn px d k) (k / d % 8)) q
    ∙ ap (λ (j : ℕ). inked (get_or s (pos + n / (8 * d)) 0) (get_or px j 0) (k / d % 8)) (sym (mul-add-mod_self_right (i * 8) d k))
    ∙ ap (λ (j : ℕ). inked (get_or s (pos + n / (8 * d)) 0) (turn px d n) j) r

-- the bytes of one mask are the first of the masks from it on
pub mask_first : (s px : List ℕ) (pos d k : ℕ) → k < 8 * d → mask_by (get_or s pos 0) d px k ≡ masked_by s pos d px k
mask_first s px pos d k h =
    ap (λ (j : ℕ). inked (get_or s j 0) (turn px d k) (k / d % 8)) (sym (add-zero pos) ∙ ap (λ (j : ℕ). pos + j) (sym (div-eq_of_lt h)))

-- the bytes of mask i stand behind those of i masks
pub mask_after : (s px : List ℕ) (d i k : ℕ) → 0 < d → k < 8 * d → mask_by (get_or s i 0) d px k ≡ masked_by s 0 d px (i * 8 * d + k)
mask_after s px d i k hd h = mask_first s px i d k h ∙ ap (λ (j : ℕ). masked_by s j d px k) (sym (zero-add i)) ∙ masks-from s px 0 d i k hd

-- byte k of a mask, p being the color's bytes
pub mask_byte : (m d k : ℕ) (px p : List ℕ) → 0 < d → k < 8 * d → get_or p k 0 ≡ turn px d k → inked_by m d p k ≡ mask_by m d px k
mask_byte m d k px p hd h e =
    ap (λ (b : ℕ). inked m b (k / d)) e ∙ ap (λ (j : ℕ). inked m (turn px d k) j) (sym (mod-eq_of_lt ((div-lt_iff_lt-mul hd).1 h)))

-- byte j of pixel i of a mask, which is halved turn by turn
pub part_byte : (mask d i j m x : ℕ) (px : List ℕ) → i < 8 → j < d → m ≡ mask / 2 ^ i → x ≡ m % 2 * get_or px j 0 → x ≡ mask_by mask d px (i * d + j)
part_byte mask d i j m x px hi hj em ex =
    let hd : 0 < d = omega arith in
    let q : i ≡ (i * d + j) / d = sym (mul-add-div_right hd i j ∙ ap (λ (n : ℕ). i + n) (div-eq_of_lt hj) ∙ add-zero i) in
    ex ∙ ap (λ (n : ℕ). n % 2 * get_or px j 0) em
    ∙ ap (λ (b : ℕ). inked mask b i) (sym (turn_byte d i j px hj))
    ∙ ap (λ (n : ℕ). inked mask (turn px d (i * d + j)) n) (sym (mod-eq_of_lt hi) ∙ ap (λ (n : ℕ). n % 8) q)

-- the masks of a part are those of the whole
pub masks_part : (s part px : List ℕ) (pos m d k : ℕ) → 0 < d → part ≡ take m (drop pos s) → k < m * 8 * d → masked_by part 0 d px k ≡ masked_by s pos d px k
masks_part s part px pos m d k hd e h =
    let wide : m * 8 * d ≡ m * (8 * d) = mul_assoc m 8 d in
    let hk : k / (8 * d) < m = (div-lt_iff_lt-mul {k = 8 * d} (omega arith)).1 (omega arith) in
    ap (λ (j : ℕ). inked (get_or part j 0) (turn px d k) (k / d % 8)) (zero-add (k / (8 * d)))
    ∙ ap (λ (x : List ℕ). inked (get_or x (k / (8 * d)) 0) (turn px d k) (k / d % 8)) e
    ∙ ap (λ (b : ℕ). inked b (turn px d k) (k / d % 8)) (get_or-take m (drop pos s) (k / (8 * d)) 0 hk ∙ get_or-drop pos s (k / (8 * d)) 0)

-- what is written of the first n pixels of a mask, and of m masks, where they are there
module _ (s px : List ℕ) (pos d at : ℕ) (back : Option ℕ) (new l : List ℕ) where
  where_cong : (test : Bool) (w W : ℕ → ℕ) (n : ℕ) → ((k : ℕ) → k < n → w k ≡ W k)
      → run_where test (row_bytes back at w) at n l ≡ run_where test (row_bytes back at W) at n l
  where_cong test w W n e = ap (λ (x : List ℕ). pick test x l) (row_cong back w W at n l e)

  pub mask_there : (n D : ℕ) → d ≡ D → 1 ≤ d → d ≤ 3 → n ≤ 8 → pos + 1 ≤ length s → at + n * d ≤ length l
      → new ≡ run_where (row_there back at) (row_bytes back at (mask_by (get_or s pos 0) D px)) at (n * D) l
      → new ≡ run_where (both (row_there back at) (both (both (leb n 8) (there pos 1 s)) (pixels_there d at n l))) (row_bytes back at (masked_by s pos d px)) at (n * d) l
  mask_there n D eq low high few has fits e =
      let most : n * d ≤ 8 * d = mul-le-mul_right {m = n} {n = 8} d few in
      e ∙ ap (λ (j : ℕ). run_where (row_there back at) (row_bytes back at (mask_by (get_or s pos 0) j px)) at (n * j) l) (sym eq)
      ∙ where_cong (row_there back at) _ _ (n * d) (λ k h. mask_first s px pos d k (omega arith))
      ∙ where_left (row_there back at) _ _ at (n * d) l
      (both_hold _ _ (both_hold _ _ (le-leb n 8 few) (is-there pos 1 s has)) (pixels-there d at n l low high fits))

  pub masks_there : (m D q : ℕ) (part : List ℕ) → d ≡ D → 1 ≤ d → d ≤ 3 → pos + m ≤ length s → at + m * 8 * d ≤ length l → q ≡ m → part ≡ take q (drop pos s)
      → new ≡ run_where (row_there back at) (row_bytes back at (masked_by part 0 D px)) at (length part * 8 * D) l
      → new ≡ run_where (both (row_there back at) (both (there pos m s) (pixels_there d at (m * 8) l))) (row_bytes back at (masked_by s pos d px)) at (m * 8 * d) l
  masks_there m D q part eq low high has fits eq_m et e =
      let ep : part ≡ take m (drop pos s) = et ∙ ap (λ (j : ℕ). take j (drop pos s)) eq_m in
      let long : length part ≡ m = ap (λ (x : List ℕ). length x) ep ∙ length_part pos m s has in
      e ∙ (λ i. run_where (row_there back at) (row_bytes back at (masked_by part 0 (sym eq i) px)) at (long i * 8 * sym eq i) l)
      ∙ where_cong (row_there back at) _ _ (m * 8 * d) (λ k h. masks_part s part px pos m d k (omega arith) ep h)
      ∙ where_left (row_there back at) _ _ at (m * 8 * d) l
      (both_hold _ _ (is-there pos m s has) (pixels-there d at (m * 8) l low high fits))
