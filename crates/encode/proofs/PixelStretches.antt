-- Stretches of pixels from stretches of their bytes: a stretch of pixels has the whole pixels of that of bytes. Assumes nothing.
use mathlib.Core.Path.{◌≡◌, sym, ◌∙◌}
use mathlib.Core.List.{List, [], ◌∷◌}
use mathlib.Core.Bool.{Bool, true, false}
use Prim.Native.Nat.{ℕ, zero, suc, ◌+◌, ◌-◌, ◌*◌, ◌/◌, ◌≤◌, ◌<◌}
use native.Mathlib.Nat.{mul-le-mul_right}
use native.Mathlib.Omega.{arith}
use lib.Dec.{eqb}
use lib.ListN.{length, get_or, drop, length-drop}
use lib.Seq.{get_or-drop, length-take-le}
use borrow.Author.Tests.{eq-eqb, eqb-true}
use Rattle.base.proofs.Tests.{by_less, same_test}
use Rattle.picture.specs.Pixels.{pixel_at}
use Rattle.picture.proofs.Pixels.{first_pixel_cong, get_or-first_pixel, get_or-pixels_of}
use Rattle.encoding.specs.Encode.{stretch, pixel, same_pixel}
use Rattle.encoding.proofs.Stretches.{stretch-is}
use Rattle.encoding.proofs.SamePixels.{same_self, byte_other}
use Rattle.encode.specs.declared.pixels.Pixels.{Pixels}
use Rattle.encode.specs.Pixels.{pixels_in, bytes_in, same_as_back}
use Rattle.encode.specs.Bytes.{same_bytes, same_start}
use Rattle.encode.proofs.Comparing.{part, start_le, start_passes, start-stops, all-same}

-- ---- whole pixels in bytes

pub record Divided (n D : ℕ) : Type 0 where
  pub low : n / D * D ≤ n
  pub high : n < n / D * D + D

pub divided : (n D : ℕ) → 1 ≤ D → D ≤ 3 → Divided n D
divided n zero l h = absurd (omega arith)
divided n (suc zero) l h = record { low = omega arith; high = omega arith }
divided n (suc (suc zero)) l h = record { low = omega arith; high = omega arith }
divided n (suc (suc (suc zero))) l h = record { low = omega arith; high = omega arith }
divided n (suc (suc (suc (suc D)))) l h = absurd (omega arith)

-- a product below another has a smaller factor
factor_less : (a b D : ℕ) → 1 ≤ D → a * D < b * D + D → a ≤ b
factor_less a b D l h = by_less b a (λ m. absurd (omega (arith, mul-le-mul_right {m = b + 1} {n = a} D (omega arith)))) (λ m. m)

module _ (D : ℕ) (low : 1 ≤ D) (high : D ≤ 3) (s : List ℕ) where
  pub pixels-same : (a b : ℕ) → ((i : ℕ) → i < D → get_or s (a * D + i) 0 ≡ get_or s (b * D + i) 0) → same_pixel (pixel_at D s a) (pixel_at D s b) ≡ true
  unfolding pixel_at
  pixels-same a b e =
      rw (first_pixel_cong D (drop (a * D) s) (drop (b * D) s) low (λ i h. simp get_or-drop (e i h))) (same_self (pixel_at D s b))

  pub pixels_differ : (a b i : ℕ) → i < D → (get_or s (a * D + i) 0 ≡ get_or s (b * D + i) 0 → ⊥) → same_pixel (pixel_at D s a) (pixel_at D s b) ≡ false
  unfolding pixel_at
  pixels_differ a b i h e =
      byte_other (pixel_at D s a) (pixel_at D s b) i (omega arith)
      (λ q. e (simp get_or-drop at (sym (get_or-first_pixel D (drop (a * D) s) i h high) ∙ q ∙ get_or-first_pixel D (drop (b * D) s) i h high)))

-- ---- n pixels from pixel k on, and those `row` places back

module _ (p : Pixels) (row k n : ℕ) (back : row ≤ k) (inside : k + n ≤ p.total) where
  abbrev D : ℕ
  D = p.bytes

  abbrev s : List ℕ
  s = p.src.now

  abbrev here : List ℕ
  here = bytes_in p k n

  abbrev behind : List ℕ
  behind = bytes_in p (k - row) n

  abbrev same : ℕ → Bool
  same = same_as_back (pixels_in p) row

  ends : (k * D + n * D ≤ length s) × ((k - row) * D ≤ k * D)
  ends =
      (omega (arith, p.there, mul-le-mul_right {m = k + n} {n = p.total} D inside), mul-le-mul_right {m = k - row} {n = k} D (omega arith))

  pub length-here : length here ≡ n * D
  length-here = length-take-le (n * D) (drop (k * D) s) (rw length-drop (omega (arith, ends.0)))

  pub length-behind : length behind ≡ n * D
  length-behind = length-take-le (n * D) (drop ((k - row) * D) s) (rw length-drop (omega (arith, ends.0, ends.1)))

  -- byte b of pixel i of them
  byte_inside : (i b : ℕ) → i < n → b < D → i * D + b < n * D
  byte_inside i b h g = omega (arith, mul-le-mul_right {m = i + 1} {n = n} D (omega arith))

  here_byte : (i b : ℕ) → i < n → b < D → get_or here (i * D + b) 0 ≡ get_or s ((k + i) * D + b) 0
  here_byte i b h g =
      let e : k * D + (i * D + b) ≡ (k + i) * D + b = omega arith in
      rw e at (part s (k * D) (n * D) (i * D + b) (byte_inside i b h g))

  behind_byte : (i b : ℕ) → i < n → b < D → get_or behind (i * D + b) 0 ≡ get_or s ((k + i - row) * D + b) 0
  behind_byte i b h g =
      let m : k - row + i ≡ k + i - row = omega arith in
      let e : (k - row) * D + (i * D + b) ≡ (k - row + i) * D + b = omega arith in
      rw (e, m) at (part s ((k - row) * D) (n * D) (i * D + b) (byte_inside i b h g))

  pixel-is : (i : ℕ) → i < p.total → pixel (pixels_in p) i ≡ pixel_at D s i
  pixel-is i h = get_or-pixels_of D p.total s i (0 ∷ 0 ∷ 0 ∷ []) h

  pub pixel-stretch : stretch same k n ≡ same_start here behind / D
  pixel-stretch = stretch-is same k n q few agrees differs
    where
      bytes : ℕ
      bytes = same_start here behind

      q : ℕ
      q = bytes / D

      parts : Divided bytes D
      parts = divided bytes D p.low p.high

      most : bytes ≤ n * D
      most = omega (arith, start_le here behind, length-here)

      few : q ≤ n
      few = factor_less q n D p.low (omega (arith, parts.low, most, p.low))

      agrees : (i : ℕ) → i < q → same (k + i) ≡ true
      agrees i h =
          rw (pixel-is (k + i) (omega (arith, few)), pixel-is (k + i - row) (omega (arith, few)))
          (pixels-same D p.low p.high s (k + i) (k + i - row) (λ b c.
          sym (here_byte i b (omega (arith, few)) c)
          ∙ start_passes here behind (i * D + b) (omega (arith, parts.low, mul-le-mul_right {m = i + 1} {n = q} D (omega arith)))
          ∙ behind_byte i b (omega (arith, few)) c))

      differs : q < n → same (k + q) ≡ false
      differs h =
          let b = bytes - q * D in
          let e : q * D + b ≡ bytes = omega (arith, parts.low) in
          let c : b < D = omega (arith, parts.high) in
          let inside_n : bytes < n * D = omega (arith, parts.high, mul-le-mul_right {m = q + 1} {n = n} D (omega arith)) in
          rw (pixel-is (k + q) (omega arith), pixel-is (k + q - row) (omega arith))
          (pixels_differ D p.low p.high s (k + q) (k + q - row) b c (λ x.
          start-stops here behind (omega (arith, length-here, inside_n)) (omega (arith, length-behind, inside_n))
          (rw e at (here_byte q b h c ∙ x ∙ sym (behind_byte q b h c)))))

  -- all n of them, by all their bytes
  pub whole-stretch : same_bytes here behind ≡ eqb (stretch same k n) n
  whole-stretch =
      let d = divided (same_start here behind) D p.low p.high in
      all-same here behind (length-here ∙ sym length-behind)
      ∙ same_test (eqb (same_start here behind) (length here)) (eqb (stretch same k n) n)
      (λ e.
      let bytes : same_start here behind ≡ n * D = eqb-true _ _ e ∙ length-here in
      let q : same_start here behind / D ≡ n =
      omega (
        arith,
        factor_less (same_start here behind / D) n D p.low (omega (arith, p.low)),
        factor_less n (same_start here behind / D) D p.low (omega arith),
      ) in
      eq-eqb (stretch same k n) n (pixel-stretch ∙ q))
      (λ e.
      let q : same_start here behind / D ≡ n = sym pixel-stretch ∙ eqb-true (stretch same k n) n e in
      let all : n * D ≤ same_start here behind = rw q at d.low in
      eq-eqb (same_start here behind) (length here) (omega (arith, start_le here behind, length-here)))
