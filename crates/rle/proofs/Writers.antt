-- Laws from runs of bytes to painted pixels, for every number of bytes D: a list that holds the pixels that the inks say is painted, and
-- each way to write bytes makes such a list. Assumes nothing.
use mathlib.Core.Path.{◌≡◌, refl, ap, sym, ◌∙◌}
use mathlib.Core.List.{List, [], ◌∷◌, ◌++◌}
use mathlib.Core.Bool.{Bool, true, false}
use Prim.Native.Nat.{ℕ, zero, suc, ◌+◌, ◌-◌, ◌*◌, ◌/◌, ◌%◌, ◌^◌, ◌≤◌, ◌<◌}
use native.Mathlib.Nat.{add-zero, zero-add, add-suc, le_refl, zero-mul, one-mul, mul_comm, mul-le-mul_right, mul-add-mod_self_right, mul-add-div_right, div-eq_of_lt, div-div-eq-div-mul, div-add-mod, mod-lt, mod-eq_of_lt}
use native.Mathlib.Omega.{arith}
use lib.Dec.{eqb}
use lib.Bits.{bit_xor, xor_zero_r}
use lib.ListN.{length, get_or, take, drop, get_or-append}
use lib.Seq.{get_or-drop, get_or-take, get_or-append-add, length-take-le}
use Rattle.base.specs.Picks.{pick}
use Rattle.picture.specs.Pixels.{Pixel, pixel_at, pixels_of, xor_pixel, OfDepth}
use Rattle.picture.proofs.Pixels.{first_pixel_cong, get_or-first_pixel, zeros_of_depth, of_depth, length_of_depth, pixels_cong}
use Rattle.definition.specs.Decode.{Ink, solid, above, above_xor, color, paint, pixel_above, mask_ink, dither_ink}
use Rattle.definition.specs.Plan.{image_ink}
use Rattle.byte_runs.specs.Runs as runs
use Rattle.byte_runs.specs.Runs.{run, taken, turn, bytes, xored, pair_of, inked, masked_by, row_bytes}
use Rattle.byte_runs.proofs.Runs.{Backward, run_settled}
use Rattle.byte_runs.proofs.Blocks.{backward_above}
use Rattle.byte_runs.proofs.Pixels.{turn_byte}
use Rattle.byte_runs.proofs.Parts.{take-run, drop-run}
use Rattle.rle.specs.Painting.{Painted}
use Rattle.rle.proofs.Painting.{of_depth_xor, above-is, turn-pixel}

-- ---- a list that holds the pixels is painted

-- each pixel has the color of its ink over the pixels before it in the same list
painted_of : (D w k n : ℕ) (ink : ℕ → Ink) (xs ys : List ℕ) → 1 ≤ D → take (k * D) ys ≡ take (k * D) xs → drop ((k + n) * D) ys ≡ drop ((k + n) * D) xs
    → ((j : ℕ) → j < n → pixel_at D ys (k + j) ≡ color w (pixels_of D (k + j) ys) (ink j)) → Painted D w ink k n xs ys
unfolding paint pixels_of
painted_of D w k n ink xs ys low kept rest each = record { pixels = so n (le_refl n); rest = rest }
  where
    so : (m : ℕ) → m ≤ n → pixels_of D (k + m) ys ≡ paint w ink m (pixels_of D k xs)
    so zero h = rw add-zero (pixels_cong D k ys xs low kept)
    so (suc m) h =
        rw add-suc
        ((λ i. pixels_of D (k + m) ys ++ (each m (omega arith) i ∷ []))
        ∙ ap (λ (ps : List Pixel). ps ++ (color w ps (ink m) ∷ [])) (so m (omega arith)))

-- the pixel that some bytes are
pixel-is : (D j : ℕ) (ys : List ℕ) (p : Pixel) → 1 ≤ D → OfDepth D p → ((i : ℕ) → i < D → get_or ys (j * D + i) 0 ≡ get_or p i 0) → pixel_at D ys j ≡ p
unfolding pixel_at
pixel-is D j ys p low of e = first_pixel_cong D (drop (j * D) ys) p low (λ i h. get_or-drop (j * D) ys i 0 ∙ e i h) ∙ of

-- ---- a run of bytes that are those of the pixels

-- n pixels from number k on, written by v into xs
module _ (D w k n : ℕ) (ink : ℕ → Ink) (v : List ℕ → ℕ → ℕ) (xs : List ℕ) (low : 1 ≤ D) (fits : (k + n) * D ≤ length xs) (back : Backward v (k * D)) where
  abbrev written : List ℕ
  written = run v (k * D) (n * D) xs

  -- byte i of pixel j
  byte_is : (j i : ℕ) → j < n → i < D → get_or written ((k + j) * D + i) 0 ≡ v written (j * D + i)
  byte_is j i h b =
      let inside : j * D + i < n * D = omega (arith, mul-le-mul_right {m = j + 1} {n = n} D (omega arith)) in
      let place : (k + j) * D + i ≡ k * D + (j * D + i) = omega arith in
      ap (λ (m : ℕ). get_or written m 0) place ∙ run_settled v (k * D) (n * D) (j * D + i) xs back inside (omega arith)

  run-painted : ((j : ℕ) → j < n → OfDepth D (color w (pixels_of D (k + j) written) (ink j)))
      → ((j i : ℕ) → j < n → i < D → v written (j * D + i) ≡ get_or (color w (pixels_of D (k + j) written) (ink j)) i 0)
      → Painted D w ink k n xs written
  run-painted of each =
      painted_of D w k n ink xs written low (take-run v (k * D) (n * D) xs) (drop-run v (k * D) (n * D) ((k + n) * D) xs (omega arith))
      (λ j h. pixel-is D (k + j) written (color w (pixels_of D (k + j) written) (ink j)) low (of j h) (λ i b. byte_is j i h b ∙ each j i h b))

row_back : (m w k j i D : ℕ) → m + w ≡ k + j → k * D + (j * D + i) - w * D ≡ m * D + i
row_back m w k j i D e =
    let bytes : (m + w) * D ≡ (k + j) * D = ap (λ (x : ℕ). x * D) e in
    omega arith

-- the byte above: that of the pixel above
above_byte : (D w k j i : ℕ) (ys : List ℕ) → 1 ≤ D → D ≤ 3 → 1 ≤ w → w ≤ k → i < D
    → get_or ys (k * D + (j * D + i) - w * D) 0 ≡ get_or (pixel_above w (pixels_of D (k + j) ys)) i 0
unfolding pixel_at
above_byte D w k j i ys low high wide row h =
    let place : k * D + (j * D + i) - w * D ≡ (k + j - w) * D + i = row_back (k + j - w) w k j i D (omega arith) in
    ap (λ (m : ℕ). get_or ys m 0) place
    ∙ sym (get_or-drop ((k + j - w) * D) ys i 0)
    ∙ sym (get_or-first_pixel D (drop ((k + j - w) * D) ys) i h high)
    ∙ ap (λ (p : Pixel). get_or p i 0) (sym (above-is D w (k + j) ys wide (omega arith)))

-- a byte of an exclusive-or
xor_byte : (i : ℕ) (p q : Pixel) → i < 3 → get_or (xor_pixel p q) i 0 ≡ bit_xor (get_or p i 0) (get_or q i 0)
unfolding xor_pixel
xor_byte zero p q h = refl
xor_byte (suc zero) p q h = refl
xor_byte (suc (suc zero)) p q h = refl
xor_byte (suc (suc (suc i))) p q h = absurd (omega arith)

-- byte i of pixel j of two pixels that are repeated
pair_byte : (D j i : ℕ) (p q : Pixel) → D ≤ length p → i < D → turn (pair_of D p q) (2 * D) (j * D + i) ≡ get_or (pick (eqb (j % 2) 0) p q) i 0
pair_byte D j i p q long h =
    ap (λ (m : ℕ). get_or (pair_of D p q) m 0) place ∙ so (j % 2) (mod-lt j (omega arith))
  where
    place : (j * D + i) % (2 * D) ≡ j % 2 * D + i
    place =
        let e : (2 * (j / 2) + j % 2) * D ≡ j * D = ap (λ (m : ℕ). m * D) (div-add-mod j 2) in
        let t : j * D + i ≡ j / 2 * (2 * D) + (j % 2 * D + i) = omega arith in
        let bit : j % 2 < 2 = mod-lt j (omega arith) in
        let few : j % 2 * D + i < 2 * D = omega (arith, mul-le-mul_right {m = j % 2} {n = 1} D (omega arith)) in
        ap (λ (m : ℕ). m % (2 * D)) t ∙ mul-add-mod_self_right (j / 2) (2 * D) (j % 2 * D + i) ∙ mod-eq_of_lt few

    so : (r : ℕ) → r < 2 → get_or (pair_of D p q) (r * D + i) 0 ≡ get_or (pick (eqb r 0) p q) i 0
    so zero b = rw (zero-mul, zero-add) (get_or-append (take D p) (take D q) 0 i (rw (length-take-le D p long) h) ∙ get_or-take D p i 0 h)
    so (suc zero) b =
        rw one-mul
        (ap (λ (m : ℕ). get_or (pair_of D p q) (m + i) 0) (sym (length-take-le D p long))
        ∙ get_or-append-add (take D p) (take D q) i 0
        ∙ get_or-take D q i 0 h)
    so (suc (suc r)) b = absurd (omega arith)

-- ---- masks

-- the bit of pixel j
abbrev bit_of : List ℕ → ℕ → ℕ → ℕ
bit_of s from j = get_or s (from + j / 8) 0 / 2 ^ (j % 8) % 2

-- byte i of pixel j
masked_byte : (D j i : ℕ) (s : List ℕ) (from : ℕ) (p : Pixel) → 1 ≤ D → i < D → masked_by s from D p (j * D + i) ≡ pick (eqb (bit_of s from j) 1) (get_or p i 0) 0
masked_byte D j i s from p low h =
    (λ t. inked (get_or s (from + mask t) 0) (turn_byte D j i p h t) (pixel t % 8)) ∙ so (bit_of s from j) (mod-lt _ (omega arith))
  where
    pixel : (j * D + i) / D ≡ j
    pixel = mul-add-div_right (omega arith) j i ∙ ap (λ (m : ℕ). j + m) (div-eq_of_lt h) ∙ add-zero j

    mask : (j * D + i) / (8 * D) ≡ j / 8
    mask = ap (λ (m : ℕ). (j * D + i) / m) (mul_comm 8 D) ∙ sym (div-div-eq-div-mul (j * D + i) D 8) ∙ ap (λ (m : ℕ). m / 8) pixel

    so : (t : ℕ) → t < 2 → t * get_or p i 0 ≡ pick (eqb t 1) (get_or p i 0) 0
    so zero b = zero-mul (get_or p i 0)
    so (suc zero) b = one-mul (get_or p i 0)
    so (suc (suc t)) b = absurd (omega arith)

zeros_byte : (i : ℕ) → i < 3 → ◌≡◌ {A = ℕ} 0 (get_or (0 ∷ 0 ∷ 0 ∷ []) i 0)
zeros_byte zero h = refl
zeros_byte (suc zero) h = refl
zeros_byte (suc (suc zero)) h = refl
zeros_byte (suc (suc (suc i))) h = absurd (omega arith)

-- a pixel by its bit, over the pixels ps
module _ (w : ℕ) (ps : List Pixel) (p : Pixel) where
  first_by : (bit : Bool) (i : ℕ) → i < 3 → pick bit (get_or p i 0) 0 ≡ get_or (color w ps (pick bit (solid p) (solid (0 ∷ 0 ∷ 0 ∷ [])))) i 0
  unfolding color
  first_by true i h = refl
  first_by false i h = zeros_byte i h

  later_by : (bit : Bool) (i : ℕ) → i < 3 → bit_xor (get_or (pixel_above w ps) i 0) (pick bit (get_or p i 0) 0) ≡ get_or (color w ps (pick bit (above_xor p) above)) i 0
  unfolding color
  later_by true i h = sym (xor_byte i (pixel_above w ps) p h)
  later_by false i h = xor_zero_r (get_or (pixel_above w ps) i 0)

  first-depth : (D : ℕ) (bit : Bool) → OfDepth D p → OfDepth D (color w ps (pick bit (solid p) (solid (0 ∷ 0 ∷ 0 ∷ []))))
  unfolding color
  first-depth D true of = of
  first-depth D false of = zeros_of_depth D

  later_depth : (D : ℕ) (bit : Bool) → OfDepth D p → OfDepth D (pixel_above w ps) → OfDepth D (color w ps (pick bit (above_xor p) above))
  unfolding color
  later_depth D true of above_of = of_depth_xor D (pixel_above w ps) p above_of of
  later_depth D false of above_of = above_of

-- pixel j of an image has the ink of its bit
bit_ink : (fg bg : Ink) (s : List ℕ) (from j : ℕ) → pick (eqb (bit_of s from j) 1) fg bg ≡ image_ink fg bg (drop from s) j
unfolding image_ink mask_ink
bit_ink fg bg s from j = rw get_or-drop

-- ---- the ways to write

-- n pixels from number k on
module _ (D w k n : ℕ) (xs : List ℕ) (low : 1 ≤ D) (high : D ≤ 3) (fits : (k + n) * D ≤ length xs) where
  -- in a color
  pub fill_painted : (p : Pixel) → OfDepth D p → Painted D w (λ _. solid p) k n xs (run (bytes (turn p D)) (k * D) (n * D) xs)
  unfolding color
  fill_painted p of =
      run-painted D w k n (λ _. solid p) (bytes (turn p D)) xs low fits (λ x y m e. refl) (λ j h. of) (λ j i h b. turn_byte D j i p b)

  -- those that stand in s from a place on
  pub image-painted : (s : List ℕ) (from : ℕ) → Painted D w (λ j. solid (pixel_at D (drop from s) j)) k n xs (run (taken s from) (k * D) (n * D) xs)
  unfolding color pixel_at
  image-painted s from =
      run-painted D w k n (λ j. solid (pixel_at D (drop from s) j)) (taken s from) xs low fits (λ x y m e. refl)
      (λ j h. of_depth D (drop (j * D) (drop from s)) low high)
      (λ j i h b.
      sym (get_or-drop from s (j * D + i) 0)
      ∙ sym (get_or-drop (j * D) (drop from s) i 0)
      ∙ sym (get_or-first_pixel D (drop (j * D) (drop from s)) i b high))

  -- by the row above
  module _ (wide : 1 ≤ w) (row : w ≤ k) where
    far : 0 < w * D
    far = omega (arith, mul-le-mul_right {m = 1} {n = w} D wide)

    there : w * D ≤ k * D
    there = mul-le-mul_right {m = w} {n = k} D row

    above_of_depth : (j : ℕ) (ys : List ℕ) → OfDepth D (pixel_above w (pixels_of D (k + j) ys))
    unfolding pixel_at
    above_of_depth j ys = rw (above-is D w (k + j) ys wide (omega arith)) (of_depth D (drop ((k + j - w) * D) ys) low high)

    -- that row's pixels
    pub back-painted : Painted D w (λ _. above) k n xs (run (runs.above (k * D) (w * D)) (k * D) (n * D) xs)
    unfolding color
    back-painted =
        run-painted D w k n (λ _. above) (runs.above (k * D) (w * D)) xs low fits (backward_above (λ (b m : ℕ). b) (k * D) (w * D) far there)
        (λ j h. above_of_depth j _) (λ j i h b. above_byte D w k j i _ low high wide row b)

    -- those exclusive-or a color
    pub xor_painted : (p : Pixel) → OfDepth D p → Painted D w (λ _. above_xor p) k n xs (run (xored (k * D) (w * D) (turn p D)) (k * D) (n * D) xs)
    unfolding color
    xor_painted p of =
        let ys : List ℕ = run (xored (k * D) (w * D) (turn p D)) (k * D) (n * D) xs in
        run-painted D w k n (λ _. above_xor p) (xored (k * D) (w * D) (turn p D)) xs low fits
        (backward_above (λ (b m : ℕ). bit_xor b (turn p D m)) (k * D) (w * D) far there)
        (λ j h. of_depth_xor D (pixel_above w (pixels_of D (k + j) ys)) p (above_of_depth j ys) of)
        (λ j i h b.
        (λ t. bit_xor (above_byte D w k j i ys low high wide row b t) (turn_byte D j i p b t))
        ∙ sym (xor_byte i (pixel_above w (pixels_of D (k + j) ys)) p (omega arith)))

  -- two colors by turns
  pub dither_painted : (p q : Pixel) → OfDepth D p → OfDepth D q
      → Painted D w (dither_ink p q) k n xs (run (bytes (turn (pair_of D p q) (2 * D))) (k * D) (n * D) xs)
  unfolding color dither_ink
  dither_painted p q of of' =
      run-painted D w k n (dither_ink p q) (bytes (turn (pair_of D p q) (2 * D))) xs low fits (λ x y m e. refl)
      (λ j h. turn-pixel D p q (eqb (j % 2) 0) of of') (λ j i h b. pair_byte D j i p q (rw (length_of_depth D p of) high) b)

  -- by masks in the first row, where a bit of 0 is zeros
  pub first-painted : (s : List ℕ) (from : ℕ) (p : Pixel) → OfDepth D p
      → Painted D w (image_ink (solid p) (solid (0 ∷ 0 ∷ 0 ∷ [])) (drop from s)) k n xs (run (bytes (masked_by s from D p)) (k * D) (n * D) xs)
  first-painted s from p of =
      let ys : List ℕ = run (bytes (masked_by s from D p)) (k * D) (n * D) xs in
      run-painted D w k n (image_ink (solid p) (solid (0 ∷ 0 ∷ 0 ∷ [])) (drop from s)) (bytes (masked_by s from D p)) xs low fits (λ x y m e. refl)
      (λ j h. rw (← bit_ink) (first-depth w (pixels_of D (k + j) ys) p D (eqb (bit_of s from j) 1) of))
      (λ j i h b. masked_byte D j i s from p low b ∙ rw (← bit_ink) (first_by w (pixels_of D (k + j) ys) p (eqb (bit_of s from j) 1) i (omega arith)))

  -- by masks in later rows
  pub later_painted : 1 ≤ w → w ≤ k → (s : List ℕ) (from : ℕ) (p : Pixel) → OfDepth D p
      → Painted D w (image_ink (above_xor p) above (drop from s)) k n xs (run (xored (k * D) (w * D) (masked_by s from D p)) (k * D) (n * D) xs)
  later_painted wide row s from p of =
      let ys : List ℕ = run (xored (k * D) (w * D) (masked_by s from D p)) (k * D) (n * D) xs in
      run-painted D w k n (image_ink (above_xor p) above (drop from s)) (xored (k * D) (w * D) (masked_by s from D p)) xs low fits
      (backward_above (λ (b m : ℕ). bit_xor b (masked_by s from D p m)) (k * D) (w * D) (far wide row) (there wide row))
      (λ j h. rw (← bit_ink) (later_depth w (pixels_of D (k + j) ys) p D (eqb (bit_of s from j) 1) of (above_of_depth wide row j ys)))
      (λ j i h b.
      (λ t. bit_xor (above_byte D w k j i ys low high wide row b t) (masked_byte D j i s from p low b t))
      ∙ rw (← bit_ink) (later_by w (pixels_of D (k + j) ys) p (eqb (bit_of s from j) 1) i (omega arith)))
