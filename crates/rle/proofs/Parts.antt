-- Laws of a part of the target that a writer was lent: what it wrote there are painted pixels. The part is as long as what is written,
-- so every test of the writer holds. Assumes nothing.
use mathlib.Core.Path.{◌≡◌, refl, ap, sym, ◌∙◌, subst}
use mathlib.Core.List.{List, ◌++◌}
use mathlib.Core.Bool.{Bool, true}
use Rattle.std.specs.Prelude.{Option, None, Some}
use Rattle.std.specs.Option.{unwrap_or}
use Prim.Native.Nat.{ℕ, ◌+◌, ◌-◌, ◌*◌, ◌/◌, ◌%◌, ◌≤◌, ◌<◌, zero-le}
use native.Mathlib.Nat.{add-zero, zero-add, le_refl, mul-le-mul_right, div-lt_iff_lt-mul}
use native.Mathlib.Omega.{arith}
use lib.Dec.{leb}
use lib.Bits.{bit_xor}
use lib.ListN.{length, get_or, take, drop}
use lib.Seq.{get_or-take, get_or-drop, length-take-le}
use borrow.Author.Tests.{le-leb, leb-true}
use Rattle.picture.specs.Pixels.{Pixel, pixel_at, OfDepth}
use Rattle.definition.specs.Decode.{solid, above, dither_ink}
use Rattle.definition.specs.Plan.{image_ink}
use Rattle.byte_runs.specs.Runs as runs
use Rattle.byte_runs.specs.Runs.{run, run_where, both, there, pixels_there, bytes, taken, turn, pair_of, xored, inked, masked_by, row_there, row_bytes}
use Rattle.byte_runs.proofs.Fits.{both_hold, is-there, pixels-there}
use Rattle.byte_runs.proofs.Parts.{in_part, length_part}
use Rattle.byte_runs.proofs.Runs.{run_cong}
use Rattle.rle.specs.declared.paint.Ink.{Ink as CodeInk}
use Rattle.rle.specs.declared.paint.Ink.TheVariants.{Solid, Above, AboveXor}
use Rattle.rle.specs.declared.span.Span.{Span}
use Rattle.rle.specs.Painting.{HasPlace, HasAbove, Paintable, HasColor, Painted, Paints, ink_of, zero_ink, back_and_color}
use Rattle.rle.proofs.Writers.{back-painted, image-painted, dither_painted, first-painted, later_painted}

-- the list with the part as it then is
abbrev put_back : ℕ → ℕ → List ℕ → List ℕ → List ℕ
put_back b m xs part = take b xs ++ (part ++ drop m (drop b xs))

-- `len` bytes from place `at` on that do not depend on the list, in the part that is theirs
own_run : (u : ℕ → ℕ) (at len : ℕ) (xs part : List ℕ) (test : Bool) → at + len ≤ length xs → test ≡ true
    → part ≡ run_where test (bytes u) 0 len (take (at + len - at) (drop at xs))
    → put_back at (at + len - at) xs part ≡ run (bytes u) at len xs
own_run u at len xs part test fits holds e =
    in_part (bytes u) (bytes u) at (at + len - at) 0 len xs part holds (omega arith) (omega arith) (λ x j h. refl) e
    ∙ ap (λ (a : ℕ). run (bytes u) a len xs) (add-zero at)

pub part_filled : (d at n : ℕ) (xs part : List ℕ) → 1 ≤ d → d ≤ 3 → at + n * d ≤ length xs → (p : Pixel)
    → part ≡ run_where (pixels_there d 0 n (take (at + n * d - at) (drop at xs))) (bytes (turn p d)) 0 (n * d) (take (at + n * d - at) (drop at xs))
    → put_back at (at + n * d - at) xs part ≡ run (bytes (turn p d)) at (n * d) xs
part_filled d at n xs part low high fits p e =
    own_run (turn p d) at (n * d) xs part _ fits
    (pixels-there d 0 n _ low high (omega (arith, length_part at (at + n * d - at) xs (omega arith)))) e

-- the pixels of a span, in the part that is theirs
module _ (span : Span) (xs part : List ℕ) (place : HasPlace span xs) where
  abbrev D : ℕ
  D = span.bytes

  abbrev w : ℕ
  w = span.width

  abbrev k : ℕ
  k = span.start

  abbrev n : ℕ
  n = span.pixels

  abbrev size : ℕ
  size = k * D + n * D - k * D

  abbrev own : List ℕ
  own = take size (drop (k * D) xs)

  inside : k * D + size ≤ length xs
  inside = omega (arith, place)

  all_own : n * D ≤ length own
  all_own = omega (arith, length_part (k * D) size xs inside)

  pub part_copied : (s : List ℕ) → n * D ≤ length s
      → part ≡ run_where (both (there 0 (n * D) (take (n * D) s)) (there 0 (n * D) own)) (taken (take (n * D) s) 0) 0 (n * D) own
      → Painted D w (λ j. solid (pixel_at D s j)) k n xs (put_back (k * D) size xs part)
  part_copied s enough e =
      let source : List ℕ = take (n * D) s in
      let holds : both (there 0 (n * D) source) (there 0 (n * D) own) ≡ true =
      both_hold _ _ (is-there 0 (n * D) source (omega (arith, length-take-le (n * D) s enough))) (is-there 0 (n * D) own (omega (arith, all_own))) in
      subst (λ (ys : List ℕ). Painted D w (λ j. solid (pixel_at D s j)) k n xs ys)
      (sym
      (in_part (taken source 0) (taken s 0) (k * D) size 0 (n * D) xs part holds inside (omega arith)
      (λ x j h. get_or-take (n * D) s (0 + j) 0 (omega arith))
      e
      ∙ ap (λ (at : ℕ). run (taken s 0) at (n * D) xs) (add-zero (k * D))))
      (image-painted D w k n xs span.low span.high place s 0)

  -- two colors by turns, in pairs
  pub part_paired : (p q : Pixel) (pairs : ℕ) → n ≡ pairs * 2 → OfDepth D p → OfDepth D q
      → part ≡ run_where (pixels_there D 0 (pairs * 2) own) (bytes (turn (pair_of D p q) (2 * D))) 0 (pairs * 2 * D) own
      → Painted D w (dither_ink p q) k n xs (put_back (k * D) size xs part)
  part_paired p q pairs en of of' e =
      let em : pairs * 2 * D ≡ n * D = ap (λ (m : ℕ). m * D) (sym en) in
      let holds : pixels_there D 0 (pairs * 2) own ≡ true = pixels-there D 0 (pairs * 2) own span.low span.high (omega (arith, all_own)) in
      subst (λ (ys : List ℕ). Painted D w (dither_ink p q) k n xs ys)
      (sym (own_run (turn (pair_of D p q) (2 * D)) (k * D) (n * D) xs part (pixels_there D 0 (pairs * 2) own) (omega (arith, place)) holds
      (e ∙ (λ i. run_where (pixels_there D 0 (pairs * 2) own) (bytes (turn (pair_of D p q) (2 * D))) 0 (em i) own))))
      (dither_painted D w k n xs span.low span.high place p q of of')

-- `len` bytes from place `at` on, in a part that has the bytes from `row` places back on too
module _ (at row : ℕ) (xs part : List ℕ) where
  module _ (len : ℕ) (back : row ≤ at) (fits : at + len ≤ length xs) where
    abbrev begin : ℕ
    begin = at - row

    abbrev extent : ℕ
    extent = at + len - (at - row)

    abbrev both-rows : List ℕ
    both-rows = take extent (drop begin xs)

    there_too : row + len ≤ length both-rows
    there_too = omega (arith, length_part begin extent xs (omega arith))

    own_row : leb row row ≡ true
    own_row = le-leb row row (le_refl row)

    -- bytes made of those a row back
    rows_run : (g h : ℕ → ℕ → ℕ) → ((b j : ℕ) → j < len → g b j ≡ h b j) → (test : Bool) → test ≡ true
        → part ≡ run_where test (λ (x : List ℕ) (j : ℕ). g (get_or x (row + j - row) 0) j) row len both-rows
        → put_back begin extent xs part ≡ run (λ (x : List ℕ) (j : ℕ). h (get_or x (at + j - row) 0) j) at len xs
    rows_run g h same test holds e =
        let is : at - row + row ≡ at = omega arith in
        in_part (λ (x : List ℕ) (j : ℕ). g (get_or x (row + j - row) 0) j) (λ (x : List ℕ) (j : ℕ). h (get_or x (at + j - row) 0) j)
        begin extent row len xs part holds (omega arith) (omega arith)
        (λ x j b.
        let i : begin + (row + j - row) ≡ at + j - row = omega arith in
        same _ j b
        ∙ ap (λ (o : ℕ). h o j)
        (get_or-take extent (drop begin x) (row + j - row) 0 (omega arith) ∙ get_or-drop begin x (row + j - row) 0 ∙ ap (λ (a : ℕ). get_or x a 0) i))
        e
        ∙ ap (λ (a : ℕ). run (λ (x : List ℕ) (j : ℕ). h (get_or x (at + j - row) 0) j) a len xs) is

    part_back : part ≡ run_where (both (leb row row) (there row len both-rows)) (runs.above row row) row len both-rows
        → put_back begin extent xs part ≡ run (runs.above at row) at len xs
    part_back e =
        rows_run (λ (b j : ℕ). b) (λ (b j : ℕ). b) (λ b j h. refl) (both (leb row row) (there row len both-rows))
        (both_hold _ _ own_row (is-there row len both-rows there_too)) e

  pub part_mixed : (d n : ℕ) → 1 ≤ d → d ≤ 3 → (back : row ≤ at) (fits : at + n * d ≤ length xs) (p : Pixel)
      → part ≡ run_where (both (leb row row) (pixels_there d row n (both-rows (n * d) back fits))) (xored row row (turn p d)) row (n * d) (both-rows (n * d) back fits)
      → put_back (begin (n * d) back fits) (extent (n * d) back fits) xs part ≡ run (xored at row (turn p d)) at (n * d) xs
  part_mixed d n low high back fits p e =
      let holds : both (leb row row) (pixels_there d row n (both-rows (n * d) back fits)) ≡ true =
      both_hold _ _ (own_row (n * d) back fits) (pixels-there d row n (both-rows (n * d) back fits) low high (there_too (n * d) back fits)) in
      rows_run (n * d) back fits (λ (b j : ℕ). bit_xor b (turn p d j)) (λ (b j : ℕ). bit_xor b (turn p d j)) (λ b j h. refl) (both (leb row row) (pixels_there d row n (both-rows (n * d) back fits))) holds e

-- the pixels of a span, in a part that has the row above too
pub part_above : (span : Span) (xs part : List ℕ) → HasPlace span xs → HasAbove span
    → part ≡ run_where
    (both (leb (span.width * span.bytes) (span.width * span.bytes)) (there (span.width * span.bytes) (span.pixels * span.bytes) (take (span.start * span.bytes + span.pixels * span.bytes - (span.start * span.bytes - span.width * span.bytes)) (drop (span.start * span.bytes - span.width * span.bytes) xs))))
    (runs.above (span.width * span.bytes) (span.width * span.bytes)) (span.width * span.bytes) (span.pixels * span.bytes)
    (take (span.start * span.bytes + span.pixels * span.bytes - (span.start * span.bytes - span.width * span.bytes)) (drop (span.start * span.bytes - span.width * span.bytes) xs))
    → Paints span (λ _. above) xs (put_back (span.start * span.bytes - span.width * span.bytes) (span.start * span.bytes + span.pixels * span.bytes - (span.start * span.bytes - span.width * span.bytes)) xs part)
part_above span xs part place row e =
    subst (λ (ys : List ℕ). Paints span (λ _. above) xs ys)
    (sym (part_back (span.start * span.bytes) (span.width * span.bytes) xs part (span.pixels * span.bytes)
    (mul-le-mul_right {m = span.width} {n = span.start} span.bytes row) (omega (arith, place)) e))
    (back-painted span.bytes span.width span.start span.pixels xs span.low span.high place span.wide row)

-- ---- masks

-- masks that stand in a part of the stream
masked_source : (s q : List ℕ) (from m D j : ℕ) → 1 ≤ D → j < m * 8 * D → masked_by (take (from + m - from) (drop from s)) 0 D q j ≡ masked_by s from D q j
masked_source s q from m D j low h =
    let wide : j < m * (8 * D) = omega arith in
    let some : 0 < 8 * D = omega arith in
    let few : j / (8 * D) < m = (div-lt_iff_lt-mul some).1 wide in
    ap (λ (b : ℕ). inked b (turn q D j) (j / D % 8))
    (ap (λ (i : ℕ). get_or (take (from + m - from) (drop from s)) i 0) (zero-add (j / (8 * D)))
    ∙ get_or-take (from + m - from) (drop from s) (j / (8 * D)) 0 (omega arith)
    ∙ get_or-drop from s (j / (8 * D)) 0)

-- m masks from place `from` of s on, for pixels of D bytes
module _ (D : ℕ) (s : List ℕ) (from m : ℕ) (low : 1 ≤ D) (high : D ≤ 3) (p : Pixel) (enough : from + m ≤ length s) where
  abbrev source : List ℕ
  source = take (from + m - from) (drop from s)

  source_there : there 0 m source ≡ true
  source_there = is-there 0 m source (omega (arith, length_part from (from + m - from) s (omega arith)))

  -- in the part of xs that their pixels, and the bytes back there, have
  module _ (at : ℕ) (xs part : List ℕ) (fits : at + m * 8 * D ≤ length xs) where
    abbrev lent : ℕ → List ℕ
    lent row = take (at + m * 8 * D - (at - row)) (drop (at - row) xs)

    lent_long : (row : ℕ) → row ≤ at → row + m * 8 * D ≤ length (lent row)
    lent_long row h = omega (arith, length_part (at - row) (at + m * 8 * D - (at - row)) xs (omega arith))

    abbrev tested : Option ℕ → ℕ → Bool
    tested back row = both (row_there back row) (both (there 0 m source) (pixels_there D row (m * 8) (lent row)))

    tested_holds : (back : Option ℕ) (row : ℕ) → row ≤ at → row_there back row ≡ true → tested back row ≡ true
    tested_holds back row h r = both_hold _ _ r (both_hold _ _ source_there (pixels-there D row (m * 8) (lent row) low high (lent_long row h)))

    pub part_masked : (back : Option ℕ) (row : ℕ) → row ≡ unwrap_or back 0 → row_there back at ≡ true
        → part ≡ run_where (tested back row) (row_bytes back row (masked_by source 0 D p)) row (m * 8 * D) (lent row)
        → put_back (at - row) (at + m * 8 * D - (at - row)) xs part ≡ run (row_bytes back at (masked_by s from D p)) at (m * 8 * D) xs
    part_masked None row is back e =
        let b : at - 0 + 0 ≡ at = omega arith in
        rw is
        (in_part (bytes (masked_by source 0 D p)) (bytes (masked_by s from D p)) (at - 0) (at + m * 8 * D - (at - 0)) 0 (m * 8 * D) xs part
        (tested_holds None 0 zero-le refl) (omega arith) (omega arith) (λ x j h. masked_source s p from m D j low h) (rw is at e)
        ∙ ap (λ (a : ℕ). run (bytes (masked_by s from D p)) a (m * 8 * D) xs) b)
    part_masked (Some r) row is back e =
        let below : r ≤ at = leb-true r at back in
        rw is
        (rows_run at r xs part (m * 8 * D) below fits (λ (b j : ℕ). bit_xor b (masked_by source 0 D p j)) (λ (b j : ℕ). bit_xor b (masked_by s from D p j))
        (λ b j h. ap (λ (u : ℕ). bit_xor b u) (masked_source s p from m D j low h)) (tested (Some r) r) (tested_holds (Some r) r below (le-leb r r (le_refl r))) (rw is at e))

-- the first n pixels of one mask, in the whole target
pub few_masked : (D at n : ℕ) (xs ys s : List ℕ) (from : ℕ) (back : Option ℕ) → 1 ≤ D → D ≤ 3 → at + n * D ≤ length xs → n ≤ 8 → from < length s
    → row_there back at ≡ true → (p : Pixel)
    → ys ≡ run_where (both (row_there back at) (both (both (leb n 8) (there 0 1 (take (from + 1 - from) (drop from s)))) (pixels_there D at n xs)))
    (row_bytes back at (masked_by (take (from + 1 - from) (drop from s)) 0 D p)) at (n * D) xs
    → ys ≡ run (row_bytes back at (masked_by s from D p)) at (n * D) xs
few_masked D at n xs ys s from back low high fits few there-in row p e =
    e ∙ ap (λ (t : Bool). run_where t (row_bytes back at (masked_by one 0 D p)) at (n * D) xs) holds ∙ source_is back
  where
    one : List ℕ
    one = take (from + 1 - from) (drop from s)

    holds : both (row_there back at) (both (both (leb n 8) (there 0 1 one)) (pixels_there D at n xs)) ≡ true
    holds =
        both_hold _ _ row
        (both_hold _ _ (both_hold _ _ (le-leb n 8 few) (is-there 0 1 one (omega (arith, length_part from (from + 1 - from) s (omega arith)))))
        (pixels-there D at n xs low high fits))

    same_mask : (j : ℕ) → j < n * D → masked_by one 0 D p j ≡ masked_by s from D p j
    same_mask j h = masked_source s p from 1 D j low (omega (arith, mul-le-mul_right {m = n} {n = 8} D few))

    source_is : (b : Option ℕ) → run (row_bytes b at (masked_by one 0 D p)) at (n * D) xs ≡ run (row_bytes b at (masked_by s from D p)) at (n * D) xs
    source_is None = run_cong (bytes (masked_by one 0 D p)) (bytes (masked_by s from D p)) at (n * D) xs same_mask
    source_is (Some r) =
        run_cong (xored at r (masked_by one 0 D p)) (xored at r (masked_by s from D p)) at (n * D) xs
        (λ j h. ap (λ (b : ℕ). bit_xor (get_or (run (xored at r (masked_by one 0 D p)) at j xs) (at + j - r) 0) b) (same_mask j h))

-- the row above is there where masks look at it
pub back_there : (span : Span) (ink : CodeInk) → Paintable span ink → row_there (back_and_color span ink).0 (span.start * span.bytes) ≡ true
back_there span (Solid p) of = refl
back_there span Above of = le-leb _ _ (mul-le-mul_right {m = span.width} {n = span.start} span.bytes of)
back_there span (AboveXor p) of = le-leb _ _ (mul-le-mul_right {m = span.width} {n = span.start} span.bytes of.0)

-- what masks write are pixels with the inks of their bits
pub masks_painted : (span : Span) (xs s : List ℕ) (from : ℕ) (ink : CodeInk) → HasPlace span xs → Paintable span ink → HasColor ink
    → Paints span (image_ink (ink_of ink) (zero_ink ink) (drop from s)) xs
    (run (row_bytes (back_and_color span ink).0 (span.start * span.bytes) (masked_by s from span.bytes (back_and_color span ink).1)) (span.start * span.bytes) (span.pixels * span.bytes) xs)
masks_painted span xs s from (Solid p) place of color = first-painted span.bytes span.width span.start span.pixels xs span.low span.high place s from p of
masks_painted span xs s from Above place of color = absurd color
masks_painted span xs s from (AboveXor p) place of color =
    later_painted span.bytes span.width span.start span.pixels xs span.low span.high place span.wide of.0 s from p of.1
