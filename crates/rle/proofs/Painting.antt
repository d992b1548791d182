-- Laws of painting: one pixel, then n of them. Assumes nothing.
use mathlib.Core.Path.{◌≡◌, refl, ap, sym, ◌∙◌, subst}
use mathlib.Core.List.{List, [], ◌∷◌, ◌++◌}
use mathlib.Core.Bool.{Bool, true, false}
use Rattle.std.specs.Prelude.{Some}
use Prim.Native.Nat.{ℕ, ◌+◌, ◌*◌, ◌-◌, ◌/◌, ◌%◌, ◌^◌, ◌≤◌, ◌<◌}
use native.Mathlib.Nat.{add-zero, add_assoc, mul-le-mul_right}
use native.Mathlib.Numerals.{add-one}
use native.Mathlib.Omega.{arith}
use lib.Dec.{ltb, eqb}
use borrow.Author.Tests.{ne_eqb}
use lib.Bits.{bit_xor}
use lib.ListN.{length, get_or, take, drop, take-append-drop}
use lib.Seq.{drop-drop, get_or-drop}
use Rattle.rle.specs.declared.paint.Ink.{Ink as CodeInk}
use Rattle.rle.specs.declared.span.Span.{Span}
use Rattle.base.specs.Picks.{pick}
use Rattle.picture.specs.Pixels.{Pixel, first_pixel, pixel_at, pixels_of, bytes_of, xor_pixel, OfDepth}
use Rattle.definition.specs.Decode.{Ink, solid, above, above_xor, color, paint, pixel_above, mask_ink, dither_ink}
use Rattle.definition.specs.Plan.{image_ink}
use Rattle.rle.specs.Stored.{store_pixel}
use Rattle.rle.specs.Painting.{HasPlace, HasAbove, IsPart, PaintedOne, Painted, Paints, ink_of, insert_inks}
use Rattle.picture.proofs.Pixels.{length-first_pixel, of_depth, length-pixels_of, get_or-pixels_of, bytes-pixels}
use Rattle.definition.proofs.Painting.{paint_cong, paint_add}
use Rattle.rle.proofs.Pixels.{store_before, store_there, store_after}

-- ---- colors have their unused bytes zero

pub read_of_depth : {D : ℕ} {p : Pixel} (xs : List ℕ) → 1 ≤ D → D ≤ 3 → p ≡ first_pixel D xs → OfDepth D p
read_of_depth {D} xs low high e = rw e (of_depth D xs low high)

xor_pick : (t : Bool) (a b : ℕ) → pick t a 0 ≡ a → pick t b 0 ≡ b → pick t (bit_xor a b) 0 ≡ bit_xor a b
xor_pick true a b p q = refl
xor_pick false a b p q = λ i. bit_xor (p i) (q i)

pub of_depth_xor : (D : ℕ) (a b : Pixel) → OfDepth D a → OfDepth D b → OfDepth D (xor_pixel a b)
unfolding first_pixel xor_pixel
of_depth_xor D a b p q = λ i.
    bit_xor (get_or a 0 0) (get_or b 0 0)
    ∷ xor_pick (ltb 1 D) (get_or a 1 0) (get_or b 1 0) (ap (λ (l : Pixel). get_or l 1 0) p) (ap (λ (l : Pixel). get_or l 1 0) q) i
    ∷ xor_pick (ltb 2 D) (get_or a 2 0) (get_or b 2 0) (ap (λ (l : Pixel). get_or l 2 0) p) (ap (λ (l : Pixel). get_or l 2 0) q) i
    ∷ []

-- ---- one pixel

-- the pixel above pixel k, in the bytes
pub above-is : (D w k : ℕ) (xs : List ℕ) → 1 ≤ w → w ≤ k → pixel_above w (pixels_of D k xs) ≡ pixel_at D xs (k - w)
unfolding pixel_above
above-is D w k xs h b = rw length-pixels_of (get_or-pixels_of D k xs (k - w) (0 ∷ 0 ∷ 0 ∷ []) (omega arith))

painted_one_of : (D w k : ℕ) (xs ys q : List ℕ) (ink : Ink) → 1 ≤ D → D ≤ 3 → (k + 1) * D ≤ length xs
    → OfDepth D q → q ≡ color w (pixels_of D k xs) ink → ys ≡ store_pixel D xs (k * D) q → PaintedOne D w ink k xs ys
unfolding pixels_of
painted_one_of D w k xs ys q ink low high fits of is e =
    let next : (k + 1) * D ≡ k * D + D = omega arith in
    let long : D ≤ length q = subst (λ (l : List ℕ). D ≤ length l) of (rw length-first_pixel high) in
    record {
      pixels =
          rw (e, add-one)
          (λ j. store_before D k xs q low (omega arith) long j
          ++ ((store_there D k xs q low (omega arith) long ∙ of ∙ is) j ∷ []));
      rest = rw (e, next) (store_after D k xs q low (omega arith) long);
    }

-- pixel i of a span has its place
pub one_place : (s : Span) (xs ys : List ℕ) (i : ℕ) → HasPlace s xs → i < s.pixels → length ys ≡ length xs
    → (s.start + i + 1) * s.bytes ≤ length ys
one_place s xs ys i p h e = omega (arith, p, mul-le-mul_right {m = s.start + i + 1} {n = s.start + s.pixels} s.bytes (omega arith))

-- the ways to paint pixel i of a span
module _ (s : Span) (i : ℕ) (xs ys : List ℕ) (place : HasPlace s xs) (inside : i < s.pixels) where
  abbrev k : ℕ
  k = s.start + i

  pub one-solid : {p : Pixel} → OfDepth s.bytes p → ys ≡ store_pixel s.bytes xs (k * s.bytes) p → PaintedOne s.bytes s.width (solid p) k xs ys
  unfolding color
  one-solid {p} of e = painted_one_of s.bytes s.width k xs ys p (solid p) s.low s.high (one_place s xs xs i place inside refl) of refl e

  -- q: the pixel above, in the bytes
  module _ {q : Pixel} (there : HasAbove s) (read : q ≡ first_pixel s.bytes (drop ((k - s.width) * s.bytes) xs)) where
    pub one-above : ys ≡ store_pixel s.bytes xs (k * s.bytes) q → PaintedOne s.bytes s.width above k xs ys
    unfolding color pixel_at
    one-above e =
        painted_one_of s.bytes s.width k xs ys q above s.low s.high (one_place s xs xs i place inside refl) (read_of_depth _ s.low s.high read)
        (read ∙ sym (above-is s.bytes s.width k xs s.wide (omega arith))) e

    pub one_xor : {p x : Pixel} → OfDepth s.bytes p → x ≡ xor_pixel q p → ys ≡ store_pixel s.bytes xs (k * s.bytes) x
        → PaintedOne s.bytes s.width (above_xor p) k xs ys
    unfolding color pixel_at
    one_xor {p} {x} of is e =
        painted_one_of s.bytes s.width k xs ys x (above_xor p) s.low s.high (one_place s xs xs i place inside refl)
        (rw is (of_depth_xor s.bytes q p (read_of_depth _ s.low s.high read) of))
        (is ∙ ap (λ (l : Pixel). xor_pixel l p) (read ∙ sym (above-is s.bytes s.width k xs s.wide (omega arith)))) e

-- ---- n pixels

pub painted-none : {D w k : ℕ} {ink : ℕ → Ink} {xs : List ℕ} → Painted D w ink k 0 xs xs
unfolding paint
painted-none = record { pixels = rw add-zero; rest = refl }

-- nothing to paint
pub painted-zero : {D w k n : ℕ} {ink : ℕ → Ink} {xs : List ℕ} → n ≡ 0 → Painted D w ink k n xs xs
painted-zero {D} {w} {k} {ink = ink} {xs} e = subst (λ (m : ℕ). Painted D w ink k m xs xs) (sym e) painted-none

pub painted_more : (D w k n : ℕ) (ink : ℕ → Ink) (xs ys zs : List ℕ) → Painted D w ink k n xs ys
    → PaintedOne D w (ink n) (k + n) ys zs → Painted D w ink k (n + 1) xs zs
unfolding paint
painted_more D w k n ink xs ys zs p o =
    let e : k + (n + 1) ≡ k + n + 1 = omega arith in
    let m : (k + (n + 1)) * D ≡ (k + n) * D + D = omega arith in
    let m' : (k + n + 1) * D ≡ (k + n) * D + D = omega arith in
    record {
      pixels = rw (e, o.pixels, p.pixels, add-one);
      rest =
          rw m
          ((rw m' at o.rest)
          ∙ sym (drop-drop D ((k + n) * D) ys)
          ∙ ap (λ (l : List ℕ). drop D l) p.rest
          ∙ drop-drop D ((k + n) * D) xs);
    }

-- what is kept from a place on is kept from each later place on
pub rest_later : (D p q : ℕ) (xs ys : List ℕ) → p ≤ q → drop (p * D) xs ≡ drop (p * D) ys → drop (q * D) xs ≡ drop (q * D) ys
rest_later D p q xs ys h e =
    let m : q * D ≡ p * D + (q * D - p * D) = omega (arith, mul-le-mul_right {m = p} {n = q} D h) in
    rw m (sym (drop-drop (q * D - p * D) (p * D) xs) ∙ ap (λ (l : List ℕ). drop (q * D - p * D) l) e ∙ drop-drop (q * D - p * D) (p * D) ys)

pub painted_at : {D w k i n : ℕ} {ink : ℕ → Ink} {xs ys : List ℕ} → i ≡ n → Painted D w ink k i xs ys → Painted D w ink k n xs ys
painted_at {D} {w} {k} {i} {n} {ink} {xs} {ys} e p = subst (λ (m : ℕ). Painted D w ink k m xs ys) e p

-- other inks
pub one_as : {D w k : ℕ} {i j : Ink} {xs ys : List ℕ} → i ≡ j → PaintedOne D w i k xs ys → PaintedOne D w j k xs ys
one_as {D} {w} {k} {i} {j} {xs} {ys} e p = subst (λ (x : Ink). PaintedOne D w x k xs ys) e p

pub painted_as : {D w k n : ℕ} {i j : ℕ → Ink} {xs ys : List ℕ} → ((m : ℕ) → m < n → i m ≡ j m) → Painted D w i k n xs ys → Painted D w j k n xs ys
painted_as {D} {w} {k} {n} {i} {j} {xs} e p = record { pixels = p.pixels ∙ paint_cong w i j n (pixels_of D k xs) e; rest = p.rest }

pub painted_join : (D w k m n : ℕ) (ink : ℕ → Ink) (xs ys zs : List ℕ) → Painted D w ink k m xs ys
    → Painted D w (λ j. ink (m + j)) (k + m) n ys zs → Painted D w ink k (m + n) xs zs
painted_join D w k m n ink xs ys zs p q =
    let e : k + (m + n) ≡ k + m + n = omega arith in
    let b : (k + m + n) * D ≡ (k + m) * D + n * D = omega arith in
    record {
      pixels = rw (e, q.pixels, p.pixels, paint_add);
      rest =
          rw (e, b)
          ((rw b at q.rest)
          ∙ sym (drop-drop (n * D) ((k + m) * D) ys)
          ∙ ap (λ (l : List ℕ). drop (n * D) l) p.rest
          ∙ drop-drop (n * D) ((k + m) * D) xs);
    }

-- the first pixel
pub first-painted : (D w k : ℕ) (ink : ℕ → Ink) (xs ys : List ℕ) → PaintedOne D w (ink 0) (k + 0) xs ys → Painted D w ink k 1 xs ys
unfolding paint
first-painted D w k ink xs ys o =
    let e = rw add-zero at o in
    record { pixels = e.pixels; rest = e.rest }

-- two targets that held the same, and are painted the same, hold the same
pub painted_same : {D w k n : ℕ} {ink : ℕ → Ink} {before₁ after₁ before₂ after₂ : List ℕ} → D ≤ 3 → (k + n) * D ≤ length before₁ → before₁ ≡ before₂
    → length after₁ ≡ length before₁ → length after₂ ≡ length before₂
    → Painted D w ink k n before₁ after₁ → Painted D w ink k n before₂ after₂ → after₁ ≡ after₂
painted_same {D} {w} {k} {n} {ink} {before₁} {after₁} {before₂} {after₂} high place e l₁ l₂ p q =
    let m = (k + n) * D in
    let pixels : pixels_of D (k + n) after₁ ≡ pixels_of D (k + n) after₂ =
    p.pixels ∙ ap (λ (l : List ℕ). paint w ink n (pixels_of D k l)) e ∙ sym q.pixels in
    let fits : m ≤ length after₂ = rw (l₂, ← e) place in
    let front : take m after₁ ≡ take m after₂ =
    sym (bytes-pixels D (k + n) after₁ high (rw l₁ place))
    ∙ ap (λ (ps : List Pixel). bytes_of D ps) pixels
    ∙ bytes-pixels D (k + n) after₂ high fits in
    let back : drop m after₁ ≡ drop m after₂ = p.rest ∙ ap (λ (l : List ℕ). drop m l) e ∙ sym q.rest in
    sym (take-append-drop m after₁) ∙ (λ i. front i ++ back i) ∙ take-append-drop m after₂

-- ---- parts of a span

-- t: n of the pixels of s, from number i of them on
module _ {s t : Span} {i n : ℕ} (is : IsPart s i n t) where
  pub painted_in : {ink : ℕ → Ink} {xs ys : List ℕ} → Paints t ink xs ys → Painted s.bytes s.width ink (s.start + i) n xs ys
  painted_in p = rw (is.bytes, is.width, is.start, is.pixels) at p

  -- the first ones
  pub front-painted : {ink : ℕ → Ink} {xs ys : List ℕ} → i ≡ 0 → Paints t ink xs ys → Painted s.bytes s.width ink s.start n xs ys
  front-painted e p = rw (← add-zero s.start) (rw e at (painted_in p))

-- ---- a background run

-- an inserted pixel, and the background behind it
pub inserted-painted : {s t : Span} {xs ys zs : List ℕ} → IsPart s 1 (s.pixels - 1) t → 1 ≤ s.pixels → (fg bg : CodeInk)
    → PaintedOne s.bytes s.width (ink_of fg) (s.start + 0) xs ys → Paints t (λ _. ink_of bg) ys zs → Paints s (insert_inks (Some fg) bg) xs zs
inserted-painted {s} is some fg bg first rest =
    let n : 1 + (s.pixels - 1) ≡ s.pixels = omega arith in
    painted_at n
    (painted_join _ _ _ 1 _ _ _ _ _ (first-painted _ _ _ (insert_inks (Some fg) bg) _ _ first)
    (painted_as (λ j b. rw (ne_eqb (1 + j) 0 (λ e. omega arith))) (painted_in is rest)))

-- ---- masks and turns

-- a mask's pixels, then those of the masks behind it
pub image_later : (fg bg : Ink) (src : List ℕ) (from m j : ℕ) → image_ink fg bg (drop (from + m) src) j ≡ image_ink fg bg (drop from src) (m * 8 + j)
unfolding image_ink
image_later fg bg src from m j =
    let q : m + j / 8 ≡ (m * 8 + j) / 8 = omega arith in
    let r : j % 8 ≡ (m * 8 + j) % 8 = omega arith in
    let mask =
    get_or-drop (from + m) src (j / 8) 0
    ∙ ap (λ (i : ℕ). get_or src i 0) (add_assoc from m (j / 8) ∙ ap (λ (i : ℕ). from + i) q)
    ∙ sym (get_or-drop from src ((m * 8 + j) / 8) 0) in
    λ t. mask_ink fg bg (mask t) (r t)

-- a mask's bits, one after the other
pub mask_ink_lem : (fg bg : Ink) (m a i : ℕ) → a ≡ m / 2 ^ i → pick (eqb (a % 2) 1) fg bg ≡ mask_ink fg bg m i
unfolding mask_ink
mask_ink_lem fg bg m a i e = rw e

-- a mask's pixels in an image of many: the image's pixel i is the mask's first
pub mask_in_image : (fg bg : Ink) (src : List ℕ) (from i j : ℕ) → i % 8 ≡ 0 → j < 8
    → mask_ink fg bg (get_or src (from + i / 8) 0) j ≡ image_ink fg bg (drop from src) (i + j)
unfolding image_ink
mask_in_image fg bg src from i j whole few =
    let q : (i + j) / 8 ≡ i / 8 = omega arith in
    let r : (i + j) % 8 ≡ j = omega arith in
    rw (q, r, get_or-drop)

pub turn-pixel : (D : ℕ) (a b : Pixel) (t : Bool) → OfDepth D a → OfDepth D b → OfDepth D (pick t a b)
turn-pixel D a b true p q = p
turn-pixel D a b false p q = q

-- ---- pixels in one color each

pub dither_solid : {p : Pixel} (a b : Pixel) (j : ℕ) → p ≡ pick (eqb (j % 2) 0) a b → solid p ≡ dither_ink a b j
unfolding dither_ink
dither_solid a b j e = ap solid e

pub image-solid : {p : Pixel} (D : ℕ) (src : List ℕ) (j : ℕ) → p ≡ first_pixel D (drop (j * D) src) → solid p ≡ solid (pixel_at D src j)
unfolding pixel_at
image-solid D src j e = ap solid e
