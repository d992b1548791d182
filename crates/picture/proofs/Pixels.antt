-- Laws of a pixel of D bytes and of pixels in byte lists, for every D. Assumes nothing.
use mathlib.Core.Path.{◌≡◌, refl, ap, sym, ◌∙◌}
use mathlib.Core.List.{List, [], ◌∷◌, ◌++◌, append_assoc, append-nil}
use mathlib.Core.Bool.{Bool, true, false}
use Prim.Native.Nat.{ℕ, zero, suc, ◌+◌, ◌*◌, ◌≤◌, ◌<◌}
use native.Mathlib.Nat.{add-zero, suc-mul, zero-mul, le_refl}
use native.Mathlib.Numerals.{add-one}
use native.Mathlib.Decide.{dec_lt}
use native.Mathlib.Omega.{arith}
use lib.Dec.{ltb}
use lib.ListN.{length, get_or, take, drop, length-append, length-take, length-drop, get_or-append}
use lib.Seq.{get_or-drop, get_or-take, length-take-le, ext_get_or, get_or_at, take-add, drop-append-add}
use borrow.Author.Tests.{ltb-true, lt-ltb}
use Rattle.base.specs.Picks.{pick}
use Rattle.base.proofs.Tests.{pick_same}
use Rattle.picture.specs.Pixels.{Pixel, first_pixel, pixel_at, pixels_of, bytes_of, OfDepth}

-- an array of three
pub three : (p : Pixel) → length p ≡ 3 → p ≡ get_or p 0 0 ∷ get_or p 1 0 ∷ get_or p 2 0 ∷ []
three [] e = absurd (omega arith)
three (x ∷ []) e = absurd (omega arith)
three (x ∷ y ∷ []) e = absurd (omega arith)
three (x ∷ y ∷ z ∷ []) e = refl
three (x ∷ y ∷ z ∷ u ∷ us) e = absurd (omega arith)

-- a pixel sees only its own bytes
pick_cong : (t : Bool) (x y : ℕ) → (t ≡ true → x ≡ y) → pick t x 0 ≡ pick t y 0
pick_cong true x y h = h refl
pick_cong false x y h = refl

pub first_pixel_cong : (D : ℕ) (xs ys : List ℕ) → 1 ≤ D → ((i : ℕ) → i < D → get_or xs i 0 ≡ get_or ys i 0) → first_pixel D xs ≡ first_pixel D ys
unfolding first_pixel
first_pixel_cong D xs ys h e = λ j.
    e 0 h j
    ∷ pick_cong (ltb 1 D) (get_or xs 1 0) (get_or ys 1 0) (λ t. e 1 (ltb-true 1 D t)) j
    ∷ pick_cong (ltb 2 D) (get_or xs 2 0) (get_or ys 2 0) (λ t. e 2 (ltb-true 2 D t)) j
    ∷ []

pub pixel_at_cong : (D k : ℕ) (xs ys : List ℕ) → 1 ≤ D → ((i : ℕ) → i < D → get_or xs (k * D + i) 0 ≡ get_or ys (k * D + i) 0) → pixel_at D xs k ≡ pixel_at D ys k
unfolding pixel_at
pixel_at_cong D k xs ys h e =
    first_pixel_cong D (drop (k * D) xs) (drop (k * D) ys) h (λ i b. simp get_or-drop (e i b))

pub get_or-first_pixel : (D : ℕ) (xs : List ℕ) (i : ℕ) → i < D → D ≤ 3 → get_or (first_pixel D xs) i 0 ≡ get_or xs i 0
unfolding first_pixel
get_or-first_pixel D xs zero h k = refl
get_or-first_pixel D xs (suc zero) h k = simp (lt-ltb 1 D h)
get_or-first_pixel D xs (suc (suc zero)) h k = simp (lt-ltb 2 D h)
get_or-first_pixel D xs (suc (suc (suc i))) h k = absurd (omega arith)

-- the bytes of a pixel as the code reads them
module _ (s : List ℕ) (at : ℕ) where
  pub pixel-bytes : (D : ℕ) → (get_or s at 0 ∷ pick (ltb 1 D) (get_or s (at + 1) 0) 0 ∷ pick (ltb 2 D) (get_or s (at + 2) 0) 0 ∷ []) ≡ first_pixel D (drop at s)
  unfolding first_pixel
  pixel-bytes D = simp (get_or-drop, add-zero)

  -- at each D
  pub first_pixel_1 : (D : ℕ) → D ≡ 1 → (get_or s at 0 ∷ 0 ∷ 0 ∷ []) ≡ first_pixel D (drop at s)
  first_pixel_1 D e = rw e (pixel-bytes 1)

  pub first_pixel_2 : (D : ℕ) → D ≡ 2 → (get_or s at 0 ∷ get_or s (at + 1) 0 ∷ 0 ∷ []) ≡ first_pixel D (drop at s)
  first_pixel_2 D e = rw e (pixel-bytes 2)

  pub first_pixel_3 : (D : ℕ) → D ≡ 3 → (get_or s at 0 ∷ get_or s (at + 1) 0 ∷ get_or s (at + 2) 0 ∷ []) ≡ first_pixel D (drop at s)
  first_pixel_3 D e = rw e (pixel-bytes 3)

pub length-first_pixel : (D : ℕ) (xs : List ℕ) → length (first_pixel D xs) ≡ 3
unfolding first_pixel
length-first_pixel D xs = refl

pub take-first_pixel : (D : ℕ) (xs : List ℕ) → D ≤ 3 → D ≤ length xs → take D (first_pixel D xs) ≡ take D xs
take-first_pixel D xs h b =
    let e : length (take D (first_pixel D xs)) ≡ D = length-take-le D (first_pixel D xs) (rw length-first_pixel h) in
    ext_get_or 0 (take D (first_pixel D xs)) (take D xs) (e ∙ sym (length-take-le D xs b))
    (λ i c.
    let c' : i < D = rw e at c in
    get_or-take D (first_pixel D xs) i 0 c' ∙ get_or-first_pixel D xs i c' h ∙ sym (get_or-take D xs i 0 c'))

-- a pixel of zeros has its unused bytes zero
pub zeros_of_depth : (D : ℕ) → OfDepth D (0 ∷ 0 ∷ 0 ∷ [])
unfolding first_pixel
zeros_of_depth D = simp pick_same

-- so has one that is read
pub of_depth : (D : ℕ) (xs : List ℕ) → 1 ≤ D → D ≤ 3 → OfDepth D (first_pixel D xs)
of_depth D xs low high = first_pixel_cong D (first_pixel D xs) xs low (λ i h. get_or-first_pixel D xs i h high)

pub length_of_depth : (D : ℕ) (p : Pixel) → OfDepth D p → length p ≡ 3
length_of_depth D p of = ap (λ (q : Pixel). length q) (sym of) ∙ length-first_pixel D p

-- every pixel has its unused bytes zero
abbrev pub AllOfDepth : ℕ → List Pixel → Type 0
AllOfDepth D ps = (i : ℕ) → i < length ps → OfDepth D (get_or ps i (0 ∷ 0 ∷ 0 ∷ []))

-- ---- the first n pixels

pub length-pixels_of : (D n : ℕ) (xs : List ℕ) → length (pixels_of D n xs) ≡ n
unfolding pixels_of
length-pixels_of D zero xs = refl
length-pixels_of D (suc n) xs =
    length-append (pixels_of D n xs) (pixel_at D xs n ∷ []) ∙ ap (λ (m : ℕ). m + 1) (length-pixels_of D n xs) ∙ add-one n

pub get_or-pixels_of : (D n : ℕ) (xs : List ℕ) (k : ℕ) (z : Pixel) → k < n → get_or (pixels_of D n xs) k z ≡ pixel_at D xs k
unfolding pixels_of
get_or-pixels_of D zero xs k z h = absurd (omega arith)
get_or-pixels_of D (suc n) xs k z h =
    elim (dec_lt k n) [
      | yes b ↦ get_or-append (pixels_of D n xs) (pixel_at D xs n ∷ []) z k (rw length-pixels_of b) ∙ get_or-pixels_of D n xs k z b
      | no b ↦
          let e : k ≡ n = omega arith in
          rw e (get_or_at (pixels_of D n xs) (pixel_at D xs n) [] z n (length-pixels_of D n xs))
    ]

-- the first n pixels see only the first n * D bytes
pub pixels-take : (D n m : ℕ) (xs : List ℕ) → 1 ≤ D → n * D ≤ m → pixels_of D n (take m xs) ≡ pixels_of D n xs
unfolding pixels_of
pixels-take D zero m xs h b = refl
pixels-take D (suc n) m xs h b =
    let b' : n * D + D ≤ m = rw suc-mul at b in
    λ j. pixels-take D n m xs h (omega arith) j
    ++ (pixel_at_cong D n (take m xs) xs h (λ i c. get_or-take m xs (n * D + i) 0 (omega arith)) j ∷ [])

pub pixels_cong : (D n : ℕ) (xs ys : List ℕ) → 1 ≤ D → take (n * D) xs ≡ take (n * D) ys → pixels_of D n xs ≡ pixels_of D n ys
pixels_cong D n xs ys h e =
    sym (pixels-take D n (n * D) xs h (le_refl (n * D)))
    ∙ ap (λ (l : List ℕ). pixels_of D n l) e
    ∙ pixels-take D n (n * D) ys h (le_refl (n * D))

-- ---- their bytes

pub bytes_of-append : (D : ℕ) (ps qs : List Pixel) → bytes_of D (ps ++ qs) ≡ bytes_of D ps ++ bytes_of D qs
unfolding bytes_of
bytes_of-append D [] qs = refl
bytes_of-append D (p ∷ ps) qs = ap (λ (l : List ℕ). take D p ++ l) (bytes_of-append D ps qs) ∙ sym (append_assoc (take D p) (bytes_of D ps) (bytes_of D qs))

pub bytes_le : (D : ℕ) (ps : List Pixel) → length (bytes_of D ps) ≤ length ps * D
unfolding bytes_of
bytes_le D [] = omega arith
bytes_le D (p ∷ ps) = omega (arith, length-append (take D p) (bytes_of D ps), length-take D p, bytes_le D ps)

pub bytes-pixels : (D n : ℕ) (xs : List ℕ) → D ≤ 3 → n * D ≤ length xs → bytes_of D (pixels_of D n xs) ≡ take (n * D) xs
unfolding pixels_of bytes_of pixel_at
bytes-pixels D zero xs h b = rw zero-mul
bytes-pixels D (suc n) xs h b =
    let b' : n * D + D ≤ length xs = rw suc-mul at b in
    bytes_of-append D (pixels_of D n xs) (pixel_at D xs n ∷ [])
    ∙ (λ j. bytes-pixels D n xs h (omega arith) j ++ (take-first_pixel D (drop (n * D) xs) h (rw length-drop (omega arith)) j ++ []))
    ∙ ap (λ (l : List ℕ). take (n * D) xs ++ l) (append-nil (take D (drop (n * D) xs)))
    ∙ sym (take-add (n * D) D xs)
    ∙ ap (λ (m : ℕ). take m xs) (sym (suc-mul n D))

-- pixels of D bytes, in bytes before others
module _ (D : ℕ) (low : 1 ≤ D) (high : D ≤ 3) where
  pub length_taken : (p : Pixel) → OfDepth D p → length (take D p) ≡ D
  length_taken p of = length-take-le D p (rw (length_of_depth D p of) high)

  pub first_back : (p : Pixel) (rest : List ℕ) → OfDepth D p → first_pixel D (take D p ++ rest) ≡ p
  first_back p rest of =
      first_pixel_cong D (take D p ++ rest) p low
      (λ i b. get_or-append (take D p) rest 0 i (rw (length_taken p of) b) ∙ get_or-take D p i 0 b)
      ∙ of

  pub length-bytes_of : (ps : List Pixel) → AllOfDepth D ps → length (bytes_of D ps) ≡ length ps * D
  unfolding bytes_of
  length-bytes_of [] of = rw zero-mul
  length-bytes_of (p ∷ ps) of =
      rw (length-append, length_taken p (of 0 (omega arith)), length-bytes_of ps (λ i b. of (suc i) (omega arith))) (omega arith)

  pub pixel-back : (ps : List Pixel) (rest : List ℕ) (k : ℕ) → AllOfDepth D ps → k < length ps
      → pixel_at D (bytes_of D ps ++ rest) k ≡ get_or ps k (0 ∷ 0 ∷ 0 ∷ [])
  unfolding bytes_of pixel_at
  pixel-back [] rest k of b = absurd (omega arith)
  pixel-back (p ∷ ps) rest zero of b = rw (zero-mul, append_assoc) (first_back p (bytes_of D ps ++ rest) (of 0 b))
  pixel-back (p ∷ ps) rest (suc k) of b =
      let e : suc k * D ≡ length (take D p) + k * D = rw (length_taken p (of 0 (omega arith))) (omega arith) in
      rw (append_assoc, e, drop-append-add) (pixel-back ps rest k (λ i c. of (suc i) (omega arith)) (omega arith))
