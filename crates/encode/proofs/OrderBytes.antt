-- An order's bytes: header and run length, and then pixels as they stand in the buffer. Assumes nothing.
use mathlib.Core.Path.{◌≡◌, refl, ap, sym, ◌∙◌}
use mathlib.Core.List.{List, [], ◌∷◌, ◌++◌, append-nil}
use Prim.Native.Nat.{ℕ, ◌+◌, ◌*◌, ◌≤◌, ◌<◌}
use native.Mathlib.Nat.{mul-le-mul_right, one-mul, zero-mul}
use native.Mathlib.Omega.{arith}
use lib.ListN.{length, take, drop, length-append, length-drop}
use lib.Seq.{get_or-take, get_or-drop, drop-drop, ext_get_or, length-take-le}
use Rattle.picture.specs.Pixels.{Pixel, first_pixel, pixel_at, pixels_of}
use Rattle.picture.proofs.Pixels.{take-first_pixel, length-pixels_of, get_or-pixels_of, bytes-pixels}
use Rattle.definition.specs.Codes.{kind_row}
use Rattle.encoding.specs.Heads.{head_bytes}
use Rattle.encoding.specs.Bound.{head_size}
use Rattle.encoding.specs.Encode.{is_bg_run, order_bytes}
use Rattle.encoding.proofs.HeadLengths.{EncodedKind, background-kind, color-kind, image-kind, head-length}
use Rattle.encode.specs.declared.order.Kind.{Kind}
use Rattle.encode.specs.declared.order.Kind.TheVariants.{BgRun, ColorRun, ColorImage}
use Rattle.encode.specs.declared.pixels.Pixels.{Pixels}
use Rattle.encode.specs.Pixels.{pixels_in}
use Rattle.encode.specs.Orders.{kind_number, is_background, order_of, pixels_held}

-- the rule's lemmas speak of the kinds' numbers
pub encoded : (c : Kind) → EncodedKind (kind_number c)
encoded BgRun = background-kind
encoded ColorRun = color-kind
encoded ColorImage = image-kind

pub head-bytes : (c : Kind) (n : ℕ) → 1 ≤ n → length (head_bytes (kind_row (kind_number c)) n) ≡ head_size n
head-bytes c n = head-length (kind_number c) n (encoded c)

pub background-is : (ps : List Pixel) (k n : ℕ) (c : Kind) → is_bg_run (order_of ps k c n) ≡ is_background c
unfolding is_bg_run
background-is ps k n BgRun = refl
background-is ps k n ColorRun = refl
background-is ps k n ColorImage = refl

-- the pixels in an order are among those that it paints
pub held_few : (c : Kind) (n : ℕ) → 1 ≤ n → pixels_held c n ≤ n
held_few BgRun n one = omega arith
held_few ColorRun n one = one
held_few ColorImage n one = omega arith

module _ (p : Pixels) (k n : ℕ) (one : 1 ≤ n) (ends : k + n ≤ p.total) where
  abbrev D : ℕ
  D = p.bytes

  abbrev s : List ℕ
  s = p.src.now

  abbrev ps : List Pixel
  ps = pixels_in p

  bytes_left : n * D ≤ length (drop (k * D) s)
  bytes_left = rw length-drop (omega (arith, p.there, mul-le-mul_right {m = k + n} {n = p.total} D ends))

  -- the pixels of an image
  image_part : take n (drop k ps) ≡ pixels_of D n (drop (k * D) s)
  unfolding pixel_at
  image_part =
      let size : length (take n (drop k ps)) ≡ n = length-take-le n (drop k ps) (rw (length-drop, length-pixels_of) (omega arith)) in
      ext_get_or (0 ∷ 0 ∷ 0 ∷ []) (take n (drop k ps)) (pixels_of D n (drop (k * D) s)) (size ∙ sym (length-pixels_of D n (drop (k * D) s)))
      (λ i c.
      let h : i < n = rw size at c in
      let e : (k + i) * D ≡ k * D + i * D = omega arith in
      get_or-take n (drop k ps) i _ h
      ∙ get_or-drop k ps i _
      ∙ get_or-pixels_of D p.total s (k + i) _ (omega arith)
      ∙ ap (λ (l : List ℕ). first_pixel D l) (ap (λ (x : ℕ). drop x s) e ∙ sym (drop-drop (i * D) (k * D) s))
      ∙ sym (get_or-pixels_of D n (drop (k * D) s) i _ h))

  pub order-bytes : (c : Kind) → order_bytes D (order_of ps k c n) ≡ head_bytes (kind_row (kind_number c)) n ++ take (pixels_held c n * D) (drop (k * D) s)
  unfolding order_bytes pixel_at
  order-bytes BgRun = rw zero-mul (sym (append-nil (head_bytes (kind_row 0) n)))
  order-bytes ColorRun =
      rw (get_or-pixels_of D p.total s k (0 ∷ 0 ∷ 0 ∷ []) (omega arith), one-mul)
      (ap (λ (l : List ℕ). head_bytes (kind_row 3) n ++ l)
      (take-first_pixel D (drop (k * D) s) p.high (omega (arith, bytes_left, mul-le-mul_right {m = 1} {n = n} D one))))
  order-bytes ColorImage =
      rw (image_part, length-pixels_of) (ap (λ (l : List ℕ). head_bytes (kind_row 4) n ++ l) (bytes-pixels D n (drop (k * D) s) p.high bytes_left))

  -- the pixels that an order holds are in the buffer
  pub held_inside : (c : Kind) → k * D + pixels_held c n * D ≤ length s
  held_inside c =
      omega (arith, p.there, mul-le-mul_right {m = k + n} {n = p.total} D ends, mul-le-mul_right {m = pixels_held c n} {n = n} D (held_few c n one))

  pub order-length : (c : Kind) → length (order_bytes D (order_of ps k c n)) ≡ head_size n + pixels_held c n * D
  order-length c =
      let held : length (take (pixels_held c n * D) (drop (k * D) s)) ≡ pixels_held c n * D =
      length-take-le (pixels_held c n * D) (drop (k * D) s)
      (omega (arith, bytes_left, mul-le-mul_right {m = pixels_held c n} {n = n} D (held_few c n one))) in
      rw (order-bytes c, length-append, head-bytes c n one, held)
