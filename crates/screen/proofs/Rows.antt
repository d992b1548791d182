-- Laws of the row to show: the products fit, the part lies in both slices, and where it begins. Assumes nothing.
use mathlib.Core.Path.{◌≡◌, refl}
use mathlib.Core.Bool.{Bool, true, false}
use Prim.Native.Nat.{ℕ, ◌+◌, ◌*◌, ◌≤◌, ◌<◌}
use native.Mathlib.Nat.{mul-le-mul, mul-le-mul_right, add-mul, one-mul, mul_comm, mul_assoc}
use native.Mathlib.Omega.{arith}
use lib.Dec.{leb, ltb}
use borrow.Author.Tests.{leb-true, ltb-true}
use Rattle.base.specs.Picks.{pick}
use Rattle.picture.specs.Sizes.{checked, depth_of, Size, bytes, refused, size_of, has_space}
use Rattle.picture.proofs.Sizes.{Sized, sized, few}
use Rattle.picture.proofs.Depths.{depth_good}
use Rattle.screen.specs.Rows.{RowPart, row_part, no_part, part_in, part_to_show, part_place}

-- ---- products

module _ {bpp w h n : ℕ} (s : Sized bpp w h n) (D : ℕ) (e : D ≡ (depth_of bpp).bytes) where
  pub row_small : w * D ≤ 24576
  row_small = mul-le-mul {m₂ = 3} s.width (rw e (depth_good bpp s.known).high)

  -- row r ends inside the picture
  pub row_ends : (r : ℕ) → r < h → r * (w * D) + w * D ≤ n
  row_ends r l =
      let most : (r + 1) * (w * D) ≤ h * (w * D) = mul-le-mul_right (w * D) (omega arith) in
      let all : h * (w * D) ≡ n = rw (s.size, e, mul_comm w h, mul_assoc h w (depth_of bpp).bytes) in
      omega (arith, add-mul r 1 (w * D), one-mul (w * D))

  pub pixels_small : (r : ℕ) → r < h → (r + 1) * w ≤ 67108864
  pixels_small r l = few (omega (arith, s.height)) s.width

-- ---- the part

module _ (new pixels screen bpp w h r : ℕ) where
  abbrev Inside : RowPart → Type 0
  Inside p = (p.start + p.size ≤ new) × (p.start + p.size ≤ screen)

  chosen : (a b t s : Bool) (from size : ℕ)
      → (a ≡ true → b ≡ true → t ≡ true → Inside (row_part s from size))
      → Inside (pick a (pick b (pick t (row_part s from size) no_part) no_part) no_part)
  chosen true true true s from size i = i refl refl refl
  chosen true true false s from size i = (omega arith, omega arith)
  chosen true false t s from size i = (omega arith, omega arith)
  chosen false b t s from size i = (omega arith, omega arith)

  in_size : (z : Size) → z ≡ size_of (checked bpp w h) → Inside (part_in z (depth_of bpp).bytes new pixels screen w h r)
  unfolding part_in has_space
  in_size (refused f) e = (omega arith, omega arith)
  in_size (bytes n) e =
      let D = (depth_of bpp).bytes in
      chosen (leb n new) (leb n screen) (ltb r h) (ltb pixels ((r + 1) * w)) (r * (w * D)) (w * D)
      (λ a b t.
      let ends = row_ends (sized bpp w h n e) D refl r (ltb-true r h t) in
      (omega (arith, leb-true n new a), omega (arith, leb-true n screen b)))

  pub part_inside : (p : RowPart) → p ≡ part_to_show new pixels screen bpp w h r → Inside p
  unfolding part_to_show
  part_inside p e = rw e (in_size (size_of (checked bpp w h)) refl)

-- ---- its place

pub part_place_lem : (new screen : ℕ × ℕ) {p q : RowPart} → p ≡ q → (s : Bool) → p.on_screen ≡ s
    → ((pick s screen new).0, p.start + (pick s screen new).1) ≡ part_place new screen q
unfolding part_place
part_place_lem new screen e s h = rw (← e, h)
