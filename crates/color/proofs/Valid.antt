-- Laws of valid pictures: they have a depth of the table and their painted pixels, and stay valid with a longer slice. Assumes nothing.
use mathlib.Core.Path.{◌≡◌, refl}
use mathlib.Core.List.{List}
use mathlib.Core.Bool.{true}
use Prim.Native.Nat.{ℕ, ◌*◌, ◌≤◌, ◌<◌}
use native.Mathlib.Nat.{mul-le-mul_right}
use native.Mathlib.Omega.{arith}
use lib.Dec.{leb}
use lib.ListN.{length}
use borrow.Author.Tests.{leb-true, le-leb}
use Rattle.base.proofs.Tests.{apart}
use Rattle.picture.specs.Sizes.{checked, depth_index, depth_of, Size, bytes, refused, size_of, has_space}
use Rattle.picture.proofs.Sizes.{sized, few_bytes}
use Rattle.color.specs.Colors.{palette_fits}
use Rattle.color.specs.SamePicture.{Picture, picture, valid}
use Rattle.color.proofs.Triples.{all_true}

-- ---- the painted pixels

-- the depth is one of the table, and the painted pixels are in the slice
pub record Painted (p : Picture) : Type 0 where
  pub depth : depth_index p.bpp < 4
  pub within : p.pixels * (depth_of p.bpp).bytes ≤ length p.slice
  pub few : p.pixels * (depth_of p.bpp).bytes ≤ 201326592

module _ (palette : List ℕ) (p : Picture) where
  in_size : (z : Size) → z ≡ size_of (checked p.bpp p.width p.height) → has_space (length p.slice) z ≡ true
      → p.pixels ≤ p.width * p.height → Painted p
  unfolding has_space
  in_size (refused r) e h few = apart cc
  in_size (bytes n) e h few =
      let s = sized p.bpp p.width p.height n e in
      let m = mul-le-mul_right (depth_of p.bpp).bytes few in
      record {
        depth = s.known;
        within = omega (arith, m, s.size, leb-true n (length p.slice) h);
        few = omega (arith, m, few_bytes p.bpp s.known s.width s.height);
      }

  pub valid-painted : valid palette p ≡ true → Painted p
  unfolding valid
  valid-painted e =
      let size = size_of (checked p.bpp p.width p.height) in
      let h = all_true (has_space (length p.slice) size) (leb p.pixels (p.width * p.height)) (palette_fits p.bpp palette) e in
      in_size size refl h.0 (leb-true p.pixels (p.width * p.height) h.1)

-- ---- a longer slice

more_space : (few more : ℕ) → few ≤ more → (z : Size) → has_space few z ≡ true → has_space more z ≡ true
unfolding has_space
more_space few more h (refused r) e = e
more_space few more h (bytes n) e = le-leb n more (omega (arith, leb-true n few e))

pub longer-valid : (palette xs ys : List ℕ) (n w h bpp : ℕ) → length xs ≤ length ys → valid palette (picture xs n w h bpp) ≡ true
    → valid palette (picture ys n w h bpp) ≡ true
unfolding valid
longer-valid palette xs ys n w h bpp l e =
    let size = size_of (checked bpp w h) in
    let t = all_true (has_space (length xs) size) (leb n (w * h)) (palette_fits bpp palette) e in
    rw (more_space (length xs) (length ys) l size t.0, t.1) t.2
