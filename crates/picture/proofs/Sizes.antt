-- Laws of sizes: what the tests for refusals 1 to 3 come to, and what a good size says. Assumes nothing.
use mathlib.Core.Path.{◌≡◌, refl, ap, sym, ◌∙◌}
use mathlib.Core.Bool.{Bool, true, false}
use Prim.Native.Nat.{ℕ, ◌*◌, ◌≤◌, ◌<◌}
use native.Mathlib.Nat.{mul-le-mul}
use native.Mathlib.Omega.{arith}
use lib.Dec.{ltb, leb, eqb}
use borrow.Author.Tests.{leb-false, eqb-false, ltb-false, le-leb, lt-leb, lt-ltb, le-ltb, eq-eqb, ne_eqb}
use Rattle.base.proofs.Tests.{apart}
use Rattle.std.specs.Prelude.{Result, ◌⊎◌}
use Rattle.std.proofs.Common.{inl, inr}
use Rattle.picture.specs.declared.outcome.RleError.{RleError}
use Rattle.picture.specs.Sizes.{Refusal, refusal, depth_index, depth_of, Checked, refused, accepted, accept, checked, Size, bytes, size_of}
use Rattle.picture.specs.Outcomes.{size_in}
use Rattle.picture.proofs.Depths.{depth_good}

-- the tests of `picture_size`, one after the other
module _ (bpp w h : ℕ) where
  pub size-bpp : (depth_index bpp < 4 → ⊥) → refused (refusal 1 bpp 0) ≡ size_of (checked bpp w h)
  unfolding checked size_of
  size-bpp a = rw (le-leb 4 (depth_index bpp) (omega arith))

  module _ (known : depth_index bpp < 4) where
    pub size-empty : (w ≡ 0) ⊎ ((w ≡ 0 → ⊥) × (h ≡ 0)) → refused (refusal 2 0 0) ≡ size_of (checked bpp w h)
    unfolding checked size_of
    size-empty (inl a) = rw (lt-leb 4 (depth_index bpp) known, eq-eqb w 0 a)
    size-empty (inr a) = rw (lt-leb 4 (depth_index bpp) known, ne_eqb w 0 a.0, eq-eqb h 0 a.1)

    module _ (wide : w ≡ 0 → ⊥) (high : h ≡ 0 → ⊥) where
      pub size-large : (8192 < w) ⊎ ((w ≤ 8192) × (8192 < h)) → refused (refusal 3 w h) ≡ size_of (checked bpp w h)
      unfolding checked size_of
      size-large (inl a) = rw (lt-leb 4 (depth_index bpp) known, ne_eqb w 0 wide, ne_eqb h 0 high, lt-ltb 8192 w a)
      size-large (inr a) =
          rw (lt-leb 4 (depth_index bpp) known, ne_eqb w 0 wide, ne_eqb h 0 high, le-ltb 8192 w a.0, lt-ltb 8192 h a.1)

      pub size_fits : w ≤ 8192 → h ≤ 8192 → (D : ℕ) → D ≡ (depth_of bpp).bytes → bytes (w * h * D) ≡ size_of (checked bpp w h)
      unfolding checked size_of accept
      size_fits d e D p = rw (lt-leb 4 (depth_index bpp) known, ne_eqb w 0 wide, ne_eqb h 0 high, le-ltb 8192 w d, le-ltb 8192 h e, p)

not_refused : {A : Type 0} (n : ℕ) (r : Refusal) → bytes n ≡ refused r → A
not_refused n r e = apart cc

-- what was matched of a size
pub matched : {s t : Result ℕ RleError} {x : Size} → s ≡ t → size_in s ≡ x → size_in t ≡ x
matched e p = ap (λ (y : Result ℕ RleError). size_in y) (sym e) ∙ p

-- what a size says of depth, width and height
pub record Sized (bpp w h n : ℕ) : Type 0 where
  pub known : depth_index bpp < 4
  pub wide : 1 ≤ w
  pub width : w ≤ 8192
  pub height : h ≤ 8192
  pub size : n ≡ w * h * (depth_of bpp).bytes
  pub checks : checked bpp w h ≡ accept (depth_of bpp) w h

module _ (bpp w h n : ℕ) (is : bytes n ≡ size_of (checked bpp w h)) where
  -- the tests of `checked`, one after the other
  pub sized : Sized bpp w h n
  unfolding checked size_of accept
  sized = depth (leb 4 (depth_index bpp)) refl
    where
      impossible : (r : Refusal) → size_of (checked bpp w h) ≡ refused r → Sized bpp w h n
      impossible r e = not_refused n r (is ∙ e)

      fits : leb 4 (depth_index bpp) ≡ false → eqb w 0 ≡ false → eqb h 0 ≡ false → ltb 8192 w ≡ false → (b : Bool) → ltb 8192 h ≡ b → Sized bpp w h n
      fits p q r s true e = impossible (refusal 3 w h) (rw (p, q, r, s, e))
      fits p q r s false e =
          let c : checked bpp w h ≡ accept (depth_of bpp) w h = rw (p, q, r, s, e) in
          let k : depth_index bpp < 4 = leb-false 4 (depth_index bpp) p in
          let z : w ≡ 0 → ⊥ = eqb-false w 0 q in
          let m : bytes n ≡ bytes (w * h * (depth_of bpp).bytes) = is ∙ ap size_of c in
          record {
            known = k;
            wide = omega (arith, z);
            width = ltb-false 8192 w s;
            height = ltb-false 8192 h e;
            size = cc;
            checks = c;
          }

      width : leb 4 (depth_index bpp) ≡ false → eqb w 0 ≡ false → eqb h 0 ≡ false → (b : Bool) → ltb 8192 w ≡ b → Sized bpp w h n
      width p q r true e = impossible (refusal 3 w h) (rw (p, q, r, e))
      width p q r false e = fits p q r e (ltb 8192 h) refl

      no_height : leb 4 (depth_index bpp) ≡ false → eqb w 0 ≡ false → (b : Bool) → eqb h 0 ≡ b → Sized bpp w h n
      no_height p q true e = impossible (refusal 2 0 0) (rw (p, q, e))
      no_height p q false e = width p q e (ltb 8192 w) refl

      no_width : leb 4 (depth_index bpp) ≡ false → (b : Bool) → eqb w 0 ≡ b → Sized bpp w h n
      no_width p true e = impossible (refusal 2 0 0) (rw (p, e))
      no_width p false e = no_height p e (eqb h 0) refl

      depth : (b : Bool) → leb 4 (depth_index bpp) ≡ b → Sized bpp w h n
      depth true e = impossible (refusal 1 bpp 0) (rw e)
      depth false e = no_width e (eqb w 0) refl

pub few : {w h : ℕ} → w ≤ 8192 → h ≤ 8192 → w * h ≤ 67108864
few a b = mul-le-mul a b

pub few_bytes : {w h : ℕ} (bpp : ℕ) → depth_index bpp < 4 → w ≤ 8192 → h ≤ 8192 → w * h * (depth_of bpp).bytes ≤ 201326592
few_bytes bpp k a b = mul-le-mul (few a b) (depth_good bpp k).high

pub size-refused : (c : Checked) (r : Refusal) → refused r ≡ size_of c → c ≡ refused r
unfolding size_of
size-refused (refused x) r e = cc
size-refused (accepted f k) r e = not_refused (f.total * f.bytes) r (sym e)
