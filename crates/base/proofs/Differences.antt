-- Differences of bytes, gathered by bits: a comparison that looks at them once for many bytes. Assumes nothing.
use mathlib.Core.Path.{◌≡◌, refl}
use mathlib.Core.Bool.{false}
use Prim.Native.Nat.{ℕ}
use native.Mathlib.Omega.{arith}
use lib.Bits.{bit_or, bit_xor, and_le_l, and_le_r, or_add_and, xor_add_and, xor_self}
use lib.Dec.{eqb}
use borrow.Author.Tests.{eqb-true, eq-eqb}
use Rattle.base.specs.Picks.{pick}
use Rattle.base.proofs.Tests.{both_true, same_test}

or_zero : (x y : ℕ) → bit_or x y ≡ 0 → (x ≡ 0) × (y ≡ 0)
or_zero x y e = (omega (arith, e, or_add_and x y, and_le_r x y), omega (arith, e, or_add_and x y, and_le_l x y))

xor_zero : (x y : ℕ) → bit_xor x y ≡ 0 → x ≡ y
xor_zero x y e = omega (arith, e, xor_add_and x y, and_le_l x y, and_le_r x y)

-- the differences gathered so far are none exactly if they were none before and the next two bytes are the same
pub gathered : (d x y : ℕ) → eqb (bit_or d (bit_xor x y)) 0 ≡ pick (eqb d 0) (eqb x y) false
gathered d x y =
    same_test (eqb (bit_or d (bit_xor x y)) 0) (pick (eqb d 0) (eqb x y) false)
    (λ h.
    let z = or_zero d (bit_xor x y) (eqb-true (bit_or d (bit_xor x y)) 0 h) in
    rw (eq-eqb d 0 z.0) (eq-eqb x y (xor_zero x y z.1)))
    (λ h.
    let z = both_true (eqb d 0) (eqb x y) h in
    rw (eqb-true d 0 z.0, eqb-true x y z.1, xor_self y) refl)
