-- The numbers of a state give it back. Assumes nothing.
use mathlib.Core.Path.{◌≡◌, refl}
use mathlib.Core.List.{[], ◌∷◌}
use mathlib.Core.Bool.{Bool, true, false}
use Prim.Native.Nat.{ℕ, ◌+◌, ◌*◌, ◌<◌, ◌/◌, ◌%◌}
use native.Mathlib.Omega.{arith}
use lib.Dec.{ltb, eqb}
use lib.ListN.{length, get_or}
use borrow.Author.Tests.{le-ltb}
use Rattle.base.specs.Picks.{pick}
use Rattle.picture.proofs.Pixels.{three}
use Rattle.definition.specs.Pauses.{Saved}
use Rattle.nulambiro.specs.StateNumbers.{pixel_number, pixel_of, state_numbers, no_state, state_of, IsBack}

pixel_back : (a b c : ℕ) → a < 256 → b < 256 → c < 256 → pixel_of (a + 256 * b + 65536 * c) ≡ a ∷ b ∷ c ∷ []
pixel_back a b c x y z =
    let n = a + 256 * b + 65536 * c in
    let first : n % 256 ≡ a = omega arith in
    let second : n / 256 % 256 ≡ b = omega arith in
    let third : n / 65536 % 256 ≡ c = omega arith in
    rw (first, second, third) refl

bit_low : (t : Bool) → ltb 1 (pick t 1 0) ≡ false
bit_low true = refl
bit_low false = refl

bit_back : (t : Bool) → eqb (pick t 1 0) 1 ≡ t
bit_back true = refl
bit_back false = refl

pub numbers_back : (s : Saved) → length s.foreground ≡ 3 → get_or s.foreground 0 0 < 256 → get_or s.foreground 1 0 < 256
    → get_or s.foreground 2 0 < 256 → IsBack s (state_numbers s)
unfolding no_state state_of
numbers_back s bytes x y z size =
    rw (le-ltb 16777215 (pixel_number s.foreground) (omega arith), bit_low s.insert, bit_low s.first_row)
    (rw (pixel_back _ _ _ x y z, bit_back s.insert, bit_back s.first_row) (rw (← three s.foreground bytes) refl))
