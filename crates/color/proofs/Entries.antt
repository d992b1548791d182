-- The entries of a palette, as its bytes are cut into arrays of three. Assumes nothing.
use mathlib.Core.Path.{◌≡◌, refl}
use mathlib.Core.List.{List, [], ◌∷◌}
use Prim.Native.Nat.{ℕ, zero, suc, ◌+◌, ◌*◌, ◌/◌, ◌≤◌, ◌<◌}
use native.Mathlib.Omega.{arith}
use lib.ListN.{length, get_or, take}
use lib.Seq.{get_or-take}
use Rattle.std.specs.Simd.{first_chunks}
use Rattle.picture.specs.Pixels.{first_pixel, pixel_at}
use Rattle.picture.proofs.Pixels.{pixel_at_cong}
use Rattle.color.specs.Colors.{Triple, entry}

cut_entry : (n k : ℕ) (xs : List ℕ) (d : Triple) → k < n → n * 3 ≤ length xs → get_or (first_chunks 3 n xs) k d ≡ entry xs k
unfolding entry pixel_at first_pixel
cut_entry zero k xs d h l = absurd (omega arith)
cut_entry (suc n) k [] d h l = absurd (omega arith)
cut_entry (suc n) k (x ∷ []) d h l = absurd (omega arith)
cut_entry (suc n) k (x ∷ y ∷ []) d h l = absurd (omega arith)
cut_entry (suc n) zero (x ∷ y ∷ z ∷ xs) d h l = refl
cut_entry (suc n) (suc k) (x ∷ y ∷ z ∷ xs) d h l =
    let three : suc k * 3 ≡ suc (suc (suc (k * 3))) = omega arith in
    rw three (cut_entry n k xs d (omega arith) (omega arith))

pub cut_entries : (xs : List ℕ) (entries : List Triple) → entries ≡ first_chunks 3 (length xs / 3) xs → 768 ≤ length xs
    → (i : ℕ) (d : Triple) → i < 256 → get_or entries i d ≡ entry xs i
cut_entries xs entries e l i d h = rw e (cut_entry (length xs / 3) i xs d (omega arith) (omega arith))

-- they stand in the first 768 bytes
pub entry-take : (xs : List ℕ) (i : ℕ) → i < 256 → entry (take 768 xs) i ≡ entry xs i
unfolding entry
entry-take xs i h = pixel_at_cong 3 i (take 768 xs) xs (omega arith) (λ j k. get_or-take 768 xs (i * 3 + j) 0 (omega arith))
