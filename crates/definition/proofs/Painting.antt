-- Laws of painting n pixels. Assumes nothing.
use mathlib.Core.Path.{◌≡◌, refl, ap, sym, ◌∙◌}
use mathlib.Core.List.{List, [], ◌∷◌, ◌++◌}
use Prim.Native.Nat.{ℕ, zero, suc, ◌+◌, ◌<◌}
use native.Mathlib.Nat.{add-zero, add-suc}
use native.Mathlib.Omega.{arith}
use lib.ListN.{length, length-append}
use Rattle.picture.specs.Pixels.{Pixel}
use Rattle.definition.specs.Decode.{Ink, color, paint}

pub length-paint : (w : ℕ) (ink : ℕ → Ink) (n : ℕ) (ps : List Pixel) → length (paint w ink n ps) ≡ length ps + n
unfolding paint
length-paint w ink zero ps = sym (add-zero (length ps))
length-paint w ink (suc n) ps =
    length-append (paint w ink n ps) (color w (paint w ink n ps) (ink n) ∷ [])
    ∙ ap (λ (m : ℕ). m + 1) (length-paint w ink n ps)
    ∙ omega arith

-- only the inks of the pixels painted matter
pub paint_cong : (w : ℕ) (i j : ℕ → Ink) (n : ℕ) (ps : List Pixel) → ((k : ℕ) → k < n → i k ≡ j k) → paint w i n ps ≡ paint w j n ps
unfolding paint
paint_cong w i j zero ps e = refl
paint_cong w i j (suc n) ps e =
    let r = paint_cong w i j n ps (λ k h. e k (omega arith)) in
    let c = e n (omega arith) in
    λ t. r t ++ (color w (r t) (c t) ∷ [])

pub paint_add : (w : ℕ) (ink : ℕ → Ink) (m n : ℕ) (ps : List Pixel) → paint w ink (m + n) ps ≡ paint w (λ j. ink (m + j)) n (paint w ink m ps)
unfolding paint
paint_add w ink m zero ps = rw add-zero
paint_add w ink m (suc n) ps =
    rw add-suc (ap (λ (r : List Pixel). r ++ (color w r (ink (m + n)) ∷ [])) (paint_add w ink m n ps))
