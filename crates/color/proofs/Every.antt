-- Laws of a test that every number below n passes. Assumes nothing.
use mathlib.Core.Path.{◌≡◌, refl}
use mathlib.Core.Bool.{Bool, true, false}
use Prim.Native.Nat.{ℕ, zero, suc, ◌<◌}
use native.Mathlib.Omega.{arith}
use Rattle.base.proofs.Tests.{before_or_last, both_true}
use Rattle.color.specs.SamePicture.{every_below}

pub not_yes : (t : Bool) → (t ≡ true → ⊥) → false ≡ t
not_yes true h = absurd (h refl)
not_yes false h = refl

module _ (test : ℕ → Bool) where
  pub every_passes : (n : ℕ) → every_below n test ≡ true → (k : ℕ) → k < n → test k ≡ true
  unfolding every_below
  every_passes zero e k h = absurd (omega arith)
  every_passes (suc n) e k h =
      let s = both_true (every_below n test) (test n) e in
      before_or_last k n h (λ l. every_passes n s.0 k l) (λ i. rw i s.1)

  pub passes_every : (n : ℕ) → ((k : ℕ) → k < n → test k ≡ true) → every_below n test ≡ true
  unfolding every_below
  passes_every zero h = refl
  passes_every (suc n) h = rw (passes_every n (λ k l. h k (omega arith))) (h n (omega arith))
