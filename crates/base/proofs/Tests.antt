-- Laws of tests: what holds by each way of a choice or of the order of two numbers, what two tests that hold together say, when two tests
-- are the same, and that no test holds and fails and no two constructors that differ are equal. Assumes nothing.
use mathlib.Core.Path.{◌≡◌, refl, sym}
use mathlib.Core.Bool.{Bool, true, false}
use Prim.Native.Nat.{ℕ, suc, ◌<◌, ◌≤◌}
use native.Mathlib.Decide.{dec_lt}
use native.Mathlib.Omega.{arith}
use Rattle.base.specs.Picks.{pick}

-- what holds of each way of a test holds of the choice
pub by_test : {A : Type 0} (Q : A → Type 0) (t : Bool) {a b : A} → (t ≡ true → Q a) → (t ≡ false → Q b) → Q (pick t a b)
by_test Q true f g = f refl
by_test Q false f g = g refl

pub pick_same : {A : Type 0} (t : Bool) (a : A) → pick t a a ≡ a
pick_same true a = refl
pick_same false a = refl

pub by_less : {A : Type 0} (m n : ℕ) → (m < n → A) → (n ≤ m → A) → A
by_less m n f g = elim (dec_lt m n) [ yes h ↦ f h | no h ↦ g (omega arith) ]

-- of the numbers up to n, one before it or n itself
pub before_or_last : {A : Type 0} (k n : ℕ) → k < suc n → (k < n → A) → (k ≡ n → A) → A
before_or_last k n h f g = by_less k n f (λ l. g (omega arith))

-- what is so by `cc` where two constructors that differ are equal
pub apart : {A : Type 0} → ◌≡◌ {A = ℕ} 0 1 → A
apart e = absurd (omega arith)

pub clash : {A : Type 0} {t : Bool} → t ≡ true → t ≡ false → A
clash e f = apart cc

pub both_true : (a b : Bool) → pick a b false ≡ true → (a ≡ true) × (b ≡ true)
both_true true b e = (refl, e)
both_true false b e = apart cc

-- two tests, each of which holds where the other does
pub same_test : (s t : Bool) → (s ≡ true → t ≡ true) → (t ≡ true → s ≡ true) → s ≡ t
same_test true t f g = sym (f refl)
same_test false true f g = g refl
same_test false false f g = refl
