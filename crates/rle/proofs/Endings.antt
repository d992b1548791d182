-- Laws of an order's end, by the test of it. Assumes nothing.
use mathlib.Core.Path.{◌≡◌, refl}
use mathlib.Core.Bool.{Bool, true, false}
use Prim.Native.Nat.{ℕ, ◌+◌}
use Rattle.std.specs.Prelude.{Ok, Err}
use Rattle.std.specs.Result.{is_ok, is_err}
use Rattle.base.proofs.Tests.{apart}
use Rattle.picture.specs.declared.outcome.RleError.{RleError}
use Rattle.definition.specs.Plan.{insert_after, orders_after}
use Rattle.rle.specs.Planning.{CodeEnding, ending_in}

pub record Fails (e : CodeEnding) : Type 0 where
  pub error : RleError
  pub is : e ≡ Err error

pub fails : (e : CodeEnding) → true ≡ is_err e → Fails e
fails (Ok u) t = apart cc
fails (Err x) t = record { error = x; is = refl }

pub completes : (e : CodeEnding) → false ≡ is_err e → e ≡ Ok tt
completes (Ok u) t = refl
completes (Err x) t = apart cc

-- what a completed order leaves, and what a refused one
pub after_ok : (e : CodeEnding) → true ≡ is_ok e → (i b : Bool) (n : ℕ) → (insert_after (ending_in e) i b ≡ i) × (orders_after (ending_in e) n ≡ n + 1)
unfolding insert_after orders_after
after_ok (Ok u) t i b n = (refl, refl)
after_ok (Err x) t i b n = apart cc

pub after_err : (e : CodeEnding) → false ≡ is_ok e → (i b : Bool) (n : ℕ) → (insert_after (ending_in e) i b ≡ b) × (orders_after (ending_in e) n ≡ n)
unfolding insert_after orders_after
after_err (Ok u) t i b n = apart cc
after_err (Err x) t i b n = (refl, refl)
