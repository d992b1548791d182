-- A function's table, and the function at each of its entries. Assumes nothing.
use mathlib.Core.Path.{◌≡◌, ap, ◌∙◌, sym}
use Prim.Native.Nat.{ℕ, zero, suc, ◌+◌, ◌<◌}
use native.Mathlib.Nat.{add-zero, zero-add, add-suc, suc-add, le_of_suc-le-suc, not-suc-le-zero}
use mathlib.Core.List.{List}
use lib.ListN.{get_or}
use Rattle.definition.specs.Codes.{tabulate}

get_or-from : {A : Type 0} (a : A) (f : ℕ → A) (i n k : ℕ) → k < n → get_or (tabulate f i n) k a ≡ f (i + k)
unfolding tabulate
get_or-from a f i zero k h = absurd (not-suc-le-zero h)
get_or-from a f i (suc n) zero h = ap f (sym (add-zero i))
get_or-from a f i (suc n) (suc k) h = get_or-from a f (suc i) n k (le_of_suc-le-suc h) ∙ ap f (suc-add i k ∙ sym (add-suc i k))

pub get_d_tabulate : {A : Type 0} (a : A) (f : ℕ → A) (n k : ℕ) → k < n → get_or (tabulate f 0 n) k a ≡ f k
get_d_tabulate a f n k h = get_or-from a f 0 n k h ∙ ap f (zero-add k)

-- functions whose tables are the same agree at each entry
pub same_tables : {A : Type 0} (a : A) (f g : ℕ → A) (n : ℕ) → tabulate f 0 n ≡ tabulate g 0 n → (k : ℕ) → k < n → f k ≡ g k
same_tables a f g n e k h =
    sym (get_d_tabulate a f n k h) ∙ ap (λ (l : List _). get_or l k a) e ∙ get_d_tabulate a g n k h
