-- Laws of parts: what a run leaves before and behind it, and that a run in a part of a list is a run in the whole. Assumes nothing.
use mathlib.Core.Path.{◌≡◌, refl, ap, sym, ◌∙◌}
use mathlib.Core.List.{List, ◌++◌}
use mathlib.Core.Bool.{Bool, true}
use Prim.Native.Nat.{ℕ, zero, suc, ◌+◌, ◌≤◌, ◌<◌}
use native.Mathlib.Nat.{add_assoc}
use native.Mathlib.Omega.{arith}
use lib.ListN.{length, set, take, drop, length-drop, take-append-drop}
use lib.Seq.{length-take-le, set-append_left, take-set-le, drop-set-add, drop-set-lt, take_at, drop_at}
use Rattle.byte_runs.specs.Runs.{run, run_where}
use Rattle.byte_runs.proofs.Runs.{length_run}

pub take-run : (v : List ℕ → ℕ → ℕ) (at n : ℕ) (l : List ℕ) → take at (run v at n l) ≡ take at l
unfolding run
take-run v at zero l = refl
take-run v at (suc n) l = take-set-le at (run v at n l) (at + n) (v (run v at n l) n) (omega arith) ∙ take-run v at n l

pub drop-run : (v : List ℕ → ℕ → ℕ) (at n m : ℕ) (l : List ℕ) → at + n ≤ m → drop m (run v at n l) ≡ drop m l
unfolding run
drop-run v at zero m l h = refl
drop-run v at (suc n) m l h = drop-set-lt m (run v at n l) (at + n) (v (run v at n l) n) (omega arith) ∙ drop-run v at n m l (omega arith)

-- the length of a part
pub length_part : (b m : ℕ) (l : List ℕ) → b + m ≤ length l → length (take m (drop b l)) ≡ m
length_part b m l h = length-take-le m (drop b l) (rw length-drop (omega arith))

-- a run in the m bytes from b on; u reads of the part what v reads of the whole
run_in_part : (u v : List ℕ → ℕ → ℕ) (b m a n : ℕ) (l : List ℕ) → b + m ≤ length l → a + n ≤ m
    → ((x : List ℕ) (k : ℕ) → k < n → u (take m (drop b x)) k ≡ v x k)
    → take b l ++ (run u a n (take m (drop b l)) ++ drop m (drop b l)) ≡ run v (b + a) n l
unfolding run
run_in_part u v b m a zero l fits inside same =
    ap (λ (x : List ℕ). take b l ++ x) (take-append-drop m (drop b l)) ∙ take-append-drop b l
run_in_part u v b m a (suc n) l fits inside same =
    let part : List ℕ = run u a n (take m (drop b l)) in
    let rest : List ℕ = drop m (drop b l) in
    let all : List ℕ = run v (b + a) n l in
    let is : take b l ++ (part ++ rest) ≡ all = run_in_part u v b m a n l fits (omega arith) (λ x k h. same x k (omega arith)) in
    let long : length part ≡ m = length_run u a n (take m (drop b l)) ∙ length_part b m l fits in
    let before : length (take b l) ≡ b = length-take-le b l (omega arith) in
    let front : take b all ≡ take b l = ap (λ (x : List ℕ). take b x) (sym is) ∙ take_at (take b l) (part ++ rest) b before in
    let back : drop b all ≡ part ++ rest = ap (λ (x : List ℕ). drop b x) (sym is) ∙ drop_at (take b l) (part ++ rest) b before in
    let value : v all n ≡ u part n =
    sym (same all n (omega arith)) ∙ ap (λ (x : List ℕ). u x n) (ap (λ (x : List ℕ). take m x) back ∙ take_at part rest m long) in
    (λ i. sym front i ++ sym (set-append_left part rest (a + n) (u part n) (omega arith)) i)
    ∙ (λ i. take b all ++ set (sym back i) (a + n) (sym value i))
    ∙ (λ i. sym (take-set-le b all (b + (a + n)) (v all n) (omega arith)) i ++ sym (drop-set-add b all (a + n) (v all n)) i)
    ∙ take-append-drop b (set all (b + (a + n)) (v all n))
    ∙ ap (λ (j : ℕ). set all j (v all n)) (sym (add_assoc b a n))

-- the same of a run that is written where a test holds, with the part as it then is
pub in_part : (u v : List ℕ → ℕ → ℕ) (b m a n : ℕ) (l part : List ℕ) {test : Bool} → test ≡ true → b + m ≤ length l → a + n ≤ m
    → ((x : List ℕ) (k : ℕ) → k < n → u (take m (drop b x)) k ≡ v x k) → part ≡ run_where test u a n (take m (drop b l))
    → take b l ++ (part ++ drop m (drop b l)) ≡ run v (b + a) n l
in_part u v b m a n l part {test} holds fits inside same e =
    ap (λ (x : List ℕ). take b l ++ (x ++ drop m (drop b l))) (e ∙ ap (λ (t : Bool). run_where t u a n (take m (drop b l))) holds)
    ∙ run_in_part u v b m a n l fits inside same
