-- Laws of local arrays: how they are filled, and that a filled array, stored, is a run. Assumes nothing.
use mathlib.Core.Path.{◌≡◌, refl, ap, sym, ◌∙◌}
use mathlib.Core.List.{List, ◌++◌}
use Prim.Native.Nat.{ℕ, zero, suc, ◌+◌, ◌≤◌, ◌<◌}
use native.Mathlib.Omega.{arith}
use borrow.Author.Count.{below_more}
use lib.Seq.{get_or-set_same, get_or-set_other, paste, paste-zero, paste-suc, length-take-le}
use lib.ListN.{length, set, get_or, take, drop, length-drop}
use borrow.Rule.Slice.PartMut.{put_mid}
use Rattle.std.proofs.lemmas.List.{get_or-take, get_or-drop}
use Rattle.std.proofs.lemmas.Slice.{put_mid-paste}
use Rattle.byte_runs.specs.Runs.{run, listed, taken, bytes}
use Rattle.byte_runs.proofs.Runs.{run_cong}

-- one more element of an array that is filled by w
pub filled_more : (w : ℕ → ℕ) (p : List ℕ) (i : ℕ) → i < length p → ((j : ℕ) → j < i → get_or p j 0 ≡ w j)
    → (j : ℕ) → j < i + 1 → get_or (set p i (w i)) j 0 ≡ w j
filled_more w p i fits all =
    below_more (λ (j : ℕ). get_or (set p i (w i)) j 0 ≡ w j) i
    (λ j h. get_or-set_other p i j (w i) 0 (λ (q : j ≡ i). omega arith) ∙ all j h)
    (get_or-set_same p i (w i) 0 fits)

-- the same with the value that was found for the element
pub filled_by : (w : ℕ → ℕ) (p : List ℕ) (i b : ℕ) → i < length p → ((j : ℕ) → j < i → get_or p j 0 ≡ w j) → b ≡ w i
    → (j : ℕ) → j < i + 1 → get_or (set p i b) j 0 ≡ w j
filled_by w p i b fits all e j h = ap (λ (x : ℕ). get_or (set p i x) j 0) e ∙ filled_more w p i fits all j h

-- a filled array, stored, is a run of what it is filled with
pub stored : (w : ℕ → ℕ) (t : List ℕ) (to n : ℕ) (l : List ℕ) → ((k : ℕ) → k < n → get_or t k 0 ≡ w k) → run (listed t) to n l ≡ run (λ (x : List ℕ) (k : ℕ). w k) to n l
stored w t to n l h = run_cong (listed t) (λ (x : List ℕ) (k : ℕ). w k) to n l h

-- the first n bytes of t, put in place of as many, are a run of them
pub pasted : (t : List ℕ) (to n : ℕ) (l : List ℕ) → to + n ≤ length l → n ≤ length t → paste l to t n ≡ run (listed t) to n l
unfolding run
pasted t to zero l h g = sym (paste-zero l to t)
pasted t to (suc n) l h g =
    sym (paste-suc l to t n 0 (omega arith) (omega arith))
    ∙ ap (λ (x : List ℕ). set x (to + n) (get_or t n 0)) (pasted t to n l (omega arith) (omega arith))

-- bytes put in place of the n from `to` on are a run of them
pub placed : (w : ℕ → ℕ) (to m n : ℕ) (l part : List ℕ) → m ≡ n → n ≡ length part → to + n ≤ length l → ((k : ℕ) → k < n → get_or part k 0 ≡ w k)
    → put_mid to m l part ≡ run (bytes w) to n l
placed w to m n l part em en h e =
    put_mid-paste to m l part part n refl (sym em) en ∙ pasted part to n l h (omega arith) ∙ stored w part to n l e

-- so are the q bytes of s from `from` on
pub placed_from : (s : List ℕ) (from to m q n : ℕ) (l part : List ℕ) → part ≡ take q (drop from s) → m ≡ n → q ≡ n → to + n ≤ length l → from + n ≤ length s
    → put_mid to m l part ≡ run (taken s from) to n l
placed_from s from to m q n l part e em eq h g =
    let long : length part ≡ n = ap (λ (x : List ℕ). length x) e ∙ length-take-le q (drop from s) (rw length-drop (omega arith)) ∙ eq in
    placed (λ (k : ℕ). get_or s (from + k) 0) to m n l part em (sym long) h
    (λ k i. ap (λ (x : List ℕ). get_or x k 0) e ∙ get_or-take q (drop from s) k 0 (omega arith) ∙ get_or-drop from s k 0)

-- so are the q bytes from `from` on of what stands before `to`, put behind it where the list is split there
pub placed_split : (from to q n : ℕ) (l front back part : List ℕ) → front ≡ take to l → back ≡ drop to l → part ≡ take q (drop from front) → q ≡ n → from + n ≤ to → to + n ≤ length l
    → front ++ (part ++ drop n back) ≡ run (taken l from) to n l
placed_split from to q n l front back part ef eb e eq g h =
    let lf : length front ≡ to = ap (λ (x : List ℕ). length x) ef ∙ length-take-le to l (omega arith) in
    let long : length part ≡ n = ap (λ (x : List ℕ). length x) e ∙ length-take-le q (drop from front) (rw length-drop (omega arith)) ∙ eq in
    (λ i. ef i ++ (part ++ drop n (eb i)))
    ∙ placed (λ (k : ℕ). get_or l (from + k) 0) to n n l part refl (sym long) h
    (λ k i.
    ap (λ (x : List ℕ). get_or x k 0) e ∙ get_or-take q (drop from front) k 0 (omega arith) ∙ get_or-drop from front k 0
    ∙ ap (λ (x : List ℕ). get_or x (from + k) 0) ef ∙ get_or-take to l (from + k) 0 (omega arith))
