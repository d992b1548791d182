-- Laws of runs of orders: one order and then the others, a run taken up again, and that a whole stream's never pauses. Assumes nothing.
use mathlib.Core.Path.{◌≡◌, refl, ap, sym, ◌∙◌, subst}
use mathlib.Core.List.{List, [], ◌∷◌}
use Prim.Native.Nat.{ℕ, zero, suc, ◌+◌, ◌*◌, ◌-◌, ◌≤◌, ◌<◌}
use native.Mathlib.Nat.{zero-add, suc-add, le_refl}
use native.Mathlib.Omega.{arith}
use lib.Dec.{leb, eqb}
use lib.ListN.{length, get_or, drop, length-drop}
use Rattle.picture.specs.Sizes.{Refusal, Frame}
use Rattle.base.proofs.Tests.{by_test}
use Rattle.definition.specs.Orders.{Kind, row_of, Place, nowhere, in_header, in_byte, in_two_bytes, RunLength, run_length, with_bytes, mega_length, mega_mega_length, length_at, length_of, headed, head_of}
use Rattle.definition.specs.Decode.{State, Step, done, refused, step, Run, ended, paused, at_end, then_run, run, decode, start}
use Rattle.definition.specs.Plan.{Ending, complete, Progress, end_with, plan_from, plan_by, plan_of, plan_state, plan_step, past_first_row, progress_of}
use Rattle.definition.specs.Runs.{Continues}
use Rattle.definition.proofs.Planned.{step_planned}

-- ---- one order, and then the others

pub run_end : (f : Frame) (n : ℕ) (s : State) → s.left ≡ [] → run f n s ≡ ended s
unfolding run at_end
run_end f zero s e = rw e
run_end f (suc n) s e = rw e

not_end : (l : List ℕ) (a b : Run) → 0 < length l → at_end l a b ≡ b
unfolding at_end
not_end [] a b h = absurd (omega arith)
not_end (x ∷ xs) a b h = refl

pub run_pause : (f : Frame) (s : State) → 0 < length s.left → run f 0 s ≡ paused s
unfolding run
run_pause f s h = not_end s.left _ _ h

run_step : (f : Frame) (n : ℕ) (s : State) → 0 < length s.left → run f (suc n) s ≡ then_run (run f n) (step f s)
unfolding run
run_step f n s h = not_end s.left _ _ h

-- all orders from a state on
pub continues-first : (f : Frame) (s : State) → Continues f (run f (length s.left) s) s
continues-first f s = record { fuel = length s.left; enough = le_refl (length s.left); goes = refl }

pub continues-start : (f : Frame) (src : List ℕ) → Continues f (decode f src) (start f src)
unfolding decode start
continues-start f src = continues-first f (start f src)

-- from the state s at most n orders give the run `whole`
module _ (f : Frame) (n : ℕ) (s : State) {whole : Run} (goes : run f n s ≡ whole) where
  pub goes_end : s.left ≡ [] → ended s ≡ whole
  goes_end e = sym (run_end f n s e) ∙ goes

  module _ (more : 0 < length s.left) (some : 0 < n) where
    before : n ≡ suc (n - 1)
    before = omega arith

    next : (x : Step) → x ≡ step f s → then_run (run f (n - 1)) x ≡ whole
    next x e =
        ap (λ (y : Step). then_run (run f (n - 1)) y) e
        ∙ sym (run_step f (n - 1) s more)
        ∙ ap (λ (m : ℕ). run f m s) (sym before)
        ∙ goes

    -- another state from which the next order is the same
    pub goes_as : (t : State) → t.left ≡ s.left → step f t ≡ step f s → run f n t ≡ whole
    goes_as t l e = ap (λ (m : ℕ). run f m t) before ∙ run_step f (n - 1) t (rw l more) ∙ next (step f t) e

    -- the next order's ending e and state t
    module _ (e : Ending) (t : State) (is : end_with e t ≡ step f s) where
      pub goes_refused : {r : Refusal} → e ≡ Ending.refused r → Run.refused r t ≡ whole
      unfolding then_run end_with
      goes_refused p = ap (λ (x : Ending). then_run (run f (n - 1)) (end_with x t)) (sym p) ∙ next (end_with e t) is

      pub goes_on : e ≡ complete → run f (n - 1) t ≡ whole
      unfolding then_run end_with
      goes_on p = ap (λ (x : Ending). then_run (run f (n - 1)) (end_with x t)) (sym p) ∙ next (end_with e t) is

module _ {f : Frame} {whole : Run} {s : State} (on : Continues f whole s) where
  pub continues_end : s.left ≡ [] → ended s ≡ whole
  continues_end = goes_end f on.fuel s on.goes

  module _ (more : 0 < length s.left) (e : Ending) (t : State) (is : end_with e t ≡ step f s) where
    some : 0 < on.fuel
    some = omega (arith, on.enough)

    pub continues-refused : {r : Refusal} → e ≡ Ending.refused r → then_run ended (end_with e t) ≡ whole
    unfolding then_run end_with
    continues-refused p = rw p (goes_refused f on.fuel s on.goes more some e t is p)

    pub continues_on : e ≡ complete → length t.left < length s.left → Continues f whole t
    continues_on p less =
        record {
          fuel = on.fuel - 1;
          enough = omega (arith, on.enough);
          goes = goes_on f on.fuel s on.goes more some e t is p;
        }

-- ---- a run taken up again

-- a paused run goes on, an ended or refused one does not
unfoldable pub resumed : (State → Run) → Run → Run
resumed go (ended s) = ended s
resumed go (paused s) = go s
resumed go (refused r s) = refused r s

resumed_end : (go : State → Run) (l : List ℕ) (a : State) (b : Run) → resumed go (at_end l (ended a) b) ≡ at_end l (ended a) (resumed go b)
unfolding resumed at_end
resumed_end go [] a b = refl
resumed_end go (x ∷ xs) a b = refl

resumed_then : (go f : State → Run) (x : Step) → resumed go (then_run f x) ≡ then_run (λ s. resumed go (f s)) x
unfolding resumed then_run
resumed_then go f (done s) = refl
resumed_then go f (refused r s) = refl

at_end_twice : (l : List ℕ) (a b : Run) → at_end l a (at_end l a b) ≡ at_end l a b
unfolding at_end
at_end_twice [] a b = refl
at_end_twice (x ∷ xs) a b = refl

at_end_run : (f : Frame) (n : ℕ) (s : State) → at_end s.left (ended s) (run f n s) ≡ run f n s
unfolding run
at_end_run f zero s = at_end_twice s.left (ended s) (paused s)
at_end_run f (suc n) s = at_end_twice s.left (ended s) (then_run (run f n) (step f s))

pub run_add : (f : Frame) (m n : ℕ) (s : State) → resumed (run f n) (run f m s) ≡ run f (m + n) s
unfolding run resumed
run_add f zero n s =
    resumed_end (run f n) s.left s (paused s) ∙ at_end_run f n s ∙ ap (λ (k : ℕ). run f k s) (sym (zero-add n))
run_add f (suc m) n s =
    resumed_end (run f n) s.left s (then_run (run f m) (step f s))
    ∙ ap (λ (x : Run). at_end s.left (ended s) x)
    (resumed_then (run f n) (run f m) (step f s)
    ∙ ap (λ (g : State → Run). then_run g (step f s)) (λ i t. run_add f m n t i))
    ∙ ap (λ (k : ℕ). run f k s) (sym (suc-add m n))

-- ---- what holds of runs

at_end_by : (Q : Run → Type 0) (l : List ℕ) (a b : Run) → Q a → (0 < length l → Q b) → Q (at_end l a b)
unfolding at_end
at_end_by Q [] a b h go = h
at_end_by Q (x ∷ xs) a b h go = go (omega arith)

-- the state that the next order leaves
abbrev pub following : Frame → State → State
following f s = plan_state f s (plan_of f (progress_of s))

-- what holds of each run of at most n orders from a state on: where it ends, pauses or is refused, and one order before where it holds
module _ (f : Frame) (Q : ℕ → State → Run → Type 0) (ends : (n : ℕ) (s : State) → Q n s (ended s))
    (pauses : (s : State) → 0 < length s.left → Q 0 s (paused s))
    (refuses : (n : ℕ) (s : State) (r : Refusal) → 0 < length s.left → (plan_of f (progress_of s)).ending ≡ Ending.refused r → Q (suc n) s (refused r (following f s)))
    (goes : (n : ℕ) (s : State) (x : Run) → 0 < length s.left → (plan_of f (progress_of s)).ending ≡ complete → Q n (following f s) x → Q (suc n) s x) where
  then_by : (n : ℕ) (s : State) (e : Ending) → 0 < length s.left → (plan_of f (progress_of s)).ending ≡ e → Q n (following f s) (run f n (following f s))
      → Q (suc n) s (then_run (run f n) (end_with e (following f s)))
  unfolding then_run end_with
  then_by n s complete more is h = goes n s _ more is h
  then_by n s (Ending.refused r) more is h = refuses n s r more is

  pub by_orders : (n : ℕ) (s : State) → Q n s (run f n s)
  unfolding run plan_step
  by_orders zero s = at_end_by (λ (x : Run). Q 0 s x) s.left _ _ (ends 0 s) (pauses s)
  by_orders (suc n) s =
      at_end_by (λ (x : Run). Q (suc n) s x) s.left _ _ (ends (suc n) s)
      (λ more. rw step_planned (then_by n s _ more refl (by_orders n (following f s))))

-- ---- a whole stream's run never pauses

-- the bytes behind a run length are fewer than those from its header on
abbrev behind : RunLength → List ℕ
behind (run_length n l) = l
behind (RunLength.refused r l) = l

with_bytes_lem : (k : ℕ) (l : List ℕ) (x : RunLength) → length (behind x) ≤ length l → length (behind (with_bytes k l x)) ≤ length l
unfolding with_bytes
with_bytes_lem k l x h = by_test (λ (y : RunLength). length (behind y) ≤ length l) (leb k (length l)) (λ _. h) (λ _. le_refl (length l))

length_shortens : (p : Place) (n mega : ℕ) (l : List ℕ) → length (behind (length_at p n mega l)) ≤ length l
unfolding length_at mega_length mega_mega_length
length_shortens nowhere n mega l = le_refl (length l)
length_shortens in_header n mega l = le_refl (length l)
length_shortens in_byte n mega l = with_bytes_lem 1 l _ (omega (arith, length-drop 1 l))
length_shortens in_two_bytes n mega l =
    with_bytes_lem 2 l _
    (by_test (λ (x : RunLength). length (behind x) ≤ length l) (eqb (get_or l 0 0 + get_or l 1 0 * 256) 0) (λ _. omega (arith, length-drop 2 l))
    (λ _. omega (arith, length-drop 2 l)))

plan_shortens : (f : Frame) (h : ℕ) (m : Progress) (k : Kind) (x : RunLength) → length (plan_from f h m (headed k x)).after.left ≤ length (behind x)
unfolding plan_from plan_by headed
plan_shortens f h m k (run_length n l) = rw length-drop (omega arith)
plan_shortens f h m k (RunLength.refused r l) = le_refl (length l)

step_shortens : (f : Frame) (s : State) → 0 < length s.left → length (plan_state f s (plan_of f (progress_of s))).left < length s.left
unfolding plan_state plan_of head_of progress_of past_first_row length_of
step_shortens f s more =
    let h = get_or s.left 0 0 in
    let l = drop 1 s.left in
    let x = length_of (row_of h) h l in
    let fewer : length (behind x) ≤ length l = length_shortens _ _ _ l in
    omega (arith, plan_shortens f h (past_first_row f (progress_of s)) (row_of h).kind x, fewer, length-drop 1 s.left)

abbrev pub NotPaused : Run → Type 0
NotPaused (ended s) = Unit {0}
NotPaused (paused s) = ⊥
NotPaused (refused r s) = Unit {0}

pub run_not_paused : (f : Frame) (n : ℕ) (s : State) → length s.left ≤ n → NotPaused (run f n s)
run_not_paused f =
    by_orders f (λ n s x. length s.left ≤ n → NotPaused x) (λ n s h. tt) (λ s more h. absurd (omega arith)) (λ n s r more e h. tt)
    (λ n s x more e go h. go (omega (arith, step_shortens f s more)))

pub never_paused : (f : Frame) (stream : List ℕ) → NotPaused (decode f stream)
unfolding decode start
never_paused f stream = run_not_paused f (length stream) (start f stream) (le_refl (length stream))
