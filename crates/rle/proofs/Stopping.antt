-- The theorems of specs/Stopping.antt, from the contract of `decompress_some` alone. A reached state stands where its orders lead to from
-- the stream's start, and so do the painted bytes in its target; a call that goes on from it keeps this. Assumes nothing.
use mathlib.Core.Path.{◌≡◌, refl, ap, sym, ◌∙◌, subst}
use mathlib.Core.List.{List, ◌++◌}
use Prim.Native.Nat.{ℕ, ◌+◌, ◌*◌, ◌≤◌, zero-le}
use native.Mathlib.Nat.{zero-mul, sub_self}
use native.Mathlib.Omega.{arith}
use lib.Dec.{ltb, leb, eqb}
use lib.ListN.{length, take, drop, length-take}
use lib.Seq.{take_at, drop_at}
use borrow.Author.Tests.{lt-ltb, le-ltb}
use Rattle.std.specs.Prelude.{Some, None, Ok, Err}
use Rattle.base.proofs.Tests.{apart, by_less, by_test}
use Rattle.picture.specs.Pixels.{bytes_of}
use Rattle.picture.specs.Sizes.{Refusal, Frame, depth_index, depth_of, Checked, refused, accepted, accept, checked, with_space}
use Rattle.picture.proofs.Pixels.{length-pixels_of}
use Rattle.picture.proofs.Depths.{Good, depth_good}
use Rattle.definition.specs.Decode.{State, start, Run, ended, paused, run, decode, Result, result_of, of_run, of_checked, result, result_in, Summary}
use Rattle.definition.specs.Pauses.{Saved, start_at, restored, saved_of, with_state, Part, paused_in, part_of, decode_some, first_of, first_orders}
use Rattle.definition.proofs.Bounds.{Bytes, last, start_bounds}
use Rattle.definition.proofs.Runs.{NotPaused, never_paused}
use Rattle.definition.proofs.Pauses.{RunAtMost, orders_at_most, runs_same, painted_stay, paused-orders, Stands, start-stands, stands-run, stands-paused}
use Rattle.decoder_state.specs.declared.State.{State as CodeState}
use Rattle.decoder_state.specs.States.{saved_in}
use Rattle.rle.specs.declared.report.Report.{Report}
use Rattle.rle.specs.declared.pauses.Progress.TheVariants.{Paused}
use Rattle.rle.specs.declared.pauses.ResumeError.TheVariants.{BadState}
use Rattle.rle.specs.declared.pauses.SomeReport.{SomeReport}
use Rattle.rle.specs.Report.{summary_in, Agrees, Decompresses}
use Rattle.rle.specs.Guarantees.{HasSpace}
use Rattle.rle.specs.Pauses.{state_some, summary_some, AgreesSome, resumes_run, DecompressesSome}
use Rattle.rle.proofs.Calls.{result_bytes, result_painted, no_orders, accepted_frame}
use Rattle.rle.specs.Stopping.{size_at, PaintedLeft, Reached, at_start, after_pause, GoesOn, from_reached, orders_by, first_by, AtPause, Stopped, SameState, SameStop}

-- ---- orders from the start

abbrev first_run : Frame → List ℕ → ℕ → Run
first_run f src n = run f n (start f src)

-- a run with a state to go on from, and one without
pausing : (size : ℕ) (x : Run) {a : Saved} → Some a ≡ paused_in size x → (t : State) × (x ≡ paused t) × (a ≡ saved_of size t)
unfolding paused_in
pausing size (ended t) e = apart cc
pausing size (paused t) e = (t, refl, cc)
pausing size (Run.refused r t) e = apart cc

not_pausing : (size : ℕ) (x : Run) → None ≡ paused_in size x → NotPaused x
unfolding paused_in
not_pausing size (ended t) e = tt
not_pausing size (paused t) e = apart cc
not_pausing size (Run.refused r t) e = tt

-- ---- what they give

-- with the state to go on from
abbrev part_at : ℕ → List ℕ → Checked → Part
part_at n src (refused x) = record { result = of_checked src (refused x); state = None }
part_at n src (accepted f k) = record { result = of_run f k (first_run f src n); state = paused_in (length src) (first_run f src n) }

result_at : (n : ℕ) (src : List ℕ) (c : Checked) → (part_at n src c).result ≡ first_of n src c
unfolding first_of
result_at n src (refused x) = refl
result_at n src (accepted f k) = refl

-- a refusal's number is at most 8
abbrev EarlyAtMost : Checked → Type 0
EarlyAtMost (refused x) = x.number ≤ 8
EarlyAtMost (accepted f k) = Unit {0}

early_at_most : (given bpp w h : ℕ) → EarlyAtMost (with_space given (checked bpp w h))
unfolding checked accept with_space
early_at_most given bpp w h =
    space _
    (by_test EarlyAtMost (leb 4 (depth_index bpp)) (λ _. omega arith)
    (λ _. by_test EarlyAtMost (eqb w 0) (λ _. omega arith)
    (λ _. by_test EarlyAtMost (eqb h 0) (λ _. omega arith)
    (λ _. by_test EarlyAtMost (ltb 8192 w) (λ _. omega arith) (λ _. by_test EarlyAtMost (ltb 8192 h) (λ _. omega arith) (λ _. tt))))))
  where
    space : (c : Checked) → EarlyAtMost c → EarlyAtMost (with_space given c)
    space (refused x) low = low
    space (accepted f k) low = by_test EarlyAtMost (ltb given (f.total * f.bytes)) (λ _. omega arith) (λ _. tt)

number_at_most : (n : ℕ) (src : List ℕ) (c : Checked) → EarlyAtMost c → (part_at n src c).result.refusal.number ≤ 8
unfolding of_checked of_run result_of
number_at_most n src (refused x) low = low
number_at_most n src (accepted f k) low = go (first_run f src n) (orders_at_most f n (start f src))
  where
    go : (x : Run) → RunAtMost x → (of_run f k x).refusal.number ≤ 8
    go (ended s) low = omega arith
    go (paused s) low = omega arith
    go (Run.refused r s) low = low

-- ---- a call that gives it

module _ {before after : List ℕ} {most : ℕ} {s : CodeState} {r : SomeReport} {p : Part} (a : AgreesSome before after most s r p) where
  pixels_are : r.pixels ≡ length p.result.painted
  pixels_are = ap (λ (x : Summary). x.pixels) a.report

  taken : take (r.pixels * p.result.bytes) after ≡ bytes_of p.result.bytes p.result.painted
  taken = rw (pixels_are, a.target) (take_at _ _ _ a.painted)

  kept : drop (r.pixels * p.result.bytes) after ≡ drop (r.pixels * p.result.bytes) before
  kept =
      let D = p.result.bytes in
      rw pixels_are
      (ap (λ (l : List ℕ). drop (length p.result.painted * D) l) a.target ∙ drop_at (bytes_of D p.result.painted) _ _ a.painted)

  -- the same of a call of `decompress` that reports it, into a target that held `old`
  agrees_as : {src old : List ℕ} {e : Result} {q : Report} → p.result ≡ e → r.pixels ≤ 26214 * length src
      → drop (length p.result.painted * p.result.bytes) before ≡ drop (length p.result.painted * p.result.bytes) old
      → summary_in q ≡ summary_some r → Agrees src old after most q e
  agrees_as is bounded past same =
      let pixels = ap (λ (x : Summary). x.pixels) same in
      rw (← is)
      (record {
        report = same ∙ a.report;
        target = a.target ∙ ap (λ (l : List ℕ). bytes_of p.result.bytes p.result.painted ++ l) past;
        painted = a.painted;
        within = rw pixels a.within;
        counted = rw (pixels, ap (λ (x : Summary). x.orders) same) a.counted;
        bounded = rw pixels bounded;
      })

-- ---- an accepted picture

-- what its frame has from the depth table
record OfTable (bpp : ℕ) (f : Frame) : Type 0 where
  bytes : f.bytes ≡ (depth_of bpp).bytes
  white : f.white ≡ (depth_of bpp).white
  good : Good (depth_of bpp)

of_table : (bpp w h : ℕ) (f : Frame) (k : ℕ) → checked bpp w h ≡ accepted f k → OfTable bpp f
of_table bpp w h f k is =
    let g = accepted_frame bpp w h (sym is) in
    record {
      bytes = ap (λ (x : Frame). x.bytes) g.1;
      white = ap (λ (x : Frame). x.white) g.1;
      good = depth_good bpp g.0.known;
    }

-- what is known of a state that n orders led to, for a picture of `most` pixels
record Known (f : Frame) (src : List ℕ) (most n : ℕ) (target : List ℕ) (s : CodeState) : Type 0 where
  stands : Stands f src target (saved_in s)
  is : saved_in s ≡ saved_of (length src) (last (first_run f src n))
  painted : take (s.pixels * f.bytes) target ≡ bytes_of f.bytes (last (first_run f src n)).painted
  orders : s.orders ≡ n
  within : s.pixels ≤ most

-- and of a call that they are the orders of
record Ran (f : Frame) (src : List ℕ) (n : ℕ) (s : CodeState) (r : SomeReport) : Type 0 where
  grows : s.pixels ≤ r.pixels
  bounded : Bytes src → r.pixels ≤ 26214 * length src
  whole : state_some r.outcome ≡ None → first_run f src n ≡ decode f src

module _ (src : List ℕ) (bpp w h : ℕ) {f : Frame} {k : ℕ} (is : checked bpp w h ≡ accepted f k) where
  table : OfTable bpp f
  table = of_table bpp w h f k is

  low : 1 ≤ f.bytes
  low = rw table.bytes table.good.low

  known_start : (target : List ℕ) (s : CodeState) → saved_in s ≡ start_at bpp → Known f src (w * h) 0 target s
  unfolding start_at start saved_of bytes_of
  known_start target s e =
      let n : s.pixels ≡ 0 = ap (λ (x : Saved). x.pixels) e in
      let stands = start-stands f src target bpp table.white (rw (table.bytes, table.white) table.good.white) in
      record {
        stands = subst (λ (x : Saved). Stands f src target x) (sym e) stands;
        is = rw (no_orders f (start f src), table.white, sub_self) e;
        painted = rw (no_orders f (start f src), n, zero-mul) refl;
        orders = ap (λ (x : Saved). x.orders) e;
        within = rw n zero-le;
      }

  -- a call that goes on from such a state
  module _ {m n : ℕ} {target before after : List ℕ} {s : CodeState} {r : SomeReport} (known : Known f src (w * h) m target s)
      (left : PaintedLeft bpp s.pixels target before) (d : DecompressesSome src bpp w h s n before after r) where
    left_by : take (s.pixels * f.bytes) before ≡ take (s.pixels * f.bytes) target
    left_by = rw table.bytes left

    from_start : run f n (restored f src before (saved_in s)) ≡ first_run f src (m + n)
    from_start = stands-run known.stands low before left_by n ∙ ap (λ (j : ℕ). first_run f src (j + n)) known.orders

    given : AgreesSome before after (w * h) s r (part_at (m + n) src (with_space (length before) (checked bpp w h)))
    unfolding decode_some part_of with_state with_space
    given =
        by_less (length before) (f.total * f.bytes)
        (λ short.
        let e = lt-ltb (length before) (f.total * f.bytes) short in
        rw (is, e) (rw (is, e) at d.agrees))
        (λ there.
        let e = le-ltb (length before) (f.total * f.bytes) there in
        rw (is, e, ← from_start) (rw (is, e, known.stands.good) at d.agrees))

    -- where it is paused, the target has space
    there_at_pause : {t : CodeState} → r.outcome ≡ Ok (Paused t) → f.total * f.bytes ≤ length before
    unfolding with_space
    there_at_pause p =
        by_less (length before) (f.total * f.bytes)
        (λ short.
        let e = rw (is, lt-ltb (length before) (f.total * f.bytes) short, p) at given.state in
        apart cc)
        (λ there. there)

    module _ (there : f.total * f.bytes ≤ length before) where
      agrees : AgreesSome before after (w * h) s r (part_at (m + n) src (accepted f k))
      unfolding with_space
      agrees = rw (is, le-ltb (length before) (f.total * f.bytes) there) at given

      painted_are : r.pixels ≡ length (last (first_run f src (m + n))).painted
      painted_are = pixels_are agrees ∙ ap length (result_painted f k (first_run f src (m + n)))

      resumes_first : resumes_run src after f (state_some r.outcome) (first_run f src (m + n))
      unfolding with_state with_space
      resumes_first =
          rw (← from_start) (rw (is, le-ltb (length before) (f.total * f.bytes) there, known.stands.good) at d.goes_on)

      ran_call : Ran f src (m + n) s r
      unfolding decode
      ran_call =
          let ps = (last (run f n (restored f src before (saved_in s)))).painted in
          let same : length ps ≡ r.pixels = ap (λ (x : Run). length (last x).painted) from_start ∙ sym painted_are in
          let stay : length (take s.pixels ps) ≡ s.pixels =
          rw (length-pixels_of f.bytes s.pixels before) at (ap length (painted_stay f n (restored f src before (saved_in s)))) in
          record {
            grows = omega (arith, same, stay, length-take s.pixels ps);
            bounded = λ octets. rw painted_are (start_bounds f (m + n) src low octets).1;
            whole = λ none.
                runs_same f (m + n) (length src) (start f src)
                (not_pausing (length src) (first_run f src (m + n)) (sym none ∙ agrees.state)) (never_paused f src);
          }

      -- where it is paused, so much is known of the next state
      known_next : (t : CodeState) → r.outcome ≡ Ok (Paused t) → Known f src (w * h) (m + n) after t
      unfolding saved_of
      known_next t p =
          let x = first_run f src (m + n) in
          let u = pausing (length src) x (rw p at agrees.state) in
          let on = rw (p, u.1) at resumes_first in
          let same : saved_in t ≡ saved_of (length src) (last x) = u.2 ∙ ap (λ (y : Run). saved_of (length src) (last y)) (sym u.1) in
          let pixels : t.pixels ≡ r.pixels = ap (λ (y : Saved). y.pixels) same ∙ sym painted_are in
          record {
            stands = stands-paused known.stands low before left_by n u.0 (from_start ∙ u.1) after (saved_in t) on.good on.restores;
            is = same;
            painted = rw pixels (rw (result_bytes f k x, result_painted f k x) at (taken agrees));
            orders =
                ap (λ (y : Saved). y.orders) u.2
                ∙ paused-orders f n (restored f src before (saved_in s)) u.0 (from_start ∙ u.1)
                ∙ ap (λ (j : ℕ). j + n) known.orders;
            within = rw pixels agrees.within;
          }

  known_of : {limits target : List ℕ} {s : CodeState} → Reached src bpp w h limits target s → Known f src (w * h) (orders_by limits) target s
  known_of (at_start e) = known_start _ _ e
  known_of (after_pause (from_reached reached left d) p) =
      let known = known_of reached in
      known_next known left d (there_at_pause known left d p) _ p

  given_part : {limits before after : List ℕ} {s : CodeState} {r : SomeReport} → GoesOn src bpp w h limits before after s r
      → AgreesSome before after (w * h) s r (part_at (orders_by limits) src (with_space (length before) (checked bpp w h)))
  given_part (from_reached reached left d) = given (known_of reached) left d

  paused_there : {limits before after : List ℕ} {s t : CodeState} {r : SomeReport} → GoesOn src bpp w h limits before after s r
      → r.outcome ≡ Ok (Paused t) → f.total * f.bytes ≤ length before
  paused_there (from_reached reached left d) p = there_at_pause (known_of reached) left d p

  ran : {limits before after : List ℕ} {s : CodeState} {r : SomeReport} → GoesOn src bpp w h limits before after s r
      → f.total * f.bytes ≤ length before → Ran f src (orders_by limits) s r
  ran (from_reached reached left d) there = ran_call (known_of reached) left d there

-- ---- a picture whose depth or sizes are refused: no call is paused

module _ (src : List ℕ) (bpp w h : ℕ) {x : Refusal} (is : checked bpp w h ≡ refused x) where
  refused_part : {limits before after : List ℕ} {s : CodeState} {r : SomeReport} → GoesOn src bpp w h limits before after s r
      → AgreesSome before after (w * h) s r (part_at (orders_by limits) src (refused x))
  unfolding decode_some part_of with_state with_space
  refused_part (from_reached reached left d) = rw is at d.agrees

  still_start : {limits target : List ℕ} {s : CodeState} → Reached src bpp w h limits target s
      → (orders_by limits ≡ 0) × (saved_in s ≡ start_at bpp)
  still_start (at_start e) = (refl, e)
  still_start (after_pause call p) =
      let e = rw p at (refused_part call).state in
      apart cc

  no_pixels : {limits before after : List ℕ} {s : CodeState} {r : SomeReport} → GoesOn src bpp w h limits before after s r → s.pixels ≡ 0
  unfolding start_at
  no_pixels (from_reached reached left d) = ap (λ (y : Saved). y.pixels) (still_start reached).1

-- ---- reached states

abbrev state_by : Saved → CodeState
state_by s =
    record { foreground = s.foreground; pos = s.place; insert = s.insert; pixels = s.pixels; first_row = s.first_row; orders = s.orders }

module _ (src : List ℕ) (bpp w h : ℕ) where
  first_is : (limits : List ℕ) (c : Checked) → checked bpp w h ≡ c → first_by limits src bpp w h ≡ (part_at (orders_by limits) src c).result
  unfolding first_orders
  first_is limits c is = rw is (sym (result_at (orders_by limits) src c))

  pub at_pause : {limits target : List ℕ} {s : CodeState} → Bytes src → Reached src bpp w h limits target s
      → AtPause src bpp w h limits target s
  unfolding saved_of start_at start bytes_of of_checked
  at_pause {limits} {target} {s} octets reached = go (checked bpp w h) refl
    where
      go : (c : Checked) → checked bpp w h ≡ c → AtPause src bpp w h limits target s
      go (accepted f k) is =
          let known = known_of src bpp w h is reached in
          let painted = ap (λ (x : Result). x.painted) (first_is limits _ is) ∙ result_painted f k (first_run f src (orders_by limits)) in
          let pixels = ap (λ (x : Saved). x.pixels) known.is in
          let orders = ap (λ (x : Saved). x.orders) known.is in
          let bounds = start_bounds f (orders_by limits) src (low src bpp w h is) octets in
          record {
            orders = known.orders;
            pixels = pixels ∙ sym (ap length painted);
            painted = rw (painted, ← (table src bpp w h is).bytes) known.painted;
            within = known.within;
            counted = omega (arith, orders, pixels, bounds.0);
            bounded = omega (arith, pixels, bounds.1);
          }
      go (refused x) is =
          let starts = still_start src bpp w h is reached in
          let painted = ap (λ (x : Result). x.painted) (first_is limits _ is) in
          let pixels : s.pixels ≡ 0 = ap (λ (x : Saved). x.pixels) starts.1 in
          let orders : s.orders ≡ 0 = ap (λ (x : Saved). x.orders) starts.1 in
          record {
            orders = orders ∙ sym starts.0;
            pixels = pixels ∙ sym (ap length painted);
            painted = rw (painted, pixels, zero-mul) refl;
            within = rw pixels zero-le;
            counted = rw orders zero-le;
            bounded = rw pixels zero-le;
          }

  -- no old byte shows in them
  pub same_state : {limits target₁ target₂ : List ℕ} {s₁ s₂ : CodeState} → Reached src bpp w h limits target₁ s₁
      → Reached src bpp w h limits target₂ s₂ → SameState bpp target₁ target₂ s₁ s₂
  unfolding start_at
  same_state {target₁ = target₁} {target₂} {s₁} {s₂} a b = go (checked bpp w h) refl
    where
      go : (c : Checked) → checked bpp w h ≡ c → SameState bpp target₁ target₂ s₁ s₂
      go (accepted f k) is =
          let m = known_of src bpp w h is a in
          let n = known_of src bpp w h is b in
          record {
            state = ap state_by (m.is ∙ sym n.is);
            painted = rw (← (table src bpp w h is).bytes) (m.painted ∙ sym n.painted);
          }
      go (refused x) is =
          let m = (still_start src bpp w h is a).1 in
          let n = (still_start src bpp w h is b).1 in
          let none : s₁.pixels ≡ 0 = ap (λ (x : Saved). x.pixels) m in
          let none' : s₂.pixels ≡ 0 = ap (λ (x : Saved). x.pixels) n in
          record { state = ap state_by (m ∙ sym n); painted = rw (none, none', zero-mul) refl }

  -- ---- calls from them

  module _ {limits before after : List ℕ} {s : CodeState} {r : SomeReport} (call : GoesOn src bpp w h limits before after s r) where
    gives : (c : Checked) → checked bpp w h ≡ c
        → AgreesSome before after (w * h) s r (part_at (orders_by limits) src (with_space (length before) (checked bpp w h)))
    unfolding with_space
    gives (accepted f k) is = given_part src bpp w h is call
    gives (refused x) is = rw is (refused_part src bpp w h is call)

    -- with space the target is not seen
    gives_first : HasSpace before bpp w h → (c : Checked) → checked bpp w h ≡ c
        → AgreesSome before after (w * h) s r (part_at (orders_by limits) src c)
    unfolding with_space
    gives_first space (accepted f k) is =
        let there : f.total * f.bytes ≤ length before = rw is at space in
        rw (is, le-ltb (length before) (f.total * f.bytes) there) at (given_part src bpp w h is call)
    gives_first space (refused x) is = refused_part src bpp w h is call

    -- its bytes, by the depth
    painted_by : (c : Checked) → checked bpp w h ≡ c → AgreesSome before after (w * h) s r (part_at (orders_by limits) src c)
        → take (size_at bpp r.pixels) after ≡ bytes_of (depth_of bpp).bytes (part_at (orders_by limits) src c).result.painted
    unfolding of_checked bytes_of
    painted_by (accepted f k) is a =
        rw (← (table src bpp w h is).bytes) (rw (result_bytes f k (first_run f src (orders_by limits))) at (taken a))
    painted_by (refused x) is a = rw (pixels_are a, zero-mul) refl

    kept_by : (c : Checked) → checked bpp w h ≡ c → AgreesSome before after (w * h) s r (part_at (orders_by limits) src c)
        → drop (size_at bpp r.pixels) after ≡ drop (size_at bpp r.pixels) before
    unfolding of_checked
    kept_by (accepted f k) is a =
        rw (← (table src bpp w h is).bytes) (rw (result_bytes f k (first_run f src (orders_by limits))) at (kept a))
    kept_by (refused x) is a = rw (pixels_are a, zero-mul) (rw (pixels_are a) at (kept a))

    pub stopped : Bytes src → HasSpace before bpp w h → Stopped src bpp w h limits before after s r
    unfolding result of_checked
    stopped octets space = go (checked bpp w h) refl
      where
        bounds : (c : Checked) → checked bpp w h ≡ c → (s.pixels ≤ r.pixels) × (r.pixels ≤ 26214 * length src)
            × (state_some r.outcome ≡ None → (part_at (orders_by limits) src c).result ≡ result src bpp w h)
        bounds (accepted f k) is =
            let x = ran src bpp w h is call (rw is at space) in
            (x.grows, x.bounded octets, λ none. rw is (ap (of_run f k) (x.whole none)))
        bounds (refused x) is =
            (rw (no_pixels src bpp w h is call) zero-le, rw (pixels_are (refused_part src bpp w h is call)) zero-le, λ none. rw is refl)

        go : (c : Checked) → checked bpp w h ≡ c → Stopped src bpp w h limits before after s r
        go c is =
            let a = gives_first space c is in
            let b = bounds c is in
            record {
              report = rw (first_is limits c is) a.report;
              painted = rw (first_is limits c is) (painted_by c is a);
              whole = λ none. first_is limits c is ∙ b.2 none;
              kept = kept_by c is a;
              grows = b.0;
              within = a.within;
              counted = a.counted;
              bounded = b.1;
            }

    -- the state is never refused
    pub never_bad : r.outcome ≡ Err BadState → ⊥
    never_bad p =
        let a = gives (checked bpp w h) refl in
        let number : 15 ≡ _ = rw p at (ap (λ (x : Summary). x.refusal.number) a.report) in
        omega (arith, number, number_at_most (orders_by limits) src _ (early_at_most (length before) bpp w h))

    -- it is paused only with space
    pub space_at_pause : {t : CodeState} → r.outcome ≡ Ok (Paused t) → HasSpace before bpp w h
    space_at_pause p = go (checked bpp w h) refl
      where
        go : (c : Checked) → checked bpp w h ≡ c → HasSpace before bpp w h
        go (accepted f k) is = rw is (paused_there src bpp w h is call p)
        go (refused x) is = rw is tt

    -- where it is not paused, it and the calls before are one of `decompress`, into a target of this length that held `old`, if the bytes
    -- past the painted ones are those of `old`
    pub as_one_call : Bytes src → state_some r.outcome ≡ None → {old : List ℕ} → length before ≡ length old
        → drop (size_at bpp r.pixels) before ≡ drop (size_at bpp r.pixels) old
        → {q : Report} → summary_in q ≡ summary_some r → Decompresses src bpp w h old after q
    unfolding result_in of_checked with_space
    as_one_call octets none {old} long past {q} same = go (checked bpp w h) refl
      where
        none_painted : {x : Refusal} → AgreesSome before after (w * h) s r (part_at (orders_by limits) src (refused x))
            → Agrees src old after (w * h) q (of_checked src (refused x))
        none_painted a = agrees_as a refl (rw (pixels_are a) zero-le) (rw (pixels_are a, zero-mul) at past) same

        go : (c : Checked) → checked bpp w h ≡ c → Decompresses src bpp w h old after q
        go (accepted f k) is =
            by_less (length before) (f.total * f.bytes)
            (λ short.
            let e = lt-ltb (length before) (f.total * f.bytes) short in
            rw (← long, is, e) (none_painted (rw (is, e) at (gives (accepted f k) is))))
            (λ there.
            let x = ran src bpp w h is call there in
            let a = gives_first (rw is there) (accepted f k) is in
            rw (← long, is, le-ltb (length before) (f.total * f.bytes) there)
            (agrees_as a (ap (of_run f k) (x.whole none)) (x.bounded octets)
            (rw (result_bytes f k (first_run f src (orders_by limits))) (rw (pixels_are a, ← (table src bpp w h is).bytes) at past)) same))
        go (refused x) is = rw is (none_painted (refused_part src bpp w h is call))

  -- nor does an old byte show in two of them
  pub same_stop : {limits before₁ after₁ before₂ after₂ : List ℕ} {s₁ s₂ : CodeState} {r₁ r₂ : SomeReport}
      → GoesOn src bpp w h limits before₁ after₁ s₁ r₁ → HasSpace before₁ bpp w h
      → GoesOn src bpp w h limits before₂ after₂ s₂ r₂ → HasSpace before₂ bpp w h → SameStop bpp after₁ after₂ r₁ r₂
  same_stop call₁ space₁ call₂ space₂ =
      let c = checked bpp w h in
      let a = gives_first call₁ space₁ c refl in
      let b = gives_first call₂ space₂ c refl in
      record {
        report = a.report ∙ sym b.report;
        state = a.state ∙ sym b.state;
        painted = painted_by call₁ c refl a ∙ sym (painted_by call₂ c refl b);
      }
