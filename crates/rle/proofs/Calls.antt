-- Laws of a whole call: refused before the stream, or decoded. Assumes nothing.
use mathlib.Core.Path.{◌≡◌, refl, ap, sym, ◌∙◌, subst}
use mathlib.Core.List.{List, [], ◌∷◌, ◌++◌}
use Prim.Native.Nat.{ℕ, ◌*◌, ◌≤◌, zero-le}
use native.Mathlib.Nat.{mul-le-mul_right}
use native.Mathlib.Omega.{arith}
use lib.Dec.{ltb}
use lib.ListN.{length, drop, take-append-drop}
use lib.Seq.{length-take-le}
use borrow.Author.Tests.{ltb-false}
use Rattle.base.proofs.Tests.{by_test, apart}
use Rattle.std.specs.Prelude.{Result, Ok, Err, MatchResult}
use Rattle.rle.specs.declared.frame.Frame.{Frame as CodeFrame}
use Rattle.rle.specs.declared.state.Stepped.{Stepped}
use Rattle.rle.specs.declared.report.Report.{Report}
use Rattle.picture.specs.declared.outcome.RleError.{RleError}
use Rattle.picture.specs.Pixels.{bytes_of, pixels_of}
use Rattle.picture.specs.Sizes.{Frame, depth_of, Checked, refused, accepted, accept, checked, with_space, size_of}
use Rattle.definition.specs.Decode.{State, Run, ended, paused, at_end, then_run, run, decode, result_of, of_run, of_checked, result_in, Summary}
use Rattle.definition.specs.Plan.{end_with}
use Rattle.picture.specs.Outcomes.{refusal_of}
use Rattle.rle.specs.Report.{summary_in, Agrees, Decompresses}
use Rattle.rle.specs.Planning.{CodeEnding}
use Rattle.rle.specs.States.{frame_of, state_of, Framed}
use Rattle.rle.specs.Orders.{Decodes, run_in, stopped_in}
use Rattle.rle.specs.Reporting.{refusal_after, format_after, summary_after, not_decoded, or_by}
use Rattle.picture.proofs.Pixels.{length-pixels_of, bytes-pixels}
use Rattle.picture.proofs.Sizes.{Sized, sized}
use Rattle.rle.proofs.Stream.{framed}
use Rattle.definition.proofs.Bounds.{Bytes, last, start_bounds}
use Rattle.definition.proofs.Runs.{NotPaused, never_paused}

-- ---- refusals before the stream

-- what `unwrap_or_else` makes of an answer or a refusal
pub unwrapped : {A E : Type 0} (f : E → A) (q : Result A E) (r : A) → MatchResult q (λ x. r ≡ x) (λ e. r ≡ f e) → r ≡ or_by f q
unwrapped f (Ok x) r h = h
unwrapped f (Err e) r h = h

refused-is : (src before : List ℕ) (total : ℕ) {c : Checked} (e : RleError) → c ≡ refused (refusal_of e)
    → Agrees src before before total (not_decoded e) (of_checked src c)
unfolding of_checked bytes_of
refused-is src before total e p =
    rw p
    (record {
      report = refl;
      target = refl;
      painted = refl;
      within = zero-le;
      counted = zero-le;
      bounded = zero-le;
    })

pub reports_refused : (src before : List ℕ) (bpp w h : ℕ) {e : RleError} → refused (refusal_of e) ≡ with_space (length before) (checked bpp w h)
    → Decompresses src bpp w h before before (not_decoded e)
unfolding result_in
reports_refused src before bpp w h {e} s = refused-is src before (w * h) e (sym s)

-- a target with space is none that is refused
pub spaced : (given : ℕ) (c : Checked) {f : Frame} {k : ℕ} → accepted f k ≡ with_space given c → (accepted f k ≡ c) × (f.total * f.bytes ≤ given)
unfolding with_space
spaced given (refused r) e = apart cc
spaced given (accepted g j) {f} {k} e =
    by_test (λ (x : Checked). accepted f k ≡ x → (accepted f k ≡ accepted g j) × (f.total * f.bytes ≤ given)) (ltb given (g.total * g.bytes)) (λ t x. apart cc)
    (λ t x. let same : f ≡ g = cc in (x, rw same (ltb-false given (g.total * g.bytes) t))) e

-- ---- the stream

-- the result by the ending of the last order
pub result-is : (f : Frame) (k : ℕ) (a : CodeEnding) (s : State) → result_of (refusal_after a) (format_after a k) f.bytes s ≡ of_run f k (run_in a s)
unfolding of_run then_run end_with
result-is f k (Ok u) s = refl
result-is f k (Err e) s = refl

-- and its last state's pixels, of the frame's bytes each
module _ (f : Frame) (k : ℕ) where
  pub result_bytes : (x : Run) → (of_run f k x).bytes ≡ f.bytes
  unfolding of_run result_of
  result_bytes (ended s) = refl
  result_bytes (paused s) = refl
  result_bytes (Run.refused r s) = refl

  pub result_painted : (x : Run) → (of_run f k x).painted ≡ (last x).painted
  unfolding of_run result_of
  result_painted (ended s) = refl
  result_painted (paused s) = refl
  result_painted (Run.refused r s) = refl

last_at_end : (l : List ℕ) (s : State) → last (at_end l (ended s) (paused s)) ≡ s
unfolding at_end
last_at_end [] s = refl
last_at_end (x ∷ xs) s = refl

-- no orders leave the state as it is
pub no_orders : (f : Frame) (s : State) → last (run f 0 s) ≡ s
unfolding run
no_orders f s = last_at_end s.left s

last_is : (f : Frame) (a : CodeEnding) (s : State) → last (stopped_in f a s) ≡ s
unfolding then_run end_with
last_is f (Ok u) s = no_orders f s
last_is f (Err e) s = refl

-- where the run is not paused, all orders were carried out
unpaused_at : (l : List ℕ) (s : State) → NotPaused (at_end l (ended s) (paused s)) → at_end l (ended s) (paused s) ≡ ended s
unfolding at_end
unpaused_at [] s h = refl
unpaused_at (x ∷ xs) s h = absurd h

unpaused : (f : Frame) (a : CodeEnding) (s : State) → NotPaused (stopped_in f a s) → stopped_in f a s ≡ run_in a s
unfolding then_run end_with run
unpaused f (Ok u) s h = unpaused_at s.left s h
unpaused f (Err e) s h = refl

module _ (f : Frame) (src before after : List ℕ) {whole : Run} (s : Stepped) (frame : Framed (length before) f) (same : length after ≡ length before)
    (decodes : Decodes f src before after whole s) where
  fits : s.state.walk.pixels * f.bytes ≤ length after
  fits = rw same (omega (arith, frame.fits, mul-le-mul_right {m = s.state.walk.pixels} {n = f.total} f.bytes decodes.invariant.within))

  pub last-state : last whole ≡ state_of f src after s.state
  last-state = ap last (sym decodes.is) ∙ last_is f s.ending _

  -- the target holds the painted pixels, and then what it held
  pub held : after ≡ bytes_of f.bytes (pixels_of f.bytes s.state.walk.pixels after) ++ drop (s.state.walk.pixels * f.bytes) before
  held =
      rw (bytes-pixels f.bytes s.state.walk.pixels after frame.high fits, ← decodes.rest) (sym (take-append-drop (s.state.walk.pixels * f.bytes) after))

  pub length-held : length (bytes_of f.bytes (pixels_of f.bytes s.state.walk.pixels after)) ≡ s.state.walk.pixels * f.bytes
  length-held =
      rw (bytes-pixels f.bytes s.state.walk.pixels after frame.high fits) (length-take-le (s.state.walk.pixels * f.bytes) after fits)

module _ (f : Frame) (k : ℕ) (src before after : List ℕ) (s : Stepped) (frame : Framed (length before) f) (same : length after ≡ length before)
    (octets : Bytes src) (decodes : Decodes f src before after (decode f src) s) (r : Report)
    (reports : summary_in r ≡ summary_after s.ending k s.state.walk.pixels s.state.orders) where
  bounded-is : s.state.walk.pixels ≤ 26214 * length src
  unfolding decode
  bounded-is =
      let n : length (last (decode f src)).painted ≡ s.state.walk.pixels =
      ap (λ (x : State). length x.painted) (last-state f src before after s frame same decodes) ∙ length-pixels_of f.bytes s.state.walk.pixels after in
      omega (arith, n, (start_bounds f (length src) src frame.low octets).1)

  pixels : r.pixels ≡ s.state.walk.pixels
  pixels = ap (λ (x : Summary). x.pixels) reports

  orders : r.orders ≡ s.state.orders
  orders = ap (λ (x : Summary). x.orders) reports

  whole-is : run_in s.ending (state_of f src after s.state) ≡ decode f src
  whole-is =
      sym (unpaused f s.ending (state_of f src after s.state) (subst (λ (x : Run). NotPaused x) (sym decodes.is) (never_paused f src))) ∙ decodes.is

  reports_run : Agrees src before after f.total r (of_run f k (decode f src))
  unfolding result_of
  reports_run =
      rw (← whole-is, ← result-is)
      (record {
        report = rw length-pixels_of reports;
        target = rw (length-pixels_of f.bytes s.state.walk.pixels after) (held f src before after s frame same decodes);
        painted = rw (length-pixels_of f.bytes s.state.walk.pixels after) (length-held f src before after s frame same decodes);
        within = rw pixels decodes.invariant.within;
        counted = rw (pixels, orders) decodes.invariant.counted;
        bounded = rw pixels bounded-is;
      })

-- an accepted picture's frame is of its depth and sizes
pub accepted_frame : (bpp w h : ℕ) {f : Frame} {k : ℕ} → accepted f k ≡ checked bpp w h
    → Sized bpp w h (f.total * f.bytes)
    × (f ≡ record { bytes = (depth_of bpp).bytes; white = (depth_of bpp).white; black = (depth_of bpp).black; width = w; total = w * h })
unfolding size_of accept
accepted_frame bpp w h {f} {k} is =
    let z = sized bpp w h (f.total * f.bytes) (ap size_of is) in
    let a : accepted f k ≡ accept (depth_of bpp) w h = is ∙ z.checks in
    (z, cc)

module _ (bpp w h : ℕ) (f : CodeFrame) {format : ℕ} where
  pub total-is : accepted (frame_of f) format ≡ checked bpp w h → f.total ≡ w * h
  total-is is = ap (λ (x : Frame). x.total) (accepted_frame bpp w h is).1

  pub reports_decoded : (src before after : List ℕ) → accepted (frame_of f) format ≡ with_space (length before) (checked bpp w h) → (s : Stepped)
      → length after ≡ length before → Bytes src → Decodes (frame_of f) src before after (decode (frame_of f) src) s
      → (r : Report) → summary_in r ≡ summary_after s.ending format s.state.walk.pixels s.state.orders → Decompresses src bpp w h before after r
  unfolding result_in of_checked
  reports_decoded src before after is s same octets decodes r reports =
      let space = spaced (length before) (checked bpp w h) is in
      rw (← total-is space.0, ← is)
      (reports_run _ format src before after s (framed f (length before) space.1) same octets decodes r reports)
