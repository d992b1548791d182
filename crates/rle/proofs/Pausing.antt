-- Laws of some orders: which states are good, and what a call says that goes on from one. Assumes nothing.
use mathlib.Core.Path.{◌≡◌, refl, ap, sym, ◌∙◌, subst}
use mathlib.Core.List.{List, ◌++◌}
use mathlib.Core.Bool.{Bool, true, false}
use Prim.Native.Nat.{ℕ, ◌-◌, ◌*◌, ◌≤◌, zero-le}
use native.Mathlib.Nat.{le_refl, mul-le-mul_right}
use native.Mathlib.Omega.{arith}
use lib.Dec.{ltb}
use lib.ListN.{length, take, drop, take-append-drop, length-append, length-drop, drop_of_length-le}
use lib.Seq.{length-take-le, take-append-le, take-take}
use borrow.Author.Tests.{le-ltb, ltb-true, ltb-false}
use Rattle.std.specs.Prelude.{Ok, Err}
use Rattle.base.specs.Picks.{pick}
use Rattle.picture.specs.declared.outcome.RlePixelFormat.{RlePixelFormat}
use Rattle.picture.specs.Pixels.{bytes_of, pixels_of}
use Rattle.picture.specs.Sizes.{Frame, Checked, accepted, checked, with_space}
use Rattle.picture.specs.Outcomes.{format_of}
use Rattle.picture.proofs.Pixels.{length-pixels_of, bytes-pixels, bytes_of-append}
use Rattle.definition.specs.Decode.{State, Run, then_run, run, result_of, of_run, of_checked, summary_of}
use Rattle.definition.specs.Pauses.{Saved, restored, saved_of, bad_state, with_state, paused_in, part_of, decode_some}
use Rattle.definition.specs.Plan.{end_with}
use Rattle.definition.proofs.Bounds.{last}
use Rattle.definition.proofs.Pauses.{neither, depth_unused, unused-depth, painted_stay}
use Rattle.definition.proofs.Runs.{run_end, run_pause}
use Rattle.decoder_state.specs.declared.State.{State as KeptState}
use Rattle.decoder_state.specs.States.{saved_in}
use Rattle.rle.specs.declared.frame.Frame.{Frame as CodeFrame}
use Rattle.rle.specs.declared.state.State.{State as CodeState}
use Rattle.rle.specs.declared.state.Stepped.{Stepped}
use Rattle.rle.specs.declared.pauses.ResumeError.{ResumeError}
use Rattle.rle.specs.declared.pauses.SomeReport.{SomeReport}
use Rattle.rle.specs.Orders.{Decodes, stopped_in}
use Rattle.rle.specs.Pauses.{resume_refusal, state_some, summary_some, resumes_run, DecompressesSome}
use Rattle.rle.specs.Pausing.{some_report_of, not_resumed}
use Rattle.rle.specs.Planning.{CodeEnding}
use Rattle.rle.specs.States.{frame_of, state_of, state_from, kept_state, row_above, Invariant}
use Rattle.rle.proofs.Calls.{result_bytes, result_painted, spaced, total-is, held, length-held, last-state}
use Rattle.rle.proofs.Stream.{framed}

-- ---- good states

row_good : (first : Bool) (k w : ℕ) → row_above first w ≤ k → pick first false (ltb k w) ≡ false
row_good true k w h = refl
row_good false k w h = le-ltb k w h

good_row : (first : Bool) (k w : ℕ) → pick first false (ltb k w) ≡ false → row_above first w ≤ k
good_row true k w e = zero-le
good_row false k w e = ltb-false k w e

-- a state between orders passes the tests, and one that passes is good to go on from
invariant-good : (f : Frame) (size : ℕ) (s : CodeState) → Invariant f s → s.walk.pos ≤ size → bad_state size f.total f.width f.bytes (saved_in (kept_state s)) ≡ false
unfolding bad_state
invariant-good f size s i place =
    rw (le-ltb size s.walk.pos place, le-ltb f.total s.walk.pixels i.within, le-ltb s.walk.pixels s.orders i.counted, row_good s.walk.first_row s.walk.pixels f.width i.row)
    (depth_unused f.bytes s.foreground i.foreground)

pub good-invariant : (f : Frame) (size : ℕ) (s : KeptState) → length s.foreground ≡ 3 → bad_state size f.total f.width f.bytes (saved_in s) ≡ false
    → Invariant f (state_from s) × (s.pos ≤ size)
unfolding bad_state
good-invariant f size s three e =
    let place = neither (ltb size s.pos) _ e in
    let within = neither (ltb f.total s.pixels) _ place.1 in
    let counted = neither (ltb s.pixels s.orders) _ within.1 in
    let row = neither (pick s.first_row false (ltb s.pixels f.width)) _ counted.1 in (
      record {
        within = ltb-false f.total s.pixels within.0;
        row = good_row s.first_row s.pixels f.width row.0;
        foreground = unused-depth f.bytes s.foreground three row.1;
        counted = ltb-false s.pixels s.orders counted.0;
      },
      ltb-false size s.pos place.0,
    )

-- ---- refused before the stream

pub resumes_refused : (src before : List ℕ) (bpp w h n : ℕ) (s : KeptState) (e : ResumeError)
    → Checked.refused (resume_refusal e) ≡ with_state (length src) (saved_in s) (with_space (length before) (checked bpp w h))
    → DecompressesSome src bpp w h s n before before (not_resumed e)
unfolding decode_some part_of of_checked bytes_of
resumes_refused src before bpp w h n s e p =
    record {
      agrees =
          rw (← p) (record { report = refl; state = refl; target = refl; painted = refl; begun = refl; within = zero-le; counted = zero-le });
      goes_on = rw (← p) tt;
    }

-- ---- some orders

-- what the report says of the run x
record Tells (f : Frame) (k : ℕ) (src after : List ℕ) (r : SomeReport) (x : Run) : Type 0 where
  report : summary_some r ≡ summary_of (of_run f k x)
  state : state_some r.outcome ≡ paused_in (length src) x
  goes_on : resumes_run src after f (state_some r.outcome) x

module _ (f : Frame) (k : RlePixelFormat) (src after : List ℕ) (s : CodeState) (invariant : Invariant f s) (place : s.walk.pos ≤ length src) where
  abbrev t : State
  t = state_of f src after s

  tells_stop : (b : Bool) → ltb s.walk.pos (length src) ≡ b → Tells f (format_of k) src after (some_report_of (record { ending = Ok tt; state = s }) (length src) k) (run f 0 t)
  unfolding of_run result_of paused_in saved_of
  tells_stop true e =
      let inside = ltb-true s.walk.pos (length src) e in
      let back : length src - length (drop s.walk.pos src) ≡ s.walk.pos = rw length-drop (omega arith) in
      rw (e, run_pause f t (rw length-drop (omega arith)))
      (record {
        report = rw length-pixels_of refl;
        state = rw (back, length-pixels_of f.bytes s.walk.pixels after) refl;
        goes_on = record { good = invariant-good f (length src) s invariant place; restores = refl };
      })
  tells_stop false e =
      rw (e, run_end f 0 t (drop_of_length-le _ (ltb-false s.walk.pos (length src) e)))
      (record { report = rw length-pixels_of refl; state = refl; goes_on = tt })

  tells : (a : CodeEnding) → Tells f (format_of k) src after (some_report_of (record { ending = a; state = s }) (length src) k) (stopped_in f a t)
  unfolding then_run end_with of_run result_of paused_in
  tells (Ok u) = tells_stop _ refl
  tells (Err e) = record { report = rw length-pixels_of refl; state = refl; goes_on = tt }

-- the pixels that were there when the orders began stay
begun_stay : (f : Frame) (n p q : ℕ) (src before after : List ℕ) (s : Saved) → f.bytes ≤ 3 → s.pixels * f.bytes ≤ length before
    → (last (run f n (restored f src before s))).painted ≡ pixels_of f.bytes p after → after ≡ bytes_of f.bytes (pixels_of f.bytes p after) ++ drop q before
    → take (s.pixels * f.bytes) after ≡ take (s.pixels * f.bytes) before
begun_stay f n p q src before after s high given is held =
    let ps = pixels_of f.bytes p after in
    let stay = painted_stay f n (restored f src before s) in
    let first : take s.pixels ps ≡ pixels_of f.bytes s.pixels before = rw (length-pixels_of f.bytes s.pixels before, is) at stay in
    let m = s.pixels * f.bytes in
    let later = bytes_of f.bytes (drop s.pixels ps) in
    let bytes : bytes_of f.bytes ps ≡ take m before ++ later =
    ap (bytes_of f.bytes) (sym (take-append-drop s.pixels ps)) ∙ bytes_of-append f.bytes (take s.pixels ps) (drop s.pixels ps)
    ∙ ap (λ (xs : List ℕ). xs ++ later) (ap (bytes_of f.bytes) first ∙ bytes-pixels f.bytes s.pixels before high given) in
    let size : length (take m before) ≡ m = length-take-le m before given in
    ap (take m) (held ∙ ap (λ (xs : List ℕ). xs ++ drop q before) bytes)
    ∙ take-append-le m (take m before ++ later) (drop q before) (rw length-append (omega (arith, size)))
    ∙ take-append-le m (take m before) later (omega (arith, size))
    ∙ take-take m m before (le_refl m)

module _ (src before after : List ℕ) (bpp w h n : ℕ) (s : KeptState) (f : CodeFrame) (k : RlePixelFormat)
    (is : accepted (frame_of f) (format_of k) ≡ with_space (length before) (checked bpp w h)) (within : s.pixels ≤ f.total)
    (good : bad_state (length src) f.total f.width f.depth.bytes (saved_in s) ≡ false)
    (r : Stepped) (same : length after ≡ length before)
    (decodes : Decodes (frame_of f) src before after (run (frame_of f) n (state_of (frame_of f) src before (state_from s))) r) where
  pub resumes_decoded : DecompressesSome src bpp w h s n before after (some_report_of r (length src) k)
  unfolding decode_some part_of with_state
  resumes_decoded =
      let g = frame_of f in
      let space = spaced (length before) (checked bpp w h) is in
      let frame = framed f (length before) space.1 in
      let told : Tells g (format_of k) src after (some_report_of r (length src) k) (run g n (restored g src before (saved_in s))) =
      subst (λ (x : Run). Tells g (format_of k) src after (some_report_of r (length src) k) x) decodes.is (tells g k src after r.state decodes.invariant decodes.place r.ending) in
      let last-is = last-state g src before after r frame same decodes in
      let pixels-is = result_painted g (format_of k) (run g n (restored g src before (saved_in s))) ∙ ap (λ (x : State). x.painted) last-is in
      let depth-is = result_bytes g (format_of k) (run g n (restored g src before (saved_in s))) in
      let length-is = length-pixels_of g.bytes r.state.walk.pixels after in
      record {
        agrees =
            rw (← total-is bpp w h f space.0, ← is, good)
            (record {
              report = told.report;
              state = told.state;
              target = rw (depth-is, pixels-is, length-is) (held g src before after r frame same decodes);
              painted = rw (depth-is, pixels-is, length-is) (length-held g src before after r frame same decodes);
              begun =
                  rw depth-is
                  (begun_stay g n r.state.walk.pixels _ src before after (saved_in s) f.high
                  (omega (arith, space.1, mul-le-mul_right {m = s.pixels} {n = f.total} f.depth.bytes within)) (ap (λ (x : State). x.painted) last-is)
                  (held g src before after r frame same decodes));
              within = decodes.invariant.within;
              counted = decodes.invariant.counted;
            });
        goes_on = rw (← is, good) told.goes_on;
      }
