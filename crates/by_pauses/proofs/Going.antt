-- Laws of decoding by pauses: what holds before each call, and the last call as one of `decompress`. Assumes nothing.
use mathlib.Core.Path.{◌≡◌, refl, ap, sym, ◌∙◌}
use mathlib.Core.List.{List, [], ◌∷◌}
use Prim.Native.Nat.{ℕ, ◌-◌, ◌*◌, ◌≤◌, ◌<◌}
use native.Mathlib.Omega.{arith}
use lib.ListN.{length, drop}
use Rattle.std.specs.Prelude.{None, Ok, Err}
use Rattle.base.proofs.Tests.{by_less}
use Rattle.picture.specs.Sizes.{depth_of}
use Rattle.definition.specs.Decode.{Summary}
use Rattle.definition.specs.Pauses.{Saved, start_at}
use Rattle.definition.proofs.Bounds.{Bytes}
use Rattle.decoder_state.specs.declared.State.{State}
use Rattle.decoder_state.specs.States.{saved_in}
use Rattle.rle.specs.declared.report.Report.{Report}
use Rattle.rle.specs.declared.pauses.Progress.TheVariants.{Paused}
use Rattle.rle.specs.declared.pauses.ResumeError.TheVariants.{BadState}
use Rattle.rle.specs.declared.pauses.SomeReport.{SomeReport}
use Rattle.rle.specs.Report.{summary_in, Decompresses}
use Rattle.rle.specs.Guarantees.{HasSpace}
use Rattle.rle.specs.Pauses.{state_some, summary_some, DecompressesSome}
use Rattle.rle.specs.Stopping.{size_at, Reached, at_start, after_pause, GoesOn, from_reached, AtPause}
use Rattle.rle.proofs.Painting.{rest_later}
use Rattle.rle.proofs.Stopping.{at_pause, stopped, never_bad, space_at_pause, as_one_call}

-- before a call, with a target that held `old` and now holds `now`: the state is reached, and the bytes past its pixels are left
pub record Between (src : List ℕ) (bpp w h : ℕ) (old now : List ℕ) (s : State) : Type 0 where
  pub octets : Bytes src
  pub limits : List ℕ
  pub reached : Reached src bpp w h limits now s
  pub past : drop (size_at bpp s.pixels) now ≡ drop (size_at bpp s.pixels) old
  pub long : length now ≡ length old
  pub space : 0 < s.pixels → HasSpace now bpp w h

pub between_start : (src : List ℕ) (bpp w h : ℕ) (old : List ℕ) (s : State) → Bytes src → saved_in s ≡ start_at bpp
    → Between src bpp w h old old s
unfolding start_at
between_start src bpp w h old s octets e =
    record {
      octets = octets;
      limits = [];
      reached = at_start e;
      past = refl;
      long = refl;
      space = λ some. absurd (omega (arith, ap (λ (x : Saved). x.pixels) e));
    }

module _ {src : List ℕ} {bpp w h : ℕ} {old now after : List ℕ} {s : State} {n : ℕ} {r : SomeReport}
    (between : Between src bpp w h old now s) (d : DecompressesSome src bpp w h s n now after r) where
  call : GoesOn src bpp w h (n ∷ between.limits) now after s r
  call = from_reached between.reached refl d

  past_call : drop (size_at bpp r.pixels) now ≡ drop (size_at bpp r.pixels) old
  past_call =
      let grows : s.pixels ≤ r.pixels =
      by_less 0 s.pixels (λ some. (stopped src bpp w h call between.octets (between.space some)).grows) (λ none. omega arith) in
      rest_later (depth_of bpp).bytes s.pixels r.pixels now old grows between.past

  -- it is paused
  module _ {t : State} (paused : r.outcome ≡ Ok (Paused t)) where
    next : AtPause src bpp w h (n ∷ between.limits) after t
    next = at_pause src bpp w h between.octets (after_pause call paused)

    pub between_next : length after ≡ length now → Between src bpp w h old after t
    between_next same =
        let space = space_at_pause src bpp w h call paused in
        let stop = stopped src bpp w h call between.octets space in
        let pixels : t.pixels ≡ r.pixels = next.pixels ∙ sym (ap (λ (x : Summary). x.pixels) stop.report) in
        record {
          octets = between.octets;
          limits = n ∷ between.limits;
          reached = after_pause call paused;
          past = rw pixels (stop.kept ∙ past_call);
          long = same ∙ between.long;
          space = λ _. rw same space;
        }

    -- some orders further
    pub fewer : 0 < n → w * h - t.orders < w * h - s.orders
    fewer some =
        let before = at_pause src bpp w h between.octets between.reached in
        omega (arith, some, before.orders, next.orders, next.counted, next.within)

  pub never : r.outcome ≡ Err BadState → ⊥
  never = never_bad src bpp w h call

  -- it is not paused
  pub ends : {q : Report} → state_some r.outcome ≡ None → summary_in q ≡ summary_some r → Decompresses src bpp w h old after q
  ends none same = as_one_call src bpp w h call between.octets none between.long past_call same
