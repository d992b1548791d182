-- Laws of looking for an order: what a walk stands for; refused before the stream, past the picture, or found by a walk. Assumes nothing.
use mathlib.Core.Path.{◌≡◌, refl}
use mathlib.Core.List.{List, []}
use Prim.Native.Nat.{ℕ, ◌<◌}
use native.Mathlib.Omega.{arith}
use lib.ListN.{length, drop}
use Rattle.std.specs.Prelude.{Result, Some, None, Ok, Err}
use Rattle.std.specs.Result.{result_ok}
use Rattle.base.proofs.Tests.{apart}
use Rattle.picture.specs.declared.outcome.RleError.{RleError}
use Rattle.picture.specs.Sizes.{Frame, accepted, checked}
use Rattle.picture.specs.Outcomes.{format_of}
use Rattle.picture.specs.Pixels.{pixels_of}
use Rattle.picture.proofs.Pixels.{length-pixels_of}
use Rattle.definition.specs.Decode.{State, state, start}
use Rattle.definition.specs.Records.{orders_from, nth}
use Rattle.definition.proofs.Bounds.{Bytes, bytes_drop}
use Rattle.definition.proofs.Records.{orders_without_room}
use Rattle.rle.specs.declared.frame.Frame.{Frame as CodeFrame}
use Rattle.picture.specs.declared.outcome.RlePixelFormat.{RlePixelFormat}
use Rattle.rle.specs.declared.walk.Walk.{Walk}
use Rattle.rle.specs.declared.walk.Walked.{Walked}
use Rattle.rle.specs.States.{frame_of, checked_in}
use Rattle.rle.specs.Walking.{Stop, found_by, stops_at, WalksOrders}
use Rattle.rle.specs.Walks.{start_walk, StandsFor, Finds, FindsOrder}

-- ---- what a walk stands for

pub record Standing (src : List ℕ) (w : Walk) : Type 0 where
  pub state : State
  pub stands : StandsFor src w state

-- each walk stands for some state, so what is promised of all of them is promised of one at least
pub each_stands : (src : List ℕ) (w : Walk) → Standing src w
each_stands src w =
    record {
      state = state (drop w.pos src) (pixels_of 1 w.pixels []) [] w.insert w.first_row 0;
      stands = record { left = refl; pixels = length-pixels_of 1 w.pixels []; insert = refl; mark = refl };
    }

-- that of a stream's start stands for the state of the start
pub start-stands : (f : Frame) (src : List ℕ) → StandsFor src start_walk (start f src)
unfolding start
start-stands f src = record { left = refl; pixels = refl; insert = refl; mark = refl }

-- ---- what was found

reached_finds : (f : Frame) (src : List ℕ) (first : State) (n : ℕ) (x : Stop) (w : Walk) (k : ℕ) → stops_at x f src first n w k
    → Finds f src (found_by x w) (nth (orders_from f (length first.left) first) n)
reached_finds f src first n (Ok None) w k out = rw out.none tt
reached_finds f src first n (Err e) w k out = rw out.none tt
reached_finds f src first n (Ok (Some r)) w k reaches = rw reaches.is (reaches.told, reaches.stands)

-- what `ok` leaves of a frame or a refusal
module _ (bpp w h : ℕ) where
  pub frame_taken : (r : Result (CodeFrame × RlePixelFormat) RleError) (x : CodeFrame × RlePixelFormat) → Some x ≡ result_ok r → checked_in r ≡ checked bpp w h
      → accepted (frame_of x.0) (format_of x.1) ≡ checked bpp w h
  frame_taken (Ok y) x e is =
      let same : x ≡ y = cc in
      rw same is
  frame_taken (Err y) x e is = apart cc

  pub finds_refused : (src : List ℕ) (from : Walk) (n : ℕ) (r : Result (CodeFrame × RlePixelFormat) RleError) → None ≡ result_ok r → checked_in r ≡ checked bpp w h
      → FindsOrder src bpp w h from n None
  finds_refused src from n (Ok g) e is = apart cc
  finds_refused src from n (Err x) e is = rw (← is) refl

module _ (bpp w h : ℕ) (f : CodeFrame) {format : ℕ} (is : accepted (frame_of f) format ≡ checked bpp w h) (src : List ℕ) (from : Walk) (n : ℕ) where
  pub finds_past : f.total < from.pixels → Bytes src → FindsOrder src bpp w h from n None
  unfolding nth
  finds_past past octets =
      rw (← is)
      (λ s stands.
      rw (orders_without_room (frame_of f) s (omega (arith, stands.pixels)) (length s.left) (rw stands.left (bytes_drop from.pos src octets))) tt)

  pub finds_walked : (r : Walked) → WalksOrders (frame_of f) src from n r → FindsOrder src bpp w h from n (found_by r.stop r.walk)
  finds_walked r walks =
      rw (← is) (λ s stands. reached_finds (frame_of f) src s n r.stop r.walk r.orders (walks.stops s stands))
