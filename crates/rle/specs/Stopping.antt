-- What calls of `decompress_some` amount to that go on from one another, at any stopping points: to the answer, the counts and the painted
-- bytes of one uninterrupted call, if nothing else writes the painted part. The theorems are in proofs/Stopping.antt: `at_pause`,
-- `stopped`, `same_state` and `same_stop` of the records below; `never_bad`, that no such call refuses its state; and `as_one_call`, that
-- the calls of a chain which ends unpaused are one call of `decompress`. The crate by_pauses has the last as the contract of real calls.
use Rattle.std.specs.Prelude.{◌≡◌, List, [], ◌∷◌, None, Ok, ℕ, ◌+◌, ◌*◌, ◌≤◌, length, take, drop}
use Rattle.picture.specs.Pixels.{bytes_of}
use Rattle.picture.specs.Sizes.{depth_of}
use Rattle.definition.specs.Decode.{Result, result, summary_of}
use Rattle.definition.specs.Pauses.{start_at, first_orders}
use Rattle.decoder_state.specs.declared.State.{State}
use Rattle.decoder_state.specs.States.{saved_in}
use Rattle.rle.specs.declared.pauses.Progress.TheVariants.{Paused}
use Rattle.rle.specs.declared.pauses.SomeReport.{SomeReport}
use Rattle.rle.specs.Pauses.{state_some, summary_some, DecompressesSome}

-- the bytes of n pixels at a depth
abbrev pub size_at : ℕ → ℕ → ℕ
size_at bpp n = n * (depth_of bpp).bytes

-- nothing else wrote the painted part: the target still begins with the bytes of the n pixels that the call before left in it
abbrev pub PaintedLeft : ℕ → ℕ → List ℕ → List ℕ → Type 0
PaintedLeft bpp n left before = take (size_at bpp n) before ≡ take (size_at bpp n) left

mutual
  -- a state that decoding calls alone lead to: by the limits of these calls, the last one first, and by what the last one left in the
  -- target. It is the start, or the one in which such a call is paused
  pub data Reached (src : List ℕ) (bpp w h : ℕ) : List ℕ → List ℕ → State → Type 0 where
    at_start : {target : List ℕ} {s : State} → saved_in s ≡ start_at bpp → Reached src bpp w h [] target s
    after_pause : {limits before after : List ℕ} {s t : State} {r : SomeReport} → GoesOn src bpp w h limits before after s r
        → r.outcome ≡ Ok (Paused t) → Reached src bpp w h limits after t

  -- such a call, of at most n orders: it goes on from a state so reached, into a target that then held `before` and now holds `after`
  pub data GoesOn (src : List ℕ) (bpp w h : ℕ) : List ℕ → List ℕ → List ℕ → State → SomeReport → Type 0 where
    from_reached : {limits target before after : List ℕ} {s : State} {n : ℕ} {r : SomeReport} → Reached src bpp w h limits target s
        → PaintedLeft bpp s.pixels target before
        → DecompressesSome src bpp w h s n before after r
        → GoesOn src bpp w h (n ∷ limits) before after s r

-- the most orders that calls with these limits carry out
abbrev pub orders_by : List ℕ → ℕ
orders_by [] = 0
orders_by (n ∷ limits) = orders_by limits + n

-- the stream's first orders, as many as the limits come to, decoded in one call: no target is seen
abbrev pub first_by : List ℕ → List ℕ → ℕ → ℕ → ℕ → Result
first_by limits src bpp w h = first_orders (orders_by limits) src bpp w h

-- a reached state: counts and painted bytes are those of the first orders
pub record AtPause (src : List ℕ) (bpp w h : ℕ) (limits target : List ℕ) (s : State) : Type 0 where
  pub orders : s.orders ≡ orders_by limits
  pub pixels : s.pixels ≡ length (first_by limits src bpp w h).painted
  pub painted : take (size_at bpp s.pixels) target ≡ bytes_of (depth_of bpp).bytes (first_by limits src bpp w h).painted
  pub within : s.pixels ≤ w * h
  pub counted : s.orders ≤ s.pixels
  pub bounded : s.pixels ≤ 26214 * length src

-- a call that goes on from such a state, into a target with space: report and painted bytes are those of the first orders; where it is
-- not paused, they are those of the whole stream, which one uninterrupted call has (Guarantees.antt, `Defined`)
pub record Stopped (src : List ℕ) (bpp w h : ℕ) (limits before after : List ℕ) (s : State) (r : SomeReport) : Type 0 where
  pub report : summary_some r ≡ summary_of (first_by limits src bpp w h)
  pub painted : take (size_at bpp r.pixels) after ≡ bytes_of (depth_of bpp).bytes (first_by limits src bpp w h).painted
  pub whole : state_some r.outcome ≡ None → first_by limits src bpp w h ≡ result src bpp w h
  pub kept : drop (size_at bpp r.pixels) after ≡ drop (size_at bpp r.pixels) before
  pub grows : s.pixels ≤ r.pixels
  pub within : r.pixels ≤ w * h
  pub counted : r.orders ≤ r.pixels
  pub bounded : r.pixels ≤ 26214 * length src

-- states reached by the same limits, in any two targets: no old byte shows in them
pub record SameState (bpp : ℕ) (target₁ target₂ : List ℕ) (s₁ s₂ : State) : Type 0 where
  pub state : s₁ ≡ s₂
  pub painted : take (size_at bpp s₁.pixels) target₁ ≡ take (size_at bpp s₂.pixels) target₂

-- nor in the calls that go on from them by the same limit, into targets with space
pub record SameStop (bpp : ℕ) (after₁ after₂ : List ℕ) (r₁ r₂ : SomeReport) : Type 0 where
  pub report : summary_some r₁ ≡ summary_some r₂
  pub state : state_some r₁.outcome ≡ state_some r₂.outcome
  pub painted : take (size_at bpp r₁.pixels) after₁ ≡ take (size_at bpp r₂.pixels) after₂
