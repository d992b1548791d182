-- What the orders and the loop over them promise: the definition's steps, and nothing past the painted pixels changed.
use Rattle.std.specs.Prelude.{◌≡◌, List, Ok, Err, ℕ, ◌-◌, ◌*◌, ◌≤◌, ◌<◌, length, drop}
use Rattle.picture.specs.Sizes.{Frame}
use Rattle.definition.specs.Decode.{State, Step, Run, ended, then_run, run}
use Rattle.definition.specs.Plan.{end_with}
use Rattle.rle.specs.declared.state.State.{State as CodeState}
use Rattle.rle.specs.declared.state.Stepped.{Stepped}
use Rattle.rle.specs.Planning.{CodeEnding, ending_in}
use Rattle.rle.specs.States.{state_of, Invariant}

-- the definition's step that an ending and a state are
abbrev pub step_in : CodeEnding → State → Step
step_in e s = end_with (ending_in e) s

-- an order is carried out from the state s: ending and state are those of the definition `order`, and nothing after the painted pixels
-- changed
pub record Executes (f : Frame) (src before after : List ℕ) (s : CodeState) (r : Stepped) (order : State → Step) : Type 0 where
  pub is : step_in r.ending (state_of f src after r.state) ≡ order (state_of f src before s)
  pub rest : drop (r.state.walk.pixels * f.bytes) after ≡ drop (r.state.walk.pixels * f.bytes) before
  pub grows : s.walk.pixels ≤ r.state.walk.pixels
  pub reads : s.walk.pos ≤ r.state.walk.pos
  pub place : r.state.walk.pos ≤ length src
  pub mark : r.state.walk.first_row ≡ s.walk.first_row
  pub invariant : Invariant f r.state

-- ---- runs of orders

-- the definition's run that the last order's ending and state are, where all orders were to be carried out
abbrev pub run_in : CodeEnding → State → Run
run_in e s = then_run ended (step_in e s)

-- where some were, the run ends or pauses in the state
abbrev pub stopped_in : Frame → CodeEnding → State → Run
stopped_in f e s = then_run (run f 0) (step_in e s)

-- orders were carried out, and gave the run `whole`
pub record Decodes (f : Frame) (src before after : List ℕ) (whole : Run) (r : Stepped) : Type 0 where
  pub is : stopped_in f r.ending (state_of f src after r.state) ≡ whole
  pub rest : drop (r.state.walk.pixels * f.bytes) after ≡ drop (r.state.walk.pixels * f.bytes) before
  pub place : r.state.walk.pos ≤ length src
  pub invariant : Invariant f r.state

-- what holds between two orders: at most n further ones give the run `whole`
pub record BetweenOrders (f : Frame) (src before after : List ℕ) (whole : Run) (n : ℕ) (s : CodeState) : Type 0 where
  pub invariant : Invariant f s
  pub place : s.walk.pos ≤ length src
  pub same : length after ≡ length before
  pub rest : drop (s.walk.pixels * f.bytes) after ≡ drop (s.walk.pixels * f.bytes) before
  pub goes : run f n (state_of f src after s) ≡ whole

-- orders were carried out from the state s on, n at most: one at least is completed, or the stream is refused
abbrev pub decoded_on : CodeEnding → Frame → List ℕ → List ℕ → List ℕ → Run → ℕ → CodeState → Stepped → Type 0
decoded_on (Ok u) f src before after whole n s r =
    BetweenOrders f src before after whole (n - (r.state.orders - s.orders)) r.state
    × (s.orders < r.state.orders)
    × (r.state.orders - s.orders ≤ n)
decoded_on (Err e) f src before after whole n s r = Decodes f src before after whole r

pub record DecodesOn (f : Frame) (src before after : List ℕ) (n : ℕ) (s : CodeState) (r : Stepped) : Type 0 where
  pub grows : s.walk.pixels ≤ r.state.walk.pixels
  pub decoded : decoded_on r.ending f src before after (run f n (state_of f src before s)) n s r
