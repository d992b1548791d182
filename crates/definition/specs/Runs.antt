-- Where a run of orders stands between two of them.
use Rattle.std.specs.Prelude.{◌≡◌, ℕ, ◌≤◌, length}
use Rattle.picture.specs.Sizes.{Frame}
use Rattle.definition.specs.Decode.{State, Run, run}

-- some number of further orders, enough for the bytes left, gives from the state s what the whole run gives
pub record Continues (f : Frame) (whole : Run) (s : State) : Type 0 where
  pub fuel : ℕ
  pub enough : length s.left ≤ fuel
  pub goes : run f fuel s ≡ whole
