-- Bytes written to the front of the output.
use Rattle.std.specs.Prelude.{◌≡◌, List, ◌++◌, ℕ, length, drop}

-- the first r bytes are those, and all others stay
pub record Writes (bytes before after : List ℕ) (r : ℕ) : Type 0 where
  pub next : r ≡ length bytes
  pub is : after ≡ bytes ++ drop (length bytes) before
