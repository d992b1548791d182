-- Palette look: the lowest index whose entry equals a triple, and nothing exactly if no entry does or the palette is shorter than its
-- 256 entries.
use Rattle.std.specs.Prelude.{◌≡◌, List, ℕ, zero, suc, ◌≤◌, ◌<◌, leb, length, Option, Some, None}
use Rattle.base.specs.Picks.{pick}
use Rattle.color.specs.Colors.{Triple, entry, same_triple}

-- the lowest index of the triple among the n entries from index i on
unfoldable pub lowest_from : List ℕ → Triple → ℕ → ℕ → Option ℕ
lowest_from palette t i zero = None
lowest_from palette t i (suc n) = pick (same_triple (entry palette i) t) (Some i) (lowest_from palette t (suc i) n)

-- the definition
unfoldable pub lowest_index : List ℕ → Triple → Option ℕ
lowest_index palette t = pick (leb 768 (length palette)) (lowest_from palette t 0 256) None

-- index i has the triple
pub record Matches (palette : List ℕ) (t : Triple) (i : ℕ) : Type 0 where
  pub long : 768 ≤ length palette
  pub index : i < 256
  pub equal : entry palette i ≡ t

-- what an answer says (proofs/Lowest.antt: of every palette and triple this holds of one answer alone, that of the definition)
abbrev pub Looked : List ℕ → Triple → Option ℕ → Type 0
Looked palette t (Some i) = Matches palette t i × ((k : ℕ) → k < i → Matches palette t k → ⊥)
Looked palette t None = (i : ℕ) → Matches palette t i → ⊥
