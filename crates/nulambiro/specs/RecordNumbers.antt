-- The numbers that the C functions for a stream's orders answer in, of the definition's records, and those of a walk.
use Rattle.std.specs.Prelude.{◌≡◌, List, Option, Some, None, [], ◌∷◌, not, ℕ, eqb, get_or}
use Rattle.base.specs.Picks.{pick}
use Rattle.definition.specs.Orders.{Place, nowhere, in_header, in_byte, in_two_bytes}
use Rattle.definition.specs.Records.{Record, Numbered, order, no_order}
use Rattle.rle.specs.declared.walk.Walk.{Walk}
use Rattle.rle.specs.declared.walk.Found.{Found}
use Rattle.rle.specs.Records.{record_in}
use Rattle.rle.specs.Walks.{FindsOrder}

-- ---- records

abbrev pub place_number : Place → ℕ
place_number nowhere = 0
place_number in_header = 1
place_number in_byte = 2
place_number in_two_bytes = 3

-- found, the header byte, the place of the run length, and five zeros
abbrev pub record_numbers : Record → List ℕ
record_numbers r = 1 ∷ r.header ∷ place_number r.place ∷ 0 ∷ 0 ∷ 0 ∷ 0 ∷ 0 ∷ []

abbrev pub zeros : List ℕ
zeros = 0 ∷ 0 ∷ 0 ∷ 0 ∷ 0 ∷ 0 ∷ 0 ∷ 0 ∷ []

abbrev pub answer_numbers : Numbered Record → List ℕ
answer_numbers (order r) = record_numbers r
answer_numbers no_order = zeros

-- ---- walks

abbrev pub walk_of : ℕ → ℕ → ℕ → ℕ → Walk
walk_of bytes pixels insert later =
    record { pos = bytes; pixels = pixels; insert = not (eqb insert 0); first_row = eqb later 0 }

-- the place in the stream, the pixels, whether an insert is pending, whether the first row has ended, and four zeros
abbrev pub walk_numbers : Walk → List ℕ
walk_numbers w = w.pos ∷ w.pixels ∷ pick w.insert 1 0 ∷ pick (not w.first_row) 1 0 ∷ 0 ∷ 0 ∷ 0 ∷ 0 ∷ []

-- the walk behind the order that was found; none leaves it as it was
abbrev pub walk_after : Option Found → List ℕ → List ℕ
walk_after (Some x) before = walk_numbers x.walk
walk_after None before = before

abbrev pub found_numbers : Option Found → List ℕ
found_numbers (Some x) = record_numbers (record_in x.order)
found_numbers None = zeros

-- the next order from a walk on: its record in numbers, and the walk behind it
pub record MovesOn (src : List ℕ) (bpp w h : ℕ) (before after report : List ℕ) : Type 0 where
  pub found : Option Found
  pub finds : FindsOrder src bpp w h (walk_of (get_or before 0 0) (get_or before 1 0) (get_or before 2 0) (get_or before 3 0)) 0 found
  pub walk : after ≡ walk_after found before
  pub numbers : report ≡ found_numbers found
