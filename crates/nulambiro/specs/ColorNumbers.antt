-- The numbers that the exported color functions hand to C, for the answers that the definitions give.
use Rattle.std.specs.Prelude.{List, [], ◌∷◌, Bool, ℕ, get_or, Option, Some, None}
use Rattle.base.specs.Picks.{pick}
use Rattle.picture.specs.Sizes.{Refusal}
use Rattle.color.specs.Colors.{Triple, Expansion}
use Rattle.screen.specs.Rows.{RowPart}

-- refusal (0: none), first, second, blue, green, red
unfoldable pub numbers_of : Refusal → Triple → List ℕ
numbers_of r t = r.number ∷ r.first ∷ r.second ∷ get_or t 0 0 ∷ get_or t 1 0 ∷ get_or t 2 0 ∷ 0 ∷ 0 ∷ []

unfoldable pub expansion_numbers : Expansion → List ℕ
unfolding numbers_of
expansion_numbers e = numbers_of e.refusal e.triple

-- the index, which is below 256; 256: nothing
abbrev pub index_number : Option ℕ → ℕ
index_number (Some i) = i
index_number None = 256

abbrev pub yes_no : Bool → ℕ
yes_no t = pick t 1 0

-- which slice (0 the new picture, 1 the one on screen), start and length
unfoldable pub part_numbers : RowPart → List ℕ
part_numbers p = yes_no p.on_screen ∷ p.start ∷ p.size ∷ 0 ∷ 0 ∷ 0 ∷ 0 ∷ 0 ∷ []
