-- The numbers that the encoder's C function answers in.
use Rattle.std.specs.Prelude.{List, [], ◌∷◌, ℕ}
use Rattle.picture.specs.Sizes.{Refusal}

-- zero, the refusal's number (0: none) and two values, the stream's length, and three zeros
unfoldable pub numbers_of : Refusal → ℕ → List ℕ
numbers_of r n = 0 ∷ r.number ∷ r.first ∷ r.second ∷ n ∷ 0 ∷ 0 ∷ 0 ∷ []
