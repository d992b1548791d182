-- The numbers that the decoder's C function answers in, and its target, of the definition's results.
use Rattle.std.specs.Prelude.{List, [], ◌∷◌, ◌++◌, ℕ, ◌*◌, length, drop}
use Rattle.picture.specs.Pixels.{bytes_of}
use Rattle.definition.specs.Decode.{Result, Summary}

-- format, refusal's number and two values, pixels, orders, and two zeros
unfoldable pub numbers : Summary → List ℕ
numbers s =
    s.format ∷ s.refusal.number ∷ s.refusal.first ∷ s.refusal.second ∷ s.pixels ∷ s.orders ∷ 0 ∷ 0 ∷ []

-- the painted bytes, then what the target held
unfoldable pub target : Result → List ℕ → List ℕ
target e before = bytes_of e.bytes e.painted ++ drop (length e.painted * e.bytes) before
