-- Reading chunk by chunk is reading the whole: the state after one text and then another. Assumes nothing.
use mathlib.Core.Path.{◌≡◌, refl, ◌∙◌, sym}
use mathlib.Core.List.{List, [], ◌∷◌, ◌++◌}
use Prim.Native.Nat.{ℕ, ◌+◌, ◌<◌}
use native.Mathlib.Numerals.{add-one}
use lib.ListN.{length, get_or, take}
use lib.Seq.{take-suc}
use Rattle.tile_text.specs.Parse.{step, fed}
use Rattle.tile_text.specs.declared.parser.Parser.{Parser}

pub fed-append : (p : Parser) (t u : List ℕ) → fed p (t ++ u) ≡ fed (fed p t) u
unfolding fed
fed-append p [] u = refl
fed-append p (b ∷ t) u = fed-append (step p b) t u

-- ---- one byte more

pub fed_more : (p : Parser) (t : List ℕ) (i : ℕ) → i < length t → fed p (take (i + 1) t) ≡ step (fed p (take i t)) (get_or t i 0)
unfolding fed
fed_more p t i h = rw (add-one, take-suc t i 0) (fed-append p (take i t) (get_or t i 0 ∷ []))

-- ---- many chunks

-- the text of the chunks, and the state after `feed` of each
unfoldable pub joined : List (List ℕ) → List ℕ
joined [] = []
joined (c ∷ cs) = c ++ joined cs

unfoldable pub fed_chunks : Parser → List (List ℕ) → Parser
fed_chunks p [] = p
fed_chunks p (c ∷ cs) = fed_chunks (fed p c) cs

pub chunks_fed : (p : Parser) (cs : List (List ℕ)) → fed_chunks p cs ≡ fed p (joined cs)
unfolding fed joined fed_chunks
chunks_fed p [] = refl
chunks_fed p (c ∷ cs) = chunks_fed (fed p c) cs ∙ sym (fed-append p c (joined cs))
