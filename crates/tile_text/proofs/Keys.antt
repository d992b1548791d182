-- The lines and their keys: which lines have a number, and how much of a key is read. Assumes nothing.
use Rattle.std.proofs.Common.{◌≡◌, ℕ, ◌+◌, List, [], ◌∷◌, ◌++◌, inl, inr, take, Some, None, slice_get, refl}
use Rattle.std.proofs.lemmas.List.{take_all, take_more}
use Rattle.std.proofs.lemmas.Option.{slice_get_cases, slice_get_within, get_or_from_slice_get}
use Rattle.base.proofs.Tests.{apart}
use Rattle.tile_text.specs.Parse.{key_of}
use Rattle.tile_text.specs.declared.parser.Line.{Line}
use Rattle.tile_text.specs.declared.parser.Line.TheVariants.{Width, Height, Bpp, Stream, Whole, Bad}

-- the line is one of a number
abbrev pub HasNumber : Line → Type 0
HasNumber Width = Unit {0}
HasNumber Height = Unit {0}
HasNumber Bpp = Unit {0}
HasNumber _ = ⊥

-- the text goes on with the line
abbrev pub IsOpen : Line → Type 0
IsOpen Stream = Unit {0}
IsOpen l = HasNumber l

pub by_open : {A : Type 0} (l : Line) → IsOpen l → (HasNumber l → A) → (l ≡ Stream → A) → A
by_open Width o f g = f tt
by_open Height o f g = f tt
by_open Bpp o f g = f tt
by_open Stream o f g = g refl
by_open Whole o f g = absurd o
by_open Bad o f g = absurd o

-- ---- a key and its end

read_all : (xs : List ℕ) (i : ℕ) → slice_get xs i ≡ None → take i xs ≡ xs
read_all xs i e = elim (slice_get_cases xs i).1 [ inl w ↦ apart cc | inr h ↦ take_all i xs h.0 ]

read_more : (xs : List ℕ) (i k : ℕ) → slice_get xs i ≡ Some k → take (i + 1) xs ≡ take i xs ++ (k ∷ [])
read_more xs i k e = rw (get_or_from_slice_get xs i k 0 e) at (take_more xs i 0 (slice_get_within xs i k e))

-- where a key is over, all of it is read
pub key_over : (l : Line) (i : ℕ) → slice_get (key_of l) i ≡ None → take i (key_of l) ≡ key_of l
key_over l i e = read_all (key_of l) i e

-- one byte of a key more
pub key_more : (l : Line) (i k : ℕ) → slice_get (key_of l) i ≡ Some k → take (i + 1) (key_of l) ≡ take i (key_of l) ++ (k ∷ [])
key_more l i k e = read_more (key_of l) i k e
