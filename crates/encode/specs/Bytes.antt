-- How far two lists of bytes are the same.
use Rattle.std.specs.Prelude.{List, Bool, ℕ, ◌==◌, bit_or, bit_xor, length, eqb, get_or, fold, take_while}
use Rattle.std.specs.List.{zip, list_all}

-- the differences of all bytes, gathered
abbrev pub difference : List ℕ → List ℕ → ℕ
difference a b = fold (λ all (p : ℕ × ℕ). bit_or all (bit_xor p.0 p.1)) 0 (zip a b)

abbrev pub same_bytes : List ℕ → List ℕ → Bool
same_bytes a b = list_all (λ (p : ℕ × ℕ). p.0 == p.1) (zip a b)

-- how many bytes are the same at the start
abbrev pub same_start : List ℕ → List ℕ → ℕ
same_start a b = length (take_while (λ (p : ℕ × ℕ). p.0 == p.1) (zip a b))

-- whether the byte at a place is the same in both
abbrev pub same_at : List ℕ → List ℕ → ℕ → Bool
same_at a b i = eqb (get_or a i 0) (get_or b i 0)
