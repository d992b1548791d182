-- Text as bytes.
use Rattle.std.specs.Prelude.{List, [], ◌∷◌, ◌++◌, ℕ}
use Prim.Native.Char.{code}
use Prim.Native.String.{String, [] as end, ◌∷◌ as ◌then◌}

-- the bytes of a text whose characters are all ASCII
unfoldable pub ascii : String → List ℕ
ascii end = []
ascii (c then s) = code c ∷ ascii s

-- a line: its key, its value, a line feed
unfoldable pub line : List ℕ → List ℕ → List ℕ
unfolding ascii
line key value = key ++ value ++ ascii "\n"
