-- An order's header and run length in bytes, in the shortest form that its kind has (MS-RDPBCGR 2.2.9.1.1.3.1.2.4), by the rows of
-- kinds that streams are read by.
use Rattle.std.specs.Prelude.{List, [], ◌∷◌, false, ℕ, ◌+◌, ◌-◌, ◌*◌, ◌/◌, ◌%◌, ltb, leb, eqb}
use Rattle.base.specs.Picks.{pick}
use Rattle.definition.specs.Orders.{Lengths, written, fixed, Row, Place, nowhere, in_header, in_byte, in_two_bytes}

-- where the run length n, at least 1, stands in its shortest form: in the header if it can, else in the byte after it, else in two
unfoldable pub shortest_in : ℕ → Lengths → ℕ → Place
shortest_in size (written unit mega header) n =
    pick (pick (eqb (n % unit) 0) (ltb n (size * unit)) false) in_header (pick (leb n (mega + 255)) in_byte in_two_bytes)
shortest_in size (fixed m) n = nowhere

-- header and run length, with the length in a place; `nowhere` is none of a written length's
unfoldable pub written_as : ℕ → Lengths → ℕ → Place → List ℕ
written_as from (written unit mega header) n nowhere = []
written_as from (written unit mega header) n in_header = (from + n / unit) ∷ []
written_as from (written unit mega header) n in_byte = from ∷ (n - mega) ∷ []
written_as from (written unit mega header) n in_two_bytes = header ∷ (n % 256) ∷ (n / 256) ∷ []
written_as from (fixed m) n p = from ∷ []

unfoldable pub head_bytes : Row → ℕ → List ℕ
head_bytes r n = written_as r.from r.lengths n (shortest_in r.size r.lengths n)
