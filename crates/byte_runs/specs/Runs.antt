-- Bytes written one after the other from a place on.
use Rattle.std.specs.Prelude.{Bool, true, false, Option, None, Some, List, ◌++◌, ℕ, zero, suc, ◌+◌, ◌-◌, ◌*◌, ◌/◌, ◌%◌, ◌^◌, ◌≤◌, ◌≡◌, leb, length, get_or, set, take}
use Rattle.std.specs.Int.Bits.{bit_xor}
use Rattle.base.specs.Picks.{pick}

-- n bytes from `at` on, the k-th of them v l k, where l is the list as it then is
unfoldable pub run : (List ℕ → ℕ → ℕ) → ℕ → ℕ → List ℕ → List ℕ
run v at zero l = l
run v at (suc n) l = set (run v at n l) (at + n) (v (run v at n l) n)

-- ---- what is written only where it has a place

-- n bytes from `at` on are there
abbrev pub there : ℕ → ℕ → List ℕ → Bool
there at n l = leb (at + n) (length l)

-- both tests hold
abbrev pub both : Bool → Bool → Bool
both s t = pick s t false

-- a pixel has one, two or three bytes
abbrev pub is_depth : ℕ → Bool
is_depth d = both (leb 1 d) (leb d 3)

-- the same as bounds
abbrev pub Depth : ℕ → Type 0
Depth d = (1 ≤ d) × (d ≤ 3)

-- and eight pixels have n bytes
abbrev pub Eight : ℕ → ℕ → Type 0
Eight d n = (1 ≤ d) × (d ≤ 3) × (n ≡ 8 * d)

-- n pixels of d bytes from `at` on are there
abbrev pub pixels_there : ℕ → ℕ → ℕ → List ℕ → Bool
pixels_there d at n l = both (is_depth d) (there at (n * d) l)

-- the bytes so many places before `at` are there, or it is the first row, which looks at none
abbrev pub row_there : Option ℕ → ℕ → Bool
row_there None at = true
row_there (Some row) at = leb row at

-- they are so many that n bytes can be read whole before as many are written
abbrev pub row_holds : Option ℕ → ℕ → Bool
row_holds None n = true
row_holds (Some row) n = leb n row

-- where the test holds the run, else nothing
abbrev pub run_where : Bool → (List ℕ → ℕ → ℕ) → ℕ → ℕ → List ℕ → List ℕ
run_where test v at n l = pick test (run v at n l) l

-- ---- the bytes of a run

-- the byte `row` places back
abbrev pub above : ℕ → ℕ → List ℕ → ℕ → ℕ
above at row l k = get_or l (at + k - row) 0

-- the bytes of s from `from` on
abbrev pub taken : List ℕ → ℕ → List ℕ → ℕ → ℕ
taken s from l k = get_or s (from + k) 0

-- the first d bytes of p over and over
abbrev pub turn : List ℕ → ℕ → ℕ → ℕ
turn p d k = get_or p (k % d) 0

-- a pixel p of d bytes and then a pixel q
abbrev pub pair_of : ℕ → List ℕ → List ℕ → List ℕ
pair_of d p q = take d p ++ take d q

-- the bytes of t
abbrev pub each : List ℕ → ℕ → ℕ
each t k = get_or t k 0

abbrev pub listed : List ℕ → List ℕ → ℕ → ℕ
listed t l k = each t k

-- the byte `row` places back, exclusive-or w k
abbrev pub xored : ℕ → ℕ → (ℕ → ℕ) → List ℕ → ℕ → ℕ
xored at row w l k = bit_xor (get_or l (at + k - row) 0) (w k)

-- the bytes of s from `from` on, exclusive-or w k
abbrev pub mixed : List ℕ → ℕ → (ℕ → ℕ) → List ℕ → ℕ → ℕ
mixed s from w l k = bit_xor (get_or s (from + k) 0) (w k)

-- bytes that do not depend on the list
abbrev pub bytes : (ℕ → ℕ) → List ℕ → ℕ → ℕ
bytes w l k = w k

-- in the first row w k, later the byte so many places back, exclusive-or w k
abbrev pub row_bytes : Option ℕ → ℕ → (ℕ → ℕ) → List ℕ → ℕ → ℕ
row_bytes None at w = bytes w
row_bytes (Some row) at w = xored at row w

-- the byte so many places back, in the first row none: zero
abbrev pub byte_back : Option ℕ → ℕ → List ℕ → ℕ
byte_back None at l = 0
byte_back (Some row) at l = get_or l (at - row) 0

-- a where bit k of m is set, else 0
abbrev pub inked : ℕ → ℕ → ℕ → ℕ
inked m a k = m / 2 ^ k % 2 * a

-- the same for the bytes of pixels of d bytes: p are the colors' bytes, eight pixels of them
abbrev pub inked_by : ℕ → ℕ → List ℕ → ℕ → ℕ
inked_by m d p k = inked m (get_or p k 0) (k / d)

-- the same for the masks of s from `pos` on, eight pixels each: px is the color's bytes
abbrev pub masked_by : List ℕ → ℕ → ℕ → List ℕ → ℕ → ℕ
masked_by s pos d px k = inked (get_or s (pos + k / (8 * d)) 0) (turn px d k) (k / d % 8)

-- the same for the one mask m
abbrev pub mask_by : ℕ → ℕ → List ℕ → ℕ → ℕ
mask_by m d px k = inked m (turn px d k) (k / d % 8)

-- the p bytes of s from `at` on, over and over
abbrev pub repeated : List ℕ → ℕ → ℕ → ℕ → ℕ
repeated s at p k = get_or s (at + k % p) 0
