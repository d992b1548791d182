-- The numbers of a state by value, and what the C function for some orders makes of them and answers in, of the definition's states.
use Rattle.std.specs.Prelude.{◌≡◌, List, [], ◌∷◌, Bool, true, false, Option, Some, None, ℕ, ◌+◌, ◌*◌, ◌/◌, ◌%◌, suc, ltb, eqb, get_or}
use Rattle.base.specs.Picks.{pick}
use Rattle.picture.specs.Pixels.{Pixel}
use Rattle.definition.specs.Pauses.{Saved, saved}

-- ---- a pixel as one number: low byte + 256 * middle byte + 65536 * high byte

abbrev pub pixel_number : Pixel → ℕ
pixel_number p = get_or p 0 0 + 256 * get_or p 1 0 + 65536 * get_or p 2 0

abbrev pub pixel_of : ℕ → Pixel
pixel_of n = n % 256 ∷ n / 256 % 256 ∷ n / 65536 % 256 ∷ []

-- ---- a state as eight numbers

-- the place in the stream, the pixels, the foreground, whether an insert is pending, whether the first-row mark is on, the orders, and
-- two zeros
abbrev pub state_numbers : Saved → List ℕ
state_numbers s =
    s.place ∷ s.pixels ∷ pixel_number s.foreground ∷ pick s.insert 1 0 ∷ pick s.first_row 1 0 ∷ s.orders ∷ 0 ∷ 0 ∷ []

-- numbers that no state has: a foreground of four bytes, a mark that is neither 0 nor 1, or a number where there are zeros
unfoldable pub no_state : List ℕ → Bool
no_state l =
    pick (ltb 16777215 (get_or l 2 0)) true
    (pick (ltb 1 (get_or l 3 0)) true
    (pick (ltb 1 (get_or l 4 0)) true
    (pick (ltb 0 (get_or l 6 0)) true (ltb 0 (get_or l 7 0)))))

-- past a stream of `size` bytes, so that every picture refuses it
abbrev pub past : ℕ → Saved
past size = saved (suc size) 0 (pixel_of 0) false false 0

-- the state with these numbers; if there is none, one past the stream
unfoldable pub state_of : ℕ → List ℕ → Saved
state_of size l =
    pick (no_state l) (past size)
    (saved (get_or l 0 0) (get_or l 1 0) (pixel_of (get_or l 2 0)) (eqb (get_or l 3 0) 1) (eqb (get_or l 4 0) 1) (get_or l 5 0))

-- numbers from which a call goes on from the state s, whatever the stream
abbrev pub IsBack : Saved → List ℕ → Type 0
IsBack s l = (size : ℕ) → state_of size l ≡ s

-- ---- behind a call

-- where orders are paused, the numbers of the state to go on from; else the numbers stay
abbrev pub numbers_after : Option Saved → List ℕ → List ℕ
numbers_after (Some s) before = state_numbers s
numbers_after None before = before

-- there the numbers give the state back
abbrev pub IsBackWhere : Option Saved → List ℕ → Type 0
IsBackWhere (Some s) l = IsBack s l
IsBackWhere None l = Unit {0}
