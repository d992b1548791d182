-- The code's tables: kinds by number, and for each header byte the number of its kind and its own run length. All 256 headers are
-- held against the definition's rows, and their kinds against the mask tests of `Code::decode` in rle.rs (after MS-RDPBCGR
-- 2.2.9.1.1.3.1.2.4), by computation.
use Rattle.std.specs.Prelude.{◌≡◌, refl, Bool, true, false, List, [], ◌∷◌, ℕ, zero, suc, ◌-◌, ◌/◌, ltb, leb, eqb, get_or}
use Rattle.std.specs.Int.Bits.{bit_and}
use Rattle.base.specs.Picks.{pick}
use Rattle.definition.specs.Orders as orders
use Rattle.definition.specs.Orders.{Kind, Row, rows, no_row, has_header, row_of, Place, nowhere, in_header, in_byte, in_two_bytes, place_of, own_length, mega_of}

-- ---- kinds by number

unfoldable pub kind_row : ℕ → Row
kind_row c = get_or rows c no_row

-- the kind of a number, its row's place; all from 12 on are no order
unfoldable pub kind_of : ℕ → Kind
kind_of c = (kind_row c).kind

unfoldable pub number_in : ℕ → List Row → ℕ
number_in h [] = 0
number_in h (r ∷ rs) = pick (has_header h r) 0 (suc (number_in h rs))

-- the number of the header's kind; 12: no order
unfoldable pub kind_number : ℕ → ℕ
kind_number h = number_in h rows

-- ---- run lengths

unfoldable pub own_at : Place → ℕ → ℕ
own_at nowhere n = n
own_at in_header n = n
own_at in_byte n = 0
own_at in_two_bytes n = 0

-- the header's own run length, 0 where it follows
unfoldable pub length_number : ℕ → ℕ
length_number h = own_at (place_of (row_of h) h) (own_length h (row_of h).size (row_of h).lengths)

-- what is added to a length in the byte after the header, by the kind's number
unfoldable pub mega_number : ℕ → ℕ
mega_number c = pick (eqb c 2) 1 (pick (eqb c 6) 1 (pick (ltb c 5) 32 16))

unfoldable pub length_test : Place → ℕ → ℕ → ℕ → Bool
length_test nowhere h n mega = pick (leb 1 n) (leb n 248) false
length_test in_header h n mega = pick (leb 1 n) (leb n 248) false
length_test in_byte h n mega = pick (ltb h 0xF0) (eqb mega (mega_number (kind_number h))) false
length_test in_two_bytes h n mega = leb 0xF0 h

-- a length in the header is 1 to 248; one in the byte after it has a header below F0 and the number's addend, one in two a header
-- from F0 on; and the kinds of numbers 8 and 9 have eight pixels, those from 10 on one
unfoldable pub header_test : ℕ → Bool
header_test h =
    pick (length_test (place_of (row_of h) h) h (own_length h (row_of h).size (row_of h).lengths) (mega_of (row_of h).lengths))
    (pick (ltb 7 (kind_number h)) (eqb (length_number h) (pick (ltb 9 (kind_number h)) 1 8)) true) false

-- ---- the tables

-- f at n numbers from i on
unfoldable pub tabulate : {A : Type 0} → (ℕ → A) → ℕ → ℕ → List A
tabulate f i zero = []
tabulate f i (suc n) = f i ∷ tabulate f (suc i) n

-- the kind of each of the 256 headers
unfoldable pub kinds : List ℕ
kinds = tabulate kind_number 0 256

-- the own run length of each
unfoldable pub lengths : List ℕ
lengths = tabulate length_number 0 256

pub headers_tested : tabulate header_test 0 256 ≡ tabulate (λ _. true) 0 256
unfolding tabulate header_test length_test length_number own_at mega_number kind_number number_in has_header orders.is_mega_mega rows orders.row no_row row_of orders.row_in place_of orders.place_in own_length mega_of
headers_tested = refl

-- ---- places of run lengths

-- by the kind's number and the header's own run length: where the header has one, in the header, or nowhere from number 8 on; else
-- in the byte after it, or in two from F0 on
unfoldable pub place_by : ℕ → ℕ → ℕ → Place
place_by c n h = pick (ltb 0 n) (pick (ltb c 8) in_header nowhere) (pick (ltb h 0xF0) in_byte in_two_bytes)

-- so it is for each of the 256 headers
pub places_told : tabulate (λ h. place_of (row_of h) h) 0 256 ≡ tabulate (λ h. place_by (kind_number h) (length_number h) h) 0 256
unfolding tabulate place_by length_number own_at kind_number number_in has_header orders.is_mega_mega rows orders.row no_row row_of orders.row_in place_of orders.place_in own_length
places_told = refl

-- ---- the mask tests

-- regular orders: three bits; mega and special orders: the whole byte; lite orders: four bits
unfoldable pub code_of : ℕ → ℕ
code_of h = pick (eqb (bit_and h 0xC0) 0xC0) (pick (eqb (bit_and h 0xF0) 0xF0) h (h / 16)) (h / 32)

-- codes 00 to 04 regular, 0C to 0E lite, F0 to FF mega and special
unfoldable pub kind_of_code : ℕ → ℕ
kind_of_code c =
    pick (ltb c 16)
    (get_or (0 ∷ 1 ∷ 2 ∷ 3 ∷ 4 ∷ 12 ∷ 12 ∷ 12 ∷ 12 ∷ 12 ∷ 12 ∷ 12 ∷ 5 ∷ 6 ∷ 7 ∷ 12 ∷ []) c 12)
    (get_or (0 ∷ 1 ∷ 2 ∷ 3 ∷ 4 ∷ 12 ∷ 5 ∷ 6 ∷ 7 ∷ 8 ∷ 9 ∷ 12 ∷ 12 ∷ 10 ∷ 11 ∷ 12 ∷ []) (c - 0xF0) 12)

-- by masks they are the same, all 256 by one computation
pub kinds_by_masks : kinds ≡ tabulate (λ h. kind_of_code (code_of h)) 0 256
unfolding kinds tabulate kind_number number_in has_header orders.is_mega_mega rows orders.row kind_of_code code_of
kinds_by_masks = refl
