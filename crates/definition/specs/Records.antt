-- The orders that a stream completes, and what each of them was. All of it is read off the states before and after an order: decoding
-- itself (Decode.antt) keeps no list of them.
use Rattle.std.specs.Prelude.{List, [], ◌∷◌, map, Bool, false, ℕ, zero, suc, ◌-◌, length, get_or}
use Rattle.base.specs.Picks.{pick}
use Rattle.picture.specs.Sizes.{Frame, Checked, accepted, checked}
use Rattle.definition.specs.Orders.{Kind, Place, row_of, place_of, Head, head, head_of}
use Rattle.definition.specs.Decode.{State, start, end_first_row, Step, done, refused, step}

-- ---- completed orders

-- the states before and after one
pub record Order : Type 0 where
  pub before : State
  pub after : State

-- none at the stream's end
unfoldable pub unless_end : List ℕ → List Order → List Order
unless_end [] os = []
unless_end (x ∷ xs) os = os

-- an order from the state s, and those after it; none where it is refused
unfoldable pub then_orders : State → (State → List Order) → Step → List Order
then_orders s go (done t) = record { before = s; after = t } ∷ go t
then_orders s go (refused r t) = []

-- those that at most n orders from the state s on complete
unfoldable pub orders_from : Frame → ℕ → State → List Order
orders_from f zero s = []
orders_from f (suc n) s = unless_end s.left (then_orders s (orders_from f n) (step f s))

-- ---- what an order was

pub record Record : Type 0 where
  pub header : ℕ
  -- where its run length stands
  pub place : Place
  pub kind : Kind
  pub run_length : ℕ
  -- how many pixels it painted
  pub pixels : ℕ
  -- whether it began in the first row
  pub first_row : Bool
  -- whether its first pixel is an inserted foreground pixel
  pub inserted : Bool

unfoldable pub run_length_in : Head → ℕ
run_length_in (head k n rest) = n
run_length_in (Head.refused r rest) = 0

-- an order with header h, whose head x is read in the state s and which leaves the state t; it is a background run exactly if it
-- leaves an insert pending
unfoldable pub record_by : ℕ → Head → State → State → Record
record_by h x s t =
    record {
      header = h;
      place = place_of (row_of h) h;
      kind = (row_of h).kind;
      run_length = run_length_in x;
      pixels = length t.painted - length s.painted;
      first_row = s.first_row;
      inserted = pick t.insert s.insert false;
    }

-- the first row ends, and a pending insert is dropped, before the order begins
unfoldable pub record_of : Frame → Order → Record
record_of f o = let l = o.before.left in record_by (get_or l 0 0) (head_of l) (end_first_row f o.before) o.after

-- ---- the whole stream

unfoldable pub records_in : List ℕ → Checked → List Record
records_in stream (Checked.refused r) = []
records_in stream (accepted f k) = map (record_of f) (orders_from f (length stream) (start f stream))

-- the definition: the completed orders of a stream; none where depth or sizes are refused
unfoldable pub records : List ℕ → ℕ → ℕ → ℕ → List Record
records stream bpp w h = records_in stream (checked bpp w h)

-- ---- one of them, by its number from 0

pub data Numbered (A : Type 0) : Type 0 where
  order : A → Numbered A
  no_order : Numbered A

unfoldable pub numbered_by : {A B : Type 0} → (A → B) → Numbered A → Numbered B
numbered_by g (order x) = order (g x)
numbered_by g no_order = no_order

unfoldable pub nth : {A : Type 0} → List A → ℕ → Numbered A
nth [] n = no_order
nth (x ∷ xs) zero = order x
nth (x ∷ xs) (suc n) = nth xs n
