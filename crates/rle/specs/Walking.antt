-- What the walk's functions promise each other: the record of an order, and where and how a walk stops.
use Rattle.std.specs.Prelude.{◌≡◌, List, Option, Some, None, Result, Ok, Err, false, ℕ, suc, ◌+◌, ◌≤◌, ltb, length}
use Rattle.base.specs.Picks.{pick}
use Rattle.picture.specs.Sizes.{Frame}
use Rattle.definition.specs.Decode.{State, run}
use Rattle.definition.specs.Plan.{leaves_insert}
use Rattle.definition.specs.Records.{Order, orders_from, record_of, Numbered, no_order, nth}
use Rattle.rle.specs.declared.head.OrderHead.{OrderHead}
use Rattle.rle.specs.declared.record.OrderRecord.{OrderRecord}
use Rattle.rle.specs.declared.walk.Walk.{Walk}
use Rattle.rle.specs.declared.walk.Found.{Found}
use Rattle.rle.specs.declared.walk.Walked.{Walked}
use Rattle.picture.specs.declared.outcome.RleError.{RleError}
use Rattle.rle.specs.Kinds.{kind_in}
use Rattle.rle.specs.Orders.{run_in}
use Rattle.rle.specs.Planning.{CodeEnding}
use Rattle.rle.specs.Records.{record_in}
use Rattle.rle.specs.Walks.{StandsFor}

-- the first row ends at an order's start with a row painted, and a pending insert is dropped
abbrev pub row_ended : ℕ → Walk → Walk
row_ended width w =
    record {
      pos = w.pos;
      pixels = w.pixels;
      insert = pick w.first_row (pick (ltb w.pixels width) w.insert false) w.insert;
      first_row = pick w.first_row (ltb w.pixels width) false;
    }

-- the record of an order with this head, which begins where the walk stands, by the pixels that it paints
abbrev pub record_at : OrderHead → Walk → ℕ → OrderRecord
record_at o begun pixels =
    record {
      header = o.header;
      place = o.place;
      kind = o.kind;
      run_length = o.run_length.pixels;
      pixels = pixels;
      first_row = begun.first_row;
      inserted = pick (leaves_insert (kind_in o.kind)) begun.insert false;
    }

-- how a walk stops: behind the order that was looked for, at the stream's end, or at a refusal
abbrev pub Stop : Type 0
Stop = Result (Option OrderRecord) RleError

abbrev pub stopped_at : Stop → Walk → ℕ → Walked
stopped_at stop walk orders = record { stop = stop; walk = walk; orders = orders }

abbrev pub found_by : Stop → Walk → Option Found
found_by (Ok None) w = None
found_by (Err e) w = None
found_by (Ok (Some x)) w = Some (record { order = x; walk = w })

abbrev pub ending_by : Stop → CodeEnding
ending_by (Ok x) = Ok tt
ending_by (Err e) = Err e

-- order number n from the state `first` on has the record x, and the walk w stands for the state after it
pub record ReachesOrder (f : Frame) (src : List ℕ) (first : State) (n : ℕ) (x : OrderRecord) (w : Walk) (orders : ℕ) : Type 0 where
  pub order : Order
  pub is : nth (orders_from f (length first.left) first) n ≡ Numbered.order order
  pub told : record_in x ≡ record_of f order
  pub stands : StandsFor src w order.after
  pub counted : orders ≡ suc n

-- no order of number n is completed from the state `first` on: the orders end so, with these counts
pub record RunsOut (f : Frame) (first : State) (n : ℕ) (e : CodeEnding) (pixels orders : ℕ) : Type 0 where
  pub none : nth (orders_from f (length first.left) first) n ≡ no_order
  pub state : State
  pub is : run_in e state ≡ run f (length first.left) first
  pub painted : pixels ≡ length state.painted
  pub counted : first.orders + orders ≡ state.orders

abbrev pub stops_at : Stop → Frame → List ℕ → State → ℕ → Walk → ℕ → Type 0
stops_at (Ok None) f src first n w orders = RunsOut f first n (Ok tt) w.pixels orders
stops_at (Err e) f src first n w orders = RunsOut f first n (Err e) w.pixels orders
stops_at (Ok (Some x)) f src first n w orders = ReachesOrder f src first n x w orders

-- the orders are walked from each state on that the walk stands for
pub record WalksOrders (f : Frame) (src : List ℕ) (from : Walk) (n : ℕ) (r : Walked) : Type 0 where
  pub within : r.orders ≤ f.total
  pub stops : (first : State) → StandsFor src from first → stops_at r.stop f src first n r.walk r.orders
