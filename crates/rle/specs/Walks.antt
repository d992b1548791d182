-- What a walk over a stream's orders promises: the orders of the definition, from each state on that the walk stands for.
use Rattle.std.specs.Prelude.{◌≡◌, List, Option, Some, None, true, false, ℕ, length, drop}
use Rattle.picture.specs.Sizes.{Frame, Checked, refused, accepted, checked}
use Rattle.definition.specs.Decode.{State}
use Rattle.definition.specs.Records.{Order, orders_from, record_of, Numbered, order, no_order, nth}
use Rattle.rle.specs.declared.walk.Walk.{Walk}
use Rattle.rle.specs.declared.walk.Found.{Found}
use Rattle.rle.specs.Records.{record_in}

-- the walk at a stream's start
abbrev pub start_walk : Walk
start_walk = record { pos = 0; pixels = 0; insert = false; first_row = true }

-- the walk stands for a state of the definition, whatever its pixels, its foreground and its count of orders are
pub record StandsFor (src : List ℕ) (w : Walk) (s : State) : Type 0 where
  pub left : s.left ≡ drop w.pos src
  pub pixels : length s.painted ≡ w.pixels
  pub insert : s.insert ≡ w.insert
  pub mark : s.first_row ≡ w.first_row

-- what was found is the order o, if there is one: its record, and a walk that stands for the state after it
abbrev pub Finds : Frame → List ℕ → Option Found → Numbered Order → Type 0
Finds f src (Some x) (order o) = (record_in x.order ≡ record_of f o) × StandsFor src x.walk o.after
Finds f src (Some x) no_order = ⊥
Finds f src None (order o) = ⊥
Finds f src None no_order = Unit {0}

abbrev pub FindsIn : List ℕ → Checked → Walk → ℕ → Option Found → Type 0
FindsIn src (refused r) w n x = x ≡ None
FindsIn src (accepted f k) w n x = (s : State) → StandsFor src w s → Finds f src x (nth (orders_from f (length s.left) s) n)

-- order number n of those that the stream completes from each state on that the walk stands for; none where depth or sizes are refused
abbrev pub FindsOrder : List ℕ → ℕ → ℕ → ℕ → Walk → ℕ → Option Found → Type 0
FindsOrder src bpp w h from n x = FindsIn src (checked bpp w h) from n x
