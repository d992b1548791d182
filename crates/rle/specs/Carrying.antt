-- What an order's functions promise: that they carry it out.
use Rattle.std.specs.Prelude.{List, ℕ, ◌*◌, ◌≤◌, length}
use Rattle.definition.specs.Orders.{Kind}
use Rattle.definition.specs.Decode.{order_of}
use Rattle.rle.specs.declared.order.Order.{Order}
use Rattle.rle.specs.declared.state.Stepped.{Stepped}
use Rattle.rle.specs.States.{frame_of}
use Rattle.rle.specs.Orders.{Executes}

-- the picture has its place in xs
abbrev pub HasPicture : Order → List ℕ → Type 0
HasPicture o xs = o.frame.total * o.frame.depth.bytes ≤ length xs

-- the order is carried out as one of this kind
abbrev pub CarriesOut : Order → Kind → List ℕ → List ℕ → Stepped → Type 0
CarriesOut o k before after r =
    Executes (frame_of o.frame) o.src.now before after o.state r (order_of (frame_of o.frame) k o.run_length.pixels)
