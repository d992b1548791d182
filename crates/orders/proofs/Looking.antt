-- Laws of an order by its number: what a walk from the stream's start finds, and how many orders a report counts. Assumes nothing.
use mathlib.Core.Path.{◌≡◌, refl, ap, sym, ◌∙◌}
use mathlib.Core.List.{List}
use Prim.Native.Nat.{ℕ}
use lib.ListN.{length}
use Rattle.picture.specs.Sizes.{Frame, Checked, refused, accepted, checked}
use Rattle.definition.specs.Decode.{start, Summary}
use Rattle.definition.specs.Records.{Order, orders_from, Record, record_of, records_in, records, Numbered, order, no_order, numbered_by, nth}
use Rattle.definition.proofs.Records.{records-counted, no_order_exactly, nth_map}
use Rattle.rle.specs.declared.report.Report.{Report}
use Rattle.std.specs.Prelude.{Option, Some, None}
use Rattle.rle.specs.declared.record.OrderRecord.{OrderRecord}
use Rattle.rle.specs.declared.walk.Found.{Found}
use Rattle.rle.specs.Records.{record_in}
use Rattle.rle.specs.Report.{Decompresses}
use Rattle.rle.specs.Guarantees.{HasSpace}
use Rattle.rle.specs.Walks.{Finds, FindsIn, FindsOrder, start_walk}
use Rattle.rle.proofs.Finding.{start-stands}
use Rattle.rle.proofs.Theorems.{with_space_lem}
use Rattle.orders.specs.Promises.{recorded_in, CountsOrders}

-- ---- from the stream's start

abbrev pub recorded_by : Option Found → Numbered Record
recorded_by (Some x) = order (record_in x.order)
recorded_by None = no_order

finds-told : (f : Frame) (src : List ℕ) (x : Option Found) (y : Numbered Order) → Finds f src x y → recorded_by x ≡ numbered_by (record_of f) y
unfolding numbered_by
finds-told f src (Some x) (order o) h = ap order h.0
finds-told f src (Some x) no_order h = absurd h
finds-told f src None (order o) h = absurd h
finds-told f src None no_order h = refl

pub recorded-told : (src : List ℕ) (bpp w h n : ℕ) (x : Option Found) → FindsOrder src bpp w h start_walk n x → recorded_by x ≡ nth (records src bpp w h) n
unfolding records records_in start nth
recorded-told src bpp w h n x = go (checked bpp w h)
  where
    go : (c : Checked) → FindsIn src c start_walk n x → recorded_by x ≡ nth (records_in src c) n
    go (refused r) e = rw e
    go (accepted f k) finds =
        let os = orders_from f (length src) (start f src) in
        finds-told f src x (nth os n) (finds (start f src) (start-stands f src)) ∙ sym (nth_map (record_of f) os n)

-- ---- beside decoding

pub counts-orders : (src : List ℕ) (bpp w h n : ℕ) (before after : List ℕ) (r : Report) (x : Option OrderRecord) → Decompresses src bpp w h before after r
    → HasSpace before bpp w h → recorded_in x ≡ nth (records src bpp w h) n → CountsOrders src bpp w h n r x
counts-orders src bpp w h n before after r x decoded space told =
    let o = ap (λ (s : Summary). s.orders) (with_space_lem src bpp w h before after r decoded space).report in
    let e = no_order_exactly src bpp w h n in
    record {
      count = records-counted src bpp w h ∙ sym o;
      none = λ is. rw o (e.0 (sym told ∙ is));
      past = λ few. told ∙ e.1 (rw (← o) few);
    }
