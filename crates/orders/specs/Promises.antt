-- What is promised of a stream's order by its number, alone and beside decoding.
use Rattle.std.specs.Prelude.{◌≡◌, List, Option, Some, None, ℕ, ◌≤◌, length}
use Rattle.definition.specs.Records.{Record, records, Numbered, order, no_order}
use Rattle.rle.specs.declared.report.Report.{Report}
use Rattle.rle.specs.Records.{record_in}
use Rattle.rle.specs.declared.record.OrderRecord.{OrderRecord}

-- what an answer says
abbrev pub recorded_in : Option OrderRecord → Numbered Record
recorded_in (Some r) = order (record_in r)
recorded_in None = no_order

-- decoding into a target with space, and looking at order n: there are as many orders as the report counts, and there is no order n
-- exactly if it counts at most n
pub record CountsOrders (src : List ℕ) (bpp w h n : ℕ) (report : Report) (x : Option OrderRecord) : Type 0 where
  pub count : length (records src bpp w h) ≡ report.orders
  pub none : recorded_in x ≡ no_order → report.orders ≤ n
  pub past : report.orders ≤ n → recorded_in x ≡ no_order
