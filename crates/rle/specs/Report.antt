-- What the public functions promise, as equations with the definition.
use Rattle.std.specs.Prelude.{◌≡◌, List, ◌++◌, ℕ, ◌*◌, ◌≤◌, length, drop}
use Rattle.picture.specs.Pixels.{bytes_of}
use Rattle.picture.specs.Outcomes.{refusal_in, format_in}
use Rattle.definition.specs.Decode.{Result, result_in, Summary, summary, summary_of}
use Rattle.rle.specs.declared.report.Report.{Report}

-- what a report says
abbrev pub summary_in : Report → Summary
summary_in r = summary (refusal_in r.outcome) (format_in r.outcome) r.pixels r.orders

-- the report is that of the result e, and the target holds the painted bytes and then what it held
pub record Agrees (src before after : List ℕ) (total : ℕ) (r : Report) (e : Result) : Type 0 where
  pub report : summary_in r ≡ summary_of e
  pub target : after ≡ bytes_of e.bytes e.painted ++ drop (length e.painted * e.bytes) before
  -- D bytes for each painted pixel
  pub painted : length (bytes_of e.bytes e.painted) ≡ length e.painted * e.bytes
  pub within : r.pixels ≤ total
  pub counted : r.orders ≤ r.pixels
  pub bounded : r.pixels ≤ 26214 * length src

-- one call, with the stream src, into a target that held `before` and then holds `after`
abbrev pub Decompresses : List ℕ → ℕ → ℕ → ℕ → List ℕ → List ℕ → Report → Type 0
Decompresses src bpp w h before after r = Agrees src before after (w * h) r (result_in (length before) src bpp w h)
