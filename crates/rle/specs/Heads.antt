-- What the readers of an order's start promise: its kind, its run length and where that stands are the definition's.
use Rattle.std.specs.Prelude.{◌≡◌, List, Option, Some, None, Result, Ok, Err, ℕ, ◌≤◌, ◌<◌, length, get_or, drop}
use Rattle.picture.specs.Outcomes.{refusal_of}
use Rattle.definition.specs.Orders.{Place, row_of, place_of, RunLength, run_length, Head, head, head_of}
use Rattle.rle.specs.declared.head.RunLength.{RunLength as CodeLength}
use Rattle.rle.specs.declared.head.NoLength.{NoLength}
use Rattle.rle.specs.declared.head.OrderHead.{OrderHead}
use Rattle.rle.specs.declared.kind.Kind.{Kind as CodeKind}
use Rattle.rle.specs.declared.kind.Kind.TheVariants.{BgRun, FgRun, FgBgImage, ColorRun, ColorImage, SetFgRun, SetFgBgImage, DitheredRun, SpecialFgBg1, SpecialFgBg2, White, Black, NoOrder}
use Rattle.rle.specs.declared.record.Place.{Place as CodePlace}
use Rattle.rle.specs.declared.record.Place.TheVariants.{Nowhere, InHeader}
use Rattle.rle.specs.Kinds.{kind_in, fixed_length}
use Rattle.rle.specs.Records.{place_in}

-- ---- run lengths

-- the definition's run length that the code's stands for
abbrev pub length_in : List ℕ → Result CodeLength NoLength → RunLength
length_in src (Ok l) = run_length l.pixels (drop l.next src)
length_in src (Err r) = RunLength.refused (refusal_of r.error) (drop r.next src)

abbrev pub length_fits : List ℕ → ℕ → Result CodeLength NoLength → Type 0
length_fits src pos (Ok l) = (1 ≤ l.pixels) × (l.pixels ≤ 65536) × (pos ≤ l.next) × (l.next ≤ length src)
length_fits src pos (Err r) = (pos ≤ r.next) × (r.next ≤ length src)

abbrev pub stands_at : Place → Result CodeLength NoLength → Type 0
stands_at place (Ok l) = place_in l.place ≡ place
stands_at place (Err r) = Unit {0}

-- the place of a length that the header has
abbrev pub own_place : CodeKind → CodePlace
own_place BgRun = InHeader
own_place FgRun = InHeader
own_place FgBgImage = InHeader
own_place ColorRun = InHeader
own_place ColorImage = InHeader
own_place SetFgRun = InHeader
own_place SetFgBgImage = InHeader
own_place DitheredRun = InHeader
own_place SpecialFgBg1 = Nowhere
own_place SpecialFgBg2 = Nowhere
own_place White = Nowhere
own_place Black = Nowhere
own_place NoOrder = Nowhere

-- what a kind adds to a length in the byte after the header
abbrev pub mega_in : CodeKind → ℕ
mega_in BgRun = 32
mega_in FgRun = 32
mega_in FgBgImage = 1
mega_in ColorRun = 32
mega_in ColorImage = 32
mega_in SetFgRun = 16
mega_in SetFgBgImage = 1
mega_in DitheredRun = 16
mega_in SpecialFgBg1 = 16
mega_in SpecialFgBg2 = 16
mega_in White = 16
mega_in Black = 16
mega_in NoOrder = 16

-- what reading a run length from place `pos` on gives, if it stands at this place
pub record ReadsLength (src : List ℕ) (pos : ℕ) (place : Place) (r : Result CodeLength NoLength) (expected : RunLength) : Type 0 where
  pub is : length_in src r ≡ expected
  pub stands : stands_at place r
  pub fits : length_fits src pos r

-- ---- heads

-- an order's head stands from place `pos` on
pub record HeadAt (src : List ℕ) (pos : ℕ) (o : OrderHead) : Type 0 where
  pub is : head_of (drop pos src) ≡ head (kind_in o.kind) o.run_length.pixels (drop o.next src)
  pub header : o.header ≡ get_or src pos 0
  pub stands : place_in o.place ≡ place_of (row_of o.header) o.header
  pub reads : pos < o.next
  pub place : o.next ≤ length src
  pub fixed : fixed_length o.kind o.run_length.pixels

-- a run length is refused behind place `pos`
pub record RefusedAt (src : List ℕ) (pos : ℕ) (r : NoLength) : Type 0 where
  pub is : head_of (drop pos src) ≡ Head.refused (refusal_of r.error) (drop r.next src)
  pub reads : pos < r.next
  pub place : r.next ≤ length src

-- what reading a head from place `pos` on gives
abbrev pub ReadsHead : List ℕ → ℕ → Result (Option OrderHead) NoLength → Type 0
ReadsHead src pos (Ok None) = length src ≤ pos
ReadsHead src pos (Ok (Some o)) = HeadAt src pos o
ReadsHead src pos (Err r) = RefusedAt src pos r
