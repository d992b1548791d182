-- What the contract of `decompress` amounts to, over all streams, depths, sizes and targets. The theorems are in
-- proofs/Theorems.antt; the crate two_targets has the second of them as the contract of two calls, and two_decoders the third.
use Rattle.std.specs.Prelude.{◌≡◌, List, Ok, Err, Bool, true, false, ℕ, ◌*◌, ◌≤◌, length, take, drop}
use Rattle.rle.specs.declared.report.Report.{Report}
use Rattle.picture.specs.Outcomes.{Outcome}
use Rattle.picture.specs.Pixels.{bytes_of}
use Rattle.picture.specs.Sizes.{Checked, refused, accepted, checked}
use Rattle.definition.specs.Decode.{result, summary_of}
use Rattle.rle.specs.Report.{summary_in, Decompresses}

-- a target of `given` bytes has space for the picture; where refusal 1, 2 or 3 comes, every target has
abbrev pub space_for : ℕ → Checked → Type 0
space_for given (refused r) = Unit {0}
space_for given (accepted f k) = f.total * f.bytes ≤ given

abbrev pub HasSpace : List ℕ → ℕ → ℕ → ℕ → Type 0
HasSpace target bpp w h = space_for (length target) (checked bpp w h)

-- one call: report and painted bytes are those of the definition, which sees no target, and the target keeps its own bytes past them
pub record Defined (src : List ℕ) (bpp w h : ℕ) (before after : List ℕ) (r : Report) : Type 0 where
  pub report : summary_in r ≡ summary_of (result src bpp w h)
  pub painted : take (r.pixels * (result src bpp w h).bytes) after ≡ bytes_of (result src bpp w h).bytes (result src bpp w h).painted
  pub kept : drop (r.pixels * (result src bpp w h).bytes) after ≡ drop (r.pixels * (result src bpp w h).bytes) before
  pub within : r.pixels ≤ w * h
  pub counted : r.orders ≤ r.pixels
  pub bounded : r.pixels ≤ 26214 * length src

-- two calls with one stream, depth and size into any two targets with space: no old byte shows
pub record NoOldByte (src : List ℕ) (bpp w h : ℕ) (before₁ after₁ : List ℕ) (r₁ : Report) (before₂ after₂ : List ℕ) (r₂ : Report) : Type 0 where
  pub report : summary_in r₁ ≡ summary_in r₂
  pub painted : take (r₁.pixels * (result src bpp w h).bytes) after₁ ≡ take (r₂.pixels * (result src bpp w h).bytes) after₂
  pub first : Defined src bpp w h before₁ after₁ r₁
  pub second : Defined src bpp w h before₂ after₂ r₂

-- two calls with one stream, depth and size, of one decoder or of two with this contract: targets that held the same bytes hold the
-- same then, and the reports say the same
pub record SameDecoding (src : List ℕ) (bpp w h : ℕ) (before₁ after₁ : List ℕ) (r₁ : Report) (before₂ after₂ : List ℕ) (r₂ : Report) : Type 0 where
  pub first : Decompresses src bpp w h before₁ after₁ r₁
  pub second : Decompresses src bpp w h before₂ after₂ r₂
  pub report : before₁ ≡ before₂ → summary_in r₁ ≡ summary_in r₂
  pub target : before₁ ≡ before₂ → after₁ ≡ after₂

abbrev pub is_ok : Outcome → Bool
is_ok (Ok k) = true
is_ok (Err e) = false
