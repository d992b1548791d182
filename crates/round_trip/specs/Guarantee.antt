-- What the contracts of `compress` and `decompress` amount to together, over all pictures, depths, sizes and targets.
use Rattle.std.specs.Prelude.{◌≡◌, List, ℕ, ◌*◌, ◌≤◌, length, take, drop, Result}
use Rattle.picture.specs.Outcomes.{refusal_in as reportRefusal, format_in}
use Rattle.picture.specs.Sizes.{refusal, depth_of, Checked, refused, accepted, checked, with_space}
use Rattle.rle.specs.declared.report.Report.{Report}
use Rattle.rle.specs.Guarantees.{HasSpace}
use Rattle.encoding.specs.Bound.{bound}
use Rattle.encode.specs.declared.error.CompressError.{CompressError}
use Rattle.encode.specs.Promises.{refusal_in}

abbrev pub is_accepted : Checked → Type 0
is_accepted (refused r) = ⊥
is_accepted (accepted f k) = Unit {0}

-- refusals 1 to 4 do not come: the depth and sizes are good, and the buffer has the picture
abbrev pub HasPicture : List ℕ → ℕ → ℕ → ℕ → Type 0
HasPicture src bpp w h = is_accepted (with_space (length src) (checked bpp w h))

-- bytes of the whole picture
abbrev pub size : ℕ → ℕ → ℕ → ℕ
size bpp w h = w * h * (depth_of bpp).bytes

-- the picture came back into a target that held `before`: Ok, all pixels, each byte the same, and the target keeps its own past them
pub record ComesBack (src : List ℕ) (bpp w h : ℕ) (before after : List ℕ) (r : Report) : Type 0 where
  pub refusal : reportRefusal r.outcome ≡ refusal 0 0 0
  pub format : format_in r.outcome ≡ (depth_of bpp).format
  pub pixels : r.pixels ≡ w * h
  pub bytes : take (size bpp w h) after ≡ take (size bpp w h) src
  pub kept : drop (size bpp w h) after ≡ drop (size bpp w h) before

pub record RoundTrip (src : List ℕ) (bpp w h : ℕ) (output before after : List ℕ) (answer : Result ℕ CompressError) (report : Report) : Type 0 where
  -- with the bound's bytes for the stream, encoding is not refused
  pub written : HasPicture src bpp w h → bound bpp w h ≤ length output → refusal_in answer ≡ refusal 0 0 0
  -- where it is not refused, the picture comes back into every target with space
  pub back : refusal_in answer ≡ refusal 0 0 0 → HasSpace before bpp w h → ComesBack src bpp w h before after report
