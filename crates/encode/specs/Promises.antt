-- What `compress` promises, as equations with the definition.
use Rattle.std.specs.Prelude.{◌≡◌, List, ℕ, length, Result, Ok, Err}
use Rattle.std.specs.Result.{result_unwrap_or}
use Rattle.picture.specs.Sizes.{Refusal, refusal}
use Rattle.picture.specs.Outcomes.{refusal_of as errorRefusal}
use Rattle.picture.specs.declared.outcome.Numbers.{Numbers}
use Rattle.encoding.specs.Compress.{compressed, length_of, refusal_of, output}
use Rattle.encode.specs.declared.error.CompressError.{CompressError}
use Rattle.encode.specs.declared.error.CompressError.TheVariants.{Refused, OutputTooShort}

-- the number and the values of each refusal
abbrev pub refusal_as : CompressError → Refusal
refusal_as (Refused e) = errorRefusal e
refusal_as OutputTooShort = refusal 14 0 0

-- number 0: none
abbrev pub refusal_in : Result ℕ CompressError → Refusal
refusal_in (Ok n) = refusal 0 0 0
refusal_in (Err e) = refusal_as e

-- 0 where refused
abbrev pub length_in : Result ℕ CompressError → ℕ
length_in r = result_unwrap_or r 0

-- a refusal, in the code's numbers
pub record Numbered (e : CompressError) (r : Numbers) : Type 0 where
  pub format : r.format ≡ 0
  pub refusal : r.refusal ≡ (refusal_as e).number
  pub first : r.first ≡ (refusal_as e).first
  pub second : r.second ≡ (refusal_as e).second

-- one call, with the pixel buffer src, into an output that held `before` and then holds `after`
pub record Compresses (src : List ℕ) (bpp w h : ℕ) (before after : List ℕ) (r : Result ℕ CompressError) : Type 0 where
  pub refusal : refusal_in r ≡ refusal_of (compressed (length before) src bpp w h)
  pub size : length_in r ≡ length_of (compressed (length before) src bpp w h)
  pub output : after ≡ output (compressed (length before) src bpp w h) before
