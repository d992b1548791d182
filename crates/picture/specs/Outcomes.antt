-- The numbers and values that the code's outcomes stand for.
use Rattle.std.specs.Prelude.{◌≡◌, ℕ, Option, None, Some, Result, Ok, Err}
use Rattle.picture.specs.declared.outcome.RlePixelFormat.{RlePixelFormat}
use Rattle.picture.specs.declared.outcome.RlePixelFormat.TheVariants.{Rgb24, Rgb16, Rgb15, Rgb8}
use Rattle.picture.specs.declared.outcome.RleError.{RleError}
use Rattle.picture.specs.declared.outcome.RleError.TheVariants.{InvalidBpp, EmptyImage, DimensionsTooLarge, BufferTooShort, BadOrderCode, NotEnoughBytes, InvalidImageSize, UnexpectedZeroLength}
use Rattle.picture.specs.declared.outcome.Numbers.{Numbers}
use Rattle.picture.specs.declared.depth.Depth.{Depth as CodeDepth}
use Rattle.picture.specs.Sizes.{Refusal, refusal, Depth, Size, bytes, refused}

-- the number and the values of each refusal
abbrev pub refusal_of : RleError → Refusal
refusal_of (InvalidBpp bpp) = refusal 1 bpp 0
refusal_of EmptyImage = refusal 2 0 0
refusal_of (DimensionsTooLarge w h) = refusal 3 w h
refusal_of (BufferTooShort needed given) = refusal 4 needed given
refusal_of BadOrderCode = refusal 5 0 0
refusal_of (NotEnoughBytes expected actual) = refusal 6 expected actual
refusal_of (InvalidImageSize maximum required) = refusal 7 maximum required
refusal_of UnexpectedZeroLength = refusal 8 0 0

-- a format's number is its bits per pixel
abbrev pub format_of : RlePixelFormat → ℕ
format_of Rgb8 = 8
format_of Rgb15 = 15
format_of Rgb16 = 16
format_of Rgb24 = 24

abbrev pub Outcome : Type 0
Outcome = Result RlePixelFormat RleError

-- number 0: no refusal
abbrev pub refusal_in : Outcome → Refusal
refusal_in (Ok k) = refusal 0 0 0
refusal_in (Err e) = refusal_of e

-- 0: refused
abbrev pub format_in : Outcome → ℕ
format_in (Ok k) = format_of k
format_in (Err e) = 0

-- both, in the code's numbers
pub record Numbered (o : Outcome) (r : Numbers) : Type 0 where
  pub format : r.format ≡ format_in o
  pub refusal : r.refusal ≡ (refusal_in o).number
  pub first : r.first ≡ (refusal_in o).first
  pub second : r.second ≡ (refusal_in o).second

-- 0: no depth has it
abbrev pub format_number : Option RlePixelFormat → ℕ
format_number None = 0
format_number (Some k) = format_of k

abbrev pub depth_in : CodeDepth → Depth
depth_in d = record { bytes = d.bytes; white = d.white; black = d.black; format = format_number d.format }

abbrev pub size_in : Result ℕ RleError → Size
size_in (Ok n) = bytes n
size_in (Err e) = refused (refusal_of e)
