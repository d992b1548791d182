-- A format has a name, and a refusal has none. Assumes nothing.
use Rattle.std.proofs.Common.{◌≡◌, ◌++◌, refl}
use Rattle.picture.specs.Outcomes.{format_of}
use Rattle.picture.specs.declared.outcome.RlePixelFormat.{RlePixelFormat}
use Rattle.picture.specs.declared.outcome.RlePixelFormat.TheVariants.{Rgb24, Rgb16, Rgb15, Rgb8}
use Rattle.print.specs.Text.{ascii, line}
use Rattle.print.specs.Digits.{decimal}
use Rattle.tile_text.specs.Answer.{format_name, format_line}
use Rattle.tile_text.proofs.lines.put_format.Goals as goal

named : (k : RlePixelFormat) → format_name (format_of k) ≡ ascii "Rgb" ++ decimal (format_of k)
unfolding format_name
named Rgb24 = refl
named Rgb16 = refl
named Rgb15 = refl
named Rgb8 = refl

pub returns-in-Ok : goal.returns-in-Ok
unfolding format_line line ascii
returns-in-Ok c = rw (c.in-Ok.is, named c.in-Ok.format) (rw c.bits_per_pixel.ensures at c.number.ensures)

pub returns-in-Err : goal.returns-in-Err
unfolding format_line format_name line ascii
returns-in-Err c = rw c.in-Err.is c.bytes.ensures
