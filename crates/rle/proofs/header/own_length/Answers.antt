-- `own_length` meets its contract: the code's table is that of the definition's rule at all 256 headers, by computation. Assumes nothing.
use mathlib.Core.Path.{◌≡◌, refl, ap, ◌∙◌}
use mathlib.Core.List.{List}
use Prim.Native.Nat.{ℕ, ◌<◌}
use lib.ListN.{get_or}
use Rattle.definition.specs.Orders.{has_header, is_mega_mega, rows, row, no_row, row_in, row_of, place_in, place_of, own_length}
use Rattle.definition.specs.Codes.{tabulate, lengths, length_number, own_at}
use Rattle.definition.proofs.Table.{get_d_tabulate}
use Rattle.rle.specs.declared.header.TheConstants.{LENGTHS}
use Rattle.rle.proofs.header.own_length.Goals as goal

listed : LENGTHS ≡ lengths
unfolding lengths tabulate length_number own_at place_of place_in own_length row_of row_in has_header is_mega_mega rows no_row row
listed = refl

entry : (h : ℕ) → h < 256 → get_or LENGTHS h 0 ≡ length_number h
unfolding lengths
entry h fits = ap (λ (l : List ℕ). get_or l h 0) listed ∙ get_d_tabulate 0 length_number 256 h fits

pub returns-in-0 : goal.returns-in-0
returns-in-0 c = rw (c.from.ensures, entry c.args.header c.ranges.header.fits) at c.in-0.is

pub returns-in_default : goal.returns-in_default
returns-in_default c = rw (c.from-in_default.ensures, c.from.ensures) (entry c.args.header c.ranges.header.fits)
