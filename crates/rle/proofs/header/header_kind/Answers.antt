-- `header_kind` meets its contract: the code's table is that of the definition's rule at all 256 headers, by computation. Assumes nothing.
use mathlib.Core.Path.{◌≡◌, refl, ◌∙◌}
use lib.ListN.{get_or}
use Rattle.std.specs.Prelude.{flat_map}
use Rattle.definition.specs.Orders.{has_header, is_mega_mega, rows, row}
use Rattle.definition.specs.Codes.{tabulate, kinds, kind_number, number_in}
use Rattle.definition.proofs.Table.{same_tables}
use Rattle.rle.specs.Kinds.{number_of, numbers_in}
use Rattle.rle.specs.declared.kind.Kind.TheVariants.{BgRun}
use Rattle.rle.specs.declared.header.TheConstants.{KINDS}
use Rattle.rle.proofs.header.header_kind.Goals as goal

listed : numbers_in KINDS ≡ kinds
unfolding kinds tabulate kind_number number_in has_header is_mega_mega rows row
listed = refl

-- one row after another they are the same numbers
in_a_row : tabulate (λ h. number_of (get_or (flat_map (λ x. x) KINDS) h BgRun)) 0 256 ≡ numbers_in KINDS
unfolding tabulate
in_a_row = refl

pub returns : goal.returns
unfolding kinds
returns c =
    rw (c.from.ensures, c.as_flattened.ensures.value) (same_tables 0 _ kind_number 256 (in_a_row ∙ listed) c.args.header c.ranges.header.fits)
