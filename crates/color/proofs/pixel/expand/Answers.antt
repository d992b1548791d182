-- `expand` meets its contract: entry i of the palette is its array i of three bytes. Assumes nothing.
use mathlib.Core.Path.{◌≡◌}
use mathlib.Core.List.{[]}
use native.Mathlib.Omega.{arith}
use lib.ListN.{get_or}
use Rattle.std.proofs.Common.{rules, tests}
use Rattle.picture.specs.Sizes.{depth_index}
use Rattle.color.specs.Colors.{entry, expanded, color_of, palette_fits}
use Rattle.color.proofs.Entries.{cut_entries}
use Rattle.color.proofs.pixel.expand.Goals as goal

pub returns-in-8-2 : goal.returns-in-8-2
unfolding expanded color_of palette_fits depth_index
returns-in-8-2 c =
    let e : get_or c.as_chunks.result.0.now c.from.result [] ≡ entry c.args.palette.now c.from.result =
    cut_entries c.args.palette.now _ c.as_chunks.ensures.front (omega arith) c.from.result [] (search (rules, tests)) in
    rw e (search (rules, tests))
