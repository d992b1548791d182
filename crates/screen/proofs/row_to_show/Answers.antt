-- `row_to_show` meets its contract: the part that `part_to_show` names lies in both slices. Assumes nothing.
use mathlib.Core.Path.{ap}
use mathlib.Core.Bool.{true, false}
use native.Mathlib.Omega.{arith}
use native.Mathlib.Nat.{add-sub_cancel_left}
use Rattle.screen.specs.Rows.{on_screen, row_to_show, part_bytes}
use Rattle.screen.proofs.Rows.{part_inside, part_place_lem}
use Rattle.screen.proofs.row_to_show.Goals as goal

pub overflow_add-to : goal.overflow_add-to
overflow_add-to c = omega (arith, (part_inside _ _ _ _ _ _ _ _ c.part_to_show-part.ensures).0)

pub slice_bounds-result-end : goal.slice_bounds-result-end
slice_bounds-result-end c = omega (arith, (part_inside _ _ _ _ _ _ _ _ c.part_to_show-part.ensures).0)

pub slice_bounds-result-end-in-Screen : goal.slice_bounds-result-end-in-Screen
slice_bounds-result-end-in-Screen c = omega (arith, (part_inside _ _ _ _ _ _ _ _ c.part_to_show-part.ensures).1)

pub returns-in-New : goal.returns-in-New
unfolding row_to_show part_bytes
returns-in-New c = record {
  bytes = rw (← c.part_to_show-part.ensures) (simp c.in-New.is (rw add-sub_cancel_left));
  place = part_place_lem _ _ c.part_to_show-part.ensures false (ap on_screen c.in-New.is);
}

pub returns-in-Screen : goal.returns-in-Screen
unfolding row_to_show part_bytes
returns-in-Screen c = record {
  bytes = rw (← c.part_to_show-part.ensures) (simp c.in-Screen.is (rw add-sub_cancel_left));
  place = part_place_lem _ _ c.part_to_show-part.ensures true (ap on_screen c.in-Screen.is);
}
