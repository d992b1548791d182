-- `fg_run` meets its contract: a run behind its foreground, of no bytes where it has none. Assumes nothing.
use mathlib.Core.Path.{◌∙◌}
use Rattle.rle.proofs.Sharing.{run_counts_by}
use Rattle.rle.proofs.plan.Room.fg_run.Goals as goal

pub returns : goal.returns
returns c = (rw c.foreground_size.ensures at c.with_operands.ensures) ∙ run_counts_by _ _ _ _ c.requires
