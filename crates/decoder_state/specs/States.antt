-- The definition's state by value that the code's is.
use Rattle.decoder_state.specs.declared.State.{State}
use Rattle.definition.specs.Pauses.{Saved, saved}

abbrev pub saved_in : State → Saved
saved_in s = saved s.pos s.pixels s.foreground s.insert s.first_row s.orders
