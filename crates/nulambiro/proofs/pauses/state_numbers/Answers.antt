-- `state_numbers` meets its contract: the foreground's three bytes come back from one number. Assumes nothing.
use Rattle.std.proofs.Common.{rules, ℕ, List}
use mathlib.Core.Path.{sym, subst}
use Rattle.decoder_state.specs.States.{saved_in}
use Rattle.nulambiro.specs.StateNumbers.{IsBack}
use Rattle.nulambiro.proofs.States.{numbers_back}
use Rattle.nulambiro.proofs.pauses.state_numbers.Goals as goal

pub returns-clause-numbers : goal.returns-clause-numbers
returns-clause-numbers c = search rules

pub returns-clause-back : goal.returns-clause-back
returns-clause-back c =
    subst (λ (l : List ℕ). IsBack (saved_in c.args.s) l) (sym (returns-clause-numbers c))
    (numbers_back (saved_in c.args.s) (search rules) (search rules) (search rules) (search rules))
