-- `tables::state::lookup` meets its contract.
use mathlib.Core.Path.{◌∙◌, sym, ap}
use Rattle.numbers.proofs.Bools.{cond-true, cond-false}
use Rattle.tables.specs.State.{effective_entry}
use Rattle.tables.specs.Wants.{found}
use Rattle.tables.proofs.WantLaws.{found-some, found-none}
use Rattle.tables.proofs.state.lookup.Goals as goal

pub returns-in-Some : goal.returns-in-Some
unfolding effective_entry
returns-in-Some c =
    let e = rw c.key_of.ensures at (sym c.in-Some.is ∙ c.find.ensures) in
    e ∙ ap found (sym (cond-true (found-some e).1 _ _))

pub returns-in-None : goal.returns-in-None
unfolding effective_entry
returns-in-None c =
    let e = rw c.key_of.ensures at (sym c.in-None.is ∙ c.find.ensures) in
    rw c.key_of-in-None.ensures at c.find-in-None.ensures ∙ ap found (sym (cond-false (found-none _ e) _ _))
