-- `verdicts::places::new_place` meets its contract.
use mathlib.Core.Path.{refl, sym, ◌∙◌}
use Rattle.numbers.specs.Tests.{◌and◌, isnt}
use Rattle.verdicts.proofs.PlaceLaws.{new-ok, new-err}
use Rattle.verdicts.proofs.places.new_place.Goals as goal

pub returns-then-has-clause-ok : goal.returns-then-has-clause-ok
unfolding ◌and◌ isnt
returns-then-has-clause-ok c = let h = sym c.has.ensures ∙ c.if-has.true in (rw h, rw h)

pub returns-in-Some-clause-ok : goal.returns-in-Some-clause-ok
returns-in-Some-clause-ok c = new-ok _ _ (sym c.has.ensures ∙ c.if-has.false) c.in-Some.ensures.some.0 c.in-Some.ensures.some.1

pub returns-in-None-clause-err : goal.returns-in-None-clause-err
returns-in-None-clause-err c = (refl, new-err _ _ (sym c.has.ensures ∙ c.if-has.false) c.in-None.ensures.none)
