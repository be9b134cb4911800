-- `calls::referee::take_in_place` meets its contract.
use mathlib.Core.Path.{◌∙◌}
use Rattle.calls.proofs.DispatchLaws.{in_place, stepped_is}
use Rattle.calls.proofs.referee.take_in_place.Goals as goal

pub returns-in-Some : goal.returns-in-Some
returns-in-Some c = in_place _ _ _ c.lend.ensures c.in-Some.ensures.seen c.in-Some.ensures.tables

pub returns-in-None : goal.returns-in-None
returns-in-None c = (rw c.in-None.ensures.memory at c.step_in_place.ensures) ∙ stepped_is _ _ _ c.in-None.ensures.check
