-- `lists::begin` meets its contract.
use Rattle.lists.proofs.ListLaws.{begun-with, begun-0}
use Rattle.lists.proofs.begin.Goals as goal

pub returns-in-Ok : goal.returns-in-Ok
returns-in-Ok c = begun-0 _ _ _ _ _ _ c.in-Ok.ensures

pub returns-in-Err : goal.returns-in-Err
returns-in-Err c = rw c.from.ensures (begun-with _ _ _ _ _ _ c.in-Err.refusal c.in-Err.ensures)
