-- `verdicts::places::standing` meets its contract.
use Rattle.verdicts.proofs.PlaceLaws.{stands-ok, stands-err}
use Rattle.verdicts.proofs.places.standing.Goals as goal

pub returns-clause-ok : goal.returns-clause-ok
returns-clause-ok c = stands-ok _ _ _ c.first.result c.ok_or.ensures.value c.first.ensures

pub returns-clause-err : goal.returns-clause-err
returns-clause-err c = stands-err _ _ _ c.first.result c.ok_or.ensures.value c.first.ensures
