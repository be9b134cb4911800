-- `verdicts::places::home` meets its contract.
use Rattle.verdicts.proofs.PlaceLaws.{home-ok, home-err}
use Rattle.verdicts.proofs.places.home.Goals as goal

pub returns-clause-ok : goal.returns-clause-ok
returns-clause-ok c = home-ok _ _ _ c.find.result c.ok_or.ensures.value c.find.ensures

pub returns-clause-err : goal.returns-clause-err
returns-clause-err c = home-err _ _ _ c.find.result c.ok_or.ensures.value c.find.ensures
