-- `verdicts::places::seated` meets its contract.
use Rattle.verdicts.proofs.PlaceLaws.{seat-ok, seat-err}
use Rattle.verdicts.proofs.places.seated.Goals as goal

pub returns-clause-ok : goal.returns-clause-ok
returns-clause-ok c = seat-ok _ _ _ c.seat.result c.ok_or.ensures.value c.seat.ensures.some

pub returns-clause-err : goal.returns-clause-err
returns-clause-err c = seat-err _ _ _ c.seat.result c.ok_or.ensures.value c.seat.ensures.none
