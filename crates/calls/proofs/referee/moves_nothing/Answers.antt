-- `calls::referee::moves_nothing` meets its contract.
use Rattle.numbers.specs.Tests.{◌or◌, isnt}
use Rattle.calls.proofs.referee.moves_nothing.Goals as goal

pub returns : goal.returns
unfolding ◌or◌ isnt
returns c = rw c.keeps_tables.ensures
