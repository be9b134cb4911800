-- `walks::Walks::read` meets its contract.
use mathlib.Core.Path.{refl}
use Rattle.edits.proofs.Answered.{observed_out}
use Rattle.walks.proofs.Walks.read.Goals as goal

pub returns : goal.returns
returns c = observed_out _ _ _ refl c.lend.ensures c.beside.ensures c.from.ensures c.read-answer.ensures
