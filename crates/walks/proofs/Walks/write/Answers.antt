-- `walks::Walks::write` meets its contract.
use mathlib.Core.Path.{refl}
use Rattle.edits.proofs.Answered.{observed_out}
use Rattle.walks.proofs.Walks.write.Goals as goal

pub returns : goal.returns
returns c = observed_out _ _ _ refl c.lend.ensures c.beside.ensures c.from.ensures c.write-answer.ensures
