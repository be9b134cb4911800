-- `walks::Walks::hyper_call` meets its contract.
use mathlib.Core.List.{List}
use mathlib.Core.Path.{refl}
use Prim.Native.Nat.{ℕ}
use Rattle.edits.proofs.Answered.{observed_out}
use Rattle.walks.proofs.Walks.hyper_call.Goals as goal

pub returns : goal.returns
returns c = λ (ws : List ℕ). observed_out _ _ ws refl c.lend.ensures c.beside.ensures c.from.ensures (c.hyper_call-answer.ensures ws)
