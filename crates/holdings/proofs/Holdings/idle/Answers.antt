-- `holdings::Holdings::idle` meets its contract.
use mathlib.Core.List.{List}
use mathlib.Core.Path.{refl, ap}
use Prim.Native.Nat.{ℕ}
use Rattle.rules.specs.Parts.{with_running}
use Rattle.edits.proofs.Answered.{refused_out, accepted_out}
use Rattle.holdings.proofs.Holdings.idle.Goals as goal

pub returns-in-Err : goal.returns-in-Err
returns-in-Err c = refused_out _ _ _ c.refused.ensures refl (c.in-Err.ensures c.args.self.tables)

pub returns : goal.returns
returns c = λ (ws : List ℕ). accepted_out _ _ c.accepted.ensures refl (c.in_default.ensures c.args.self.tables) (ap (with_running c.args.self.tables) c.set.ensures) ws refl refl
