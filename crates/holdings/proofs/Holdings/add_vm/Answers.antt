-- `holdings::Holdings::add_vm` meets its contract.
use mathlib.Core.List.{List}
use mathlib.Core.Path.{refl, ap}
use Prim.Native.Nat.{ℕ}
use Rattle.rules.specs.Parts.{with_present}
use Rattle.edits.proofs.Answered.{refused_out, accepted_out}
use Rattle.holdings.proofs.Holdings.add_vm.Goals as goal

pub returns-in-Err : goal.returns-in-Err
returns-in-Err c = refused_out _ _ _ c.refused.ensures c.lend.ensures c.in-Err.ensures

pub returns : goal.returns
returns c = λ (ws : List ℕ). accepted_out _ _ c.accepted.ensures c.lend.ensures c.in_default.ensures (ap (with_present c.args.self.tables) c.set.ensures) ws refl refl
