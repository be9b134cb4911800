-- `holdings::Holdings::context_switch` meets its contract.
use mathlib.Core.List.{List}
use mathlib.Core.Path.{refl, ap, ◌∙◌}
use Prim.Native.Nat.{ℕ}
use Rattle.rules.specs.Parts.{with_running}
use Rattle.edits.proofs.Answered.{holder_is}
use Rattle.edits.proofs.Answered.{refused_out, accepted_out}
use Rattle.holdings.proofs.Holdings.context_switch.Goals as goal

pub returns-in-Err : goal.returns-in-Err
returns-in-Err c = refused_out _ _ _ c.refused.ensures c.lend.ensures c.in-Err.ensures

pub returns : goal.returns
returns c = λ (ws : List ℕ). accepted_out _ _ c.accepted.ensures c.lend.ensures c.in_default.ensures
    (ap (with_running c.args.self.tables) (c.set.ensures ∙ rw (holder_is c.args.self.tables _ c.lend.ensures c.in_default.ensures c.args.g _ refl c.holder.ensures))) ws refl refl
