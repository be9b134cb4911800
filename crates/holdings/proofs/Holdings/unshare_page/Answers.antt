-- `holdings::Holdings::unshare_page` meets its contract.
use mathlib.Core.List.{List}
use mathlib.Core.Path.{refl, ap, ◌∙◌}
use Prim.Native.Nat.{ℕ}
use Rattle.rules.specs.Parts.{with_pairs}
use Rattle.tables.specs.declared.state.Tables.{Tables}
use Rattle.tables.proofs.TableLaws.{wipe_from-first}
use Rattle.edits.proofs.Answered.{refused_out, accepted_out}
use Rattle.holdings.proofs.Holdings.unshare_page.Goals as goal

pub returns-in-Err : goal.returns-in-Err
returns-in-Err c = refused_out _ _ _ c.refused.ensures c.lend.ensures c.in-Err.ensures.number

pub returns-in-Ok : goal.returns-in-Ok
returns-in-Ok c =
    let m = c.args.self.tables in
    let pairs = ap (λ (t : Tables). t.pairs) c.lend.ensures in
    λ (ws : List ℕ). accepted_out _ _ c.accepted.ensures c.lend.ensures c.in-Ok.ensures.number
    (ap (with_pairs m) (c.wipe_from.ensures ∙ rw (c.in-Ok.ensures.at, pairs, wipe_from-first))) ws refl refl
