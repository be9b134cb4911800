-- `walks::Walks::map` meets its contract.
use mathlib.Core.List.{List}
use mathlib.Core.Path.{refl, ap, ◌∙◌}
use Prim.Native.Nat.{ℕ}
use Rattle.numbers.specs.Entries.{key_of}
use Rattle.tables.specs.State.{map_of}
use Rattle.tables.specs.Table.{seat, put}
use Rattle.tables.specs.Wants.{W, has_key}
use Rattle.tables.specs.declared.state.Tables.{Tables}
use Rattle.edits.proofs.MapAndTlb.{and_then_tlb}
use Rattle.edits.proofs.Answered.{refused_out, accepted_out}
use Rattle.walks.proofs.Walks.map.Goals as goal

pub returns-in-Err : goal.returns-in-Err
returns-in-Err c = refused_out _ _ _ c.refused.ensures c.lend.ensures c.in-Err.ensures.number

pub returns-in-Ok : goal.returns-in-Ok
unfolding put
returns-in-Ok c =
    let side = c.args.side in
    let key = key_of 0 c.args.g c.args.v in
    let at = c.in-Ok.ensures.row.0 ∙ ap (λ (t : Tables). seat W (has_key key) (map_of side t)) c.lend.ensures in
    let map = c.set_map_row.ensures ∙ rw (at, c.in-Ok.ensures.row.1) in
    let changed = c.invalidate.ensures ∙ and_then_tlb side c.args.self.tables c.args.g c.args.v _ _ map in
    λ (ws : List ℕ). accepted_out _ _ c.accepted.ensures c.lend.ensures c.in-Ok.ensures.number changed ws refl refl
