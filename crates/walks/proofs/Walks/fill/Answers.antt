-- `walks::Walks::fill` meets its contract.
use mathlib.Core.List.{List}
use mathlib.Core.Path.{refl, ap, ◌∙◌}
use Prim.Native.Nat.{ℕ}
use Rattle.numbers.specs.Entries.{key_of, at_unit}
use Rattle.tables.specs.State.{map_of, tlb_of}
use Rattle.tables.specs.Table.{find, seat, put}
use Rattle.tables.specs.Wants.{W, has_key}
use Rattle.tables.specs.declared.state.Tables.{Tables}
use Rattle.edits.proofs.Answered.{refused_out, accepted_out}
use Rattle.walks.proofs.Walks.fill.Goals as goal

pub returns-in-Err : goal.returns-in-Err
returns-in-Err c = refused_out _ _ _ c.refused.ensures c.lend.ensures c.in-Err.ensures.number

pub returns-in-Ok : goal.returns-in-Ok
unfolding put
returns-in-Ok c =
    let side = c.args.side in
    let key = key_of c.args.u c.args.g c.args.v in
    let at = c.in-Ok.ensures.row.0 ∙ ap (λ (t : Tables). seat W (has_key key) (tlb_of side t)) c.lend.ensures in
    let word = c.in-Ok.ensures.row.1 ∙ ap (λ (t : Tables). at_unit c.args.u (find W (has_key (key_of 0 c.args.g c.args.v)) (map_of side t))) c.lend.ensures in
    let changed = c.set_tlb_row.ensures ∙ rw (at, word) in
    λ (ws : List ℕ). accepted_out _ _ c.accepted.ensures c.lend.ensures c.in-Ok.ensures.number changed ws refl refl
