-- `holdings::Holdings::iommu_assign_page` meets its contract.
use mathlib.Core.Bool.{true, false}
use mathlib.Core.Path.{◌≡◌, refl, sym, ◌∙◌, subst}
use Rattle.numbers.specs.Tests.{◌or◌}
use Rattle.tables.specs.declared.state.Tables.{Tables}
use Rattle.rules.specs.Actions.{holds, dma_holds}
use Rattle.edits.proofs.Answered.{holder_is}
use Rattle.numbers.proofs.Bools.{cond-true, cond-false}
use Rattle.edits.proofs.Answered.{refused_out, accepted_with}
use Rattle.holdings.proofs.Holdings.iommu_assign_page.Goals as goal

pub returns-in-Err : goal.returns-in-Err
returns-in-Err c = refused_out _ _ _ c.refused.ensures c.lend.ensures c.in-Err.ensures _

pub returns-then-keep : goal.returns-then-keep
returns-then-keep c =
    let m = c.args.self.tables in
    let held = subst (λ (t : Tables). (dma_holds t c.args.g c.args.p or holds t c.args.g c.args.p) ≡ true) c.lend-2.ensures (sym c.held_already-keep.ensures ∙ c.if-keep.true) in
    accepted_with _ _ c.accepted.ensures c.lend.ensures c.in_default.ensures
    (c.set_holder.ensures ∙ rw (holder_is m _ c.lend.ensures c.in_default.ensures c.args.g _ refl c.holder.ensures)) (sym (cond-true held _ _)) _ refl refl

pub returns : goal.returns
returns c =
    let m = c.args.self.tables in
    let new = subst (λ (t : Tables). (dma_holds t c.args.g c.args.p or holds t c.args.g c.args.p) ≡ false) c.lend-2.ensures (sym c.held_already-keep.ensures ∙ c.if-keep.false) in
    accepted_with _ _ c.accepted-2.ensures c.lend.ensures c.in_default.ensures
    (c.set_holder.ensures ∙ rw (holder_is m _ c.lend.ensures c.in_default.ensures c.args.g _ refl c.holder.ensures)) (sym (cond-false new _ _)) _ refl c.clear_page.ensures
