-- `order::walks::unique` meets its contract.
use mathlib.Core.Path.{sym, ◌∙◌}
use borrow.Author.Tests.{eq-eqb, ne_eqb}
use Rattle.std.proofs.lemmas.List.{nil_from_length}
use Rattle.numbers.proofs.Bools.{isnt-i, isnt-no}
use Rattle.numbers.proofs.SearchLaws.{passed_none, passed-more}
use Rattle.tables.specs.Wants.{W, meets}
use Rattle.order.proofs.LoopLaws.{has-here, has-none, uniq-nil, uniq-free, uniq-once, uniq-twice}
use Rattle.order.proofs.walks.unique.Goals as goal
use Rattle.order.proofs.walks.unique.Goals.{in_default, in-Some+then-row-ne0+then-loop-other-test+then-hits}

pub loop-other-init : goal.loop-other-init
loop-other-init g c = (c.rows.invariant.0, passed_none _ _)

pub loop-other-preserved : goal.loop-other-preserved
loop-other-preserved g c = (
  c.loop-other.invariant.0,
  passed-more _ _ _ 0 c.loop-other-test.true c.loop-other.invariant.1 (sym c.hits.ensures ∙ c.if-hits.false),
)

pub rows-preserved-after-loop-other : goal.rows-preserved-after-loop-other
rows-preserved-after-loop-other g c = (
  c.loop-other.invariant.0,
  λ want w.
      let e = rw (w _ _ c.same-want.ensures) at (has-none W (meets c.same-want.result) _ _ c.loop-other.invariant.1 c.loop-other-test.false c.loop-other.auto.other-index-end) in
      c.rows.invariant.1 want w ∙ rw c.in-Some.ensures.cases.0 (uniq-once W (λ x. meets (want x)) _ _ e),
)

pub rows-preserved : goal.rows-preserved
rows-preserved g c = (
  c.rows.invariant.0,
  λ want w.
      c.rows.invariant.1 want w ∙ rw c.in-Some.ensures.cases.0 (uniq-free W (λ x. meets (want x)) _ _ (isnt-no (eq-eqb _ _ c.if-row-ne0.false))),
)

pub returns : goal.returns
returns g c = λ want w. elim c.match-split_first.branch [
  | in_default u ↦ u.once-is ∙ c.rows.invariant.0 ∙ sym (c.rows.invariant.1 want w ∙ rw (nil_from_length _ u.in_default.ensures.cases) (uniq-nil W (λ x. meets (want x))))
  | in-Some+then-row-ne0+then-loop-other-test+then-hits u ↦
      let e = rw (w _ _ u.same-want.ensures) at (has-here W (meets u.same-want.result) _ _ u.loop-other.invariant.1 0 u.loop-other-test.true (sym u.hits.ensures ∙ u.if-hits.true)) in
      u.once-is ∙ sym (c.rows.invariant.1 want w ∙ rw u.in-Some.ensures.cases.0 (uniq-twice W (λ x. meets (want x)) _ _ (isnt-i (ne_eqb _ _ u.if-row-ne0.true)) e))
]
