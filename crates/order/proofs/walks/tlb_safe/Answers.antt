-- `order::walks::tlb_safe` meets its contract.
use mathlib.Core.Path.{◌≡◌, sym, ◌∙◌}
use mathlib.Core.Bool.{true, false, ◌||◌}
use mathlib.Core.List.{List}
use Prim.Native.Nat.{ℕ, ◌+◌, ◌<◌}
use native.Mathlib.Omega.{arith}
use lib.Dec.{eqb}
use lib.ListN.{length, get_or, take}
use lib.Seq.{take_all}
use borrow.Author.Tests.{eq-eqb, ne_eqb}
use Rattle.std.specs.List.{list_all}
use Rattle.std.proofs.lemmas.List.Folds.{list_all_more, list_all_at}
use Rattle.numbers.proofs.SearchLaws.{passed_none, passed-more, passed-hit, passed-end}
use Rattle.tables.specs.Table.{each}
use Rattle.tables.specs.Wants.{W}
use Rattle.tables.specs.Wf.{cached}
use Rattle.order.proofs.LoopLaws.{list_all-each, cached-at, cached-past}
use Rattle.order.proofs.walks.tlb_safe.Goals as goal

-- row i passes, or settles the answer
module _ (map tlb : List ℕ) (i : ℕ) (h : i < length tlb) where
  more : list_all (λ y. eqb y 0 || cached map y) (take i tlb) ≡ true → (eqb (get_or tlb i 0) 0 || cached map (get_or tlb i 0)) ≡ true →
      list_all (λ y. eqb y 0 || cached map y) (take (i + 1) tlb) ≡ true
  more q e = list_all_more _ tlb i 0 h ∙ rw (q, e)

  no : (get_or tlb i 0 ≡ 0 → ⊥) → cached map (get_or tlb i 0) ≡ false → false ≡ each W (cached map) tlb
  no n e = sym (list_all_at (λ y. eqb y 0 || cached map y) tlb i 0 h (rw (ne_eqb _ _ n) e)) ∙ list_all-each W (cached map) tlb

pub loop-entry-init : goal.loop-entry-init
loop-entry-init c = passed_none _ _

pub loop-entry-preserved : goal.loop-entry-preserved
loop-entry-preserved c = passed-more _ _ _ 0 c.loop-entry-test.true c.loop-entry.invariant (sym c.hits.ensures ∙ c.if-hits.false)

pub rows-preserved-then-entry-home : goal.rows-preserved-then-entry-home
rows-preserved-then-entry-home c = (
  c.rows.invariant.0,
  more _ _ _ c.rows-test.true c.rows.invariant.1 (rw (ne_eqb _ _ c.if-row-ne0.true)
      (cached-at _ _ _ _ _ c.at_unit-home.ensures c.key_in.ensures
      (passed-hit _ _ _ 0 c.loop-entry-test.true c.loop-entry.invariant (sym c.hits.ensures ∙ c.if-hits.true))
      ∙ eq-eqb _ _ c.if-entry-home.true)),
)

pub rows-preserved : goal.rows-preserved
rows-preserved c = (c.rows.invariant.0, more _ _ _ c.rows-test.true c.rows.invariant.1 (rw (eq-eqb _ _ c.if-row-ne0.false)))

pub returns-after-loop-entry : goal.returns-after-loop-entry
returns-after-loop-entry c = no _ _ _ c.rows-test.true c.if-row-ne0.true
    (cached-past _ _ _ _ _ c.at_unit-home.ensures c.key_in.ensures
    (passed-end _ _ _ c.loop-entry-test.false c.loop-entry.auto.entry-index-end c.loop-entry.invariant) (omega arith))

pub returns-else-entry-home : goal.returns-else-entry-home
returns-else-entry-home c = no _ _ _ c.rows-test.true c.if-row-ne0.true
    (cached-at _ _ _ _ _ c.at_unit-home.ensures c.key_in.ensures
    (passed-hit _ _ _ 0 c.loop-entry-test.true c.loop-entry.invariant (sym c.hits.ensures ∙ c.if-hits.true))
    ∙ ne_eqb _ _ c.if-entry-home.false)

pub returns-after-rows : goal.returns-after-rows
returns-after-rows c =
    c.rows.invariant.0 ∙ sym (sym (list_all-each W (cached c.args.map.now) _) ∙ rw (take_all _ _ c.rows-test.false) at c.rows.invariant.1)
