-- `tables::search::find` meets its contract.
use mathlib.Core.Path.{◌≡◌, sym, ◌∙◌, ap}
use mathlib.Core.Bool.{Bool, true, not, ◌&&◌}
use mathlib.Core.List.{List}
use Prim.Native.Nat.{ℕ, ◌≤◌, ◌<◌}
use native.Mathlib.Omega.{arith}
use lib.Dec.{eqb}
use lib.ListN.{length, get_or, get_or-eq_default}
use Rattle.numbers.specs.Tests.{◌and◌, isnt}
use Rattle.numbers.specs.Entries.{key_in}
use Rattle.numbers.specs.Search.{first}
use Rattle.numbers.proofs.Bools.{and_l}
use Rattle.numbers.proofs.SearchLaws.{Passed, passed_none, passed-more, passed-hit, passed-end}
use Rattle.tables.specs.Table.{hit, find}
use Rattle.tables.specs.Wants.{W, has_key, found}
use Rattle.tables.proofs.WantLaws.{some-found, none-found}
use Rattle.tables.proofs.search.find.Goals as goal

tested : (key word : ℕ) {k : ℕ} → k ≡ key_in word → hit W (has_key key) word ≡ not (eqb word 0) && eqb key k
unfolding has_key ◌and◌ isnt
tested key word e = rw e

-- the first i rows passed over, and the next one hit, or none left
module _ (test : ℕ → Bool) (rows : List ℕ) (i : ℕ) (q : Passed (hit W test) rows i) where
  here : i < length rows → hit W test (get_or rows i 0) ≡ true → get_or rows i 0 ≡ find W test rows
  unfolding find
  here l e = ap (λ (n : ℕ). get_or rows n 0) (sym (passed-hit _ rows i 0 l q e))

  missed : length rows ≤ i → i ≤ length rows → 0 ≡ find W test rows
  unfolding find
  missed l m =
      let e : first (hit W test) rows ≡ length rows = passed-end _ rows i l m q in
      let over : length rows ≤ first (hit W test) rows = omega arith in
      sym (get_or-eq_default rows 0 over)

pub loop-row-init : goal.loop-row-init
loop-row-init c = passed_none _ _

pub returns-then-row-key : goal.returns-then-row-key
returns-then-row-key c =
    let hits = tested _ _ c.key_in.ensures ∙ c.if-row-key.true in
    let live : isnt (eqb (get_or c.args.rows.now c.loop-row.row-index 0) 0) ≡ true = and_l _ _ hits in
    some-found live ∙ ap found (here _ _ _ c.loop-row.invariant c.loop-row-test.true hits)

pub loop-row-preserved : goal.loop-row-preserved
loop-row-preserved c = passed-more _ _ _ 0 c.loop-row-test.true c.loop-row.invariant
    (tested _ _ c.key_in.ensures ∙ c.if-row-key.false)

pub returns : goal.returns
returns c = none-found ∙ ap found (missed _ _ _ c.loop-row.invariant c.loop-row-test.false c.loop-row.auto.row-index-end)
