use mathlib.Core.Path.{◌≡◌}
use mathlib.Core.Bool.{true, ◌||◌}
use lib.Dec.{eqb}
use lib.ListN.{take}
use Rattle.std.specs.List.{list_all}
use Rattle.numbers.proofs.SearchLaws.{Passed}
use Rattle.tables.specs.Table.{hit}
use Rattle.tables.specs.Wants.{W, meets}
use Rattle.tables.specs.Wf.{cached}
use Rattle.order.proofs.walks.tlb_safe.Given as goal

abbrev pub invariant-loop-entry : goal.invariant-loop-entry
invariant-loop-entry l = Passed (hit W (meets l.key)) l.map l.entry-index

abbrev pub invariant-rows : goal.invariant-rows
invariant-rows l = (l.safe ≡ true) × (list_all (λ y. eqb y 0 || cached l.map y) (take l.row-index l.tlb) ≡ true)
