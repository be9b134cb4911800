use mathlib.Core.Bool.{true}
use mathlib.Core.Path.{◌≡◌}
use Prim.Native.Nat.{ℕ}
use lib.ListN.{length}
use Rattle.numbers.proofs.SearchLaws.{Passed}
use Rattle.tables.specs.Table.{hit, uniq}
use Rattle.tables.specs.Wants.{W, meets}
use Rattle.tables.specs.declared.search.Want.{Want}
use Rattle.order.specs.Calls.{Gives}
use Rattle.order.proofs.walks.unique.Given as goal

abbrev pub invariant-loop-other : goal.invariant-loop-other
invariant-loop-other g l = (l.once ≡ true) × Passed (hit W (meets l.want)) l.later l.other-index

abbrev pub invariant-rows : goal.invariant-rows
invariant-rows g l = (l.once ≡ true)
    × ((want : ℕ → Want) → Gives (goal.F-post g l.same) want →
    uniq W (λ x. meets (want x)) l.fn.table ≡ uniq W (λ x. meets (want x)) l.rest)

abbrev pub decreases-rows : goal.decreases-rows
decreases-rows g l = length l.rest
