use Rattle.numbers.proofs.SearchLaws.{Passed}
use Rattle.tables.specs.Table.{hit}
use Rattle.tables.specs.Wants.{W, has_key}
use Rattle.tables.proofs.search.find.Given as goal

abbrev pub invariant-loop-row : goal.invariant-loop-row
invariant-loop-row l = Passed (hit W (has_key l.key)) l.rows l.row-index
