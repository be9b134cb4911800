-- `tables::search::has` meets its contract.
use mathlib.Core.Path.{◌∙◌}
use Rattle.numbers.proofs.SearchLaws.{position-is_some}
use Rattle.tables.specs.Table.{has}
use Rattle.tables.proofs.search.has.Goals as goal

pub returns : goal.returns
unfolding has
returns c = c.is_some.ensures ∙ position-is_some _ _ c.first.ensures
