-- `order::walks::rows_ok` meets its contract.
use mathlib.Core.Path.{◌∙◌}
use mathlib.Core.Bool.{◌||◌}
use borrow.Author.Rules.{rules}
use borrow.Author.Tests.{tests}
use lib.Dec.{eqb}
use Rattle.std.proofs.lemmas.Iterator.{YieldsList-from_slice}
use Rattle.std.proofs.lemmas.Iterator.Search.{all_from_yields_List}
use Rattle.tables.specs.Wants.{W}
use Rattle.order.proofs.LoopLaws.{list_all-each}
use Rattle.order.proofs.walks.rows_ok.Goals as goal

pub returns : goal.returns
returns g c = λ test h.
    all_from_yields_List (λ x. eqb x 0 || test x) _ _ c.all.result c.all.ensures.ran (YieldsList-from_slice c.args.table.now cc) (λ x b q k. search (rules, tests, h))
    ∙ list_all-each W test c.args.table.now
