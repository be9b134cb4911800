-- `order::walks::pairs_ok` meets its contract.
use borrow.Author.Rules.{rules}
use Rattle.numbers.specs.Entries.{left_in, right_in, page_in}
use Rattle.tables.specs.Wf.{pair_ok}
use Rattle.tables.specs.declared.search.Want.TheVariants.{Pair}
use Rattle.order.proofs.LoopLaws.{and-then, and-else}
use Rattle.order.proofs.walks.pairs_ok.Goals as goal

pub returns-then-rows_ok : goal.returns-then-rows_ok
returns-then-rows_ok c = and-then _ _ (c.rows_ok.ensures (pair_ok c.args.t.present.now) (λ x b e. search rules)) c.if-rows_ok.true
    (c.unique.ensures (λ q. Pair (left_in q) (right_in q) (page_in q)) (λ x w e. e))

pub returns-else-rows_ok : goal.returns-else-rows_ok
returns-else-rows_ok c = and-else _ _ (c.rows_ok.ensures (pair_ok c.args.t.present.now) (λ x b e. search rules)) c.if-rows_ok.false
