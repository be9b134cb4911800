-- `order::walks::map_ok` meets its contract.
use borrow.Author.Rules.{rules}
use Rattle.numbers.specs.Entries.{key_in}
use Rattle.tables.specs.Lent.{tables_of}
use Rattle.tables.specs.declared.search.Want.TheVariants.{Key}
use Rattle.order.specs.Sides.{side_row}
use Rattle.order.proofs.LoopLaws.{and-then, and-else}
use Rattle.order.proofs.walks.map_ok.Goals as goal

pub returns-then-rows_ok : goal.returns-then-rows_ok
returns-then-rows_ok c =
    rw (← c.map_of-map.ensures)
    (and-then _ _ (c.rows_ok.ensures (side_row c.args.side (tables_of c.args.t)) (λ x b e. search rules)) c.if-rows_ok.true
    (c.unique.ensures (λ x. Key (key_in x)) (λ x w e. e)))

pub returns-else-rows_ok : goal.returns-else-rows_ok
returns-else-rows_ok c =
    rw (← c.map_of-map.ensures)
    (and-else _ _ (c.rows_ok.ensures (side_row c.args.side (tables_of c.args.t)) (λ x b e. search rules)) c.if-rows_ok.false)
