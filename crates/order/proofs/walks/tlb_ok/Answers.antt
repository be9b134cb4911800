-- `order::walks::tlb_ok` meets its contract.
use Rattle.numbers.specs.Entries.{key_in}
use Rattle.tables.specs.Wf.{entry_ok}
use Rattle.tables.specs.declared.search.Want.TheVariants.{Key}
use Rattle.order.proofs.LoopLaws.{and-then, and-else}
use Rattle.order.proofs.walks.tlb_ok.Goals as goal

pub returns-then-rows_ok : goal.returns-then-rows_ok
returns-then-rows_ok c = and-then _ _ (c.rows_ok.ensures entry_ok (λ x b e. e)) c.if-rows_ok.true (c.unique.ensures (λ x. Key (key_in x)) (λ x w e. e))

pub returns-else-rows_ok : goal.returns-else-rows_ok
returns-else-rows_ok c = and-else _ _ (c.rows_ok.ensures entry_ok (λ x b e. e)) c.if-rows_ok.false
