-- `order::wf` meets its contract.
use mathlib.Core.Path.{◌∙◌, ap}
use borrow.Author.Rules.{rules}
use Rattle.numbers.specs.Sizes.{guests, units, pages, map_room, tlb_room, pair_room}
use Rattle.tables.specs.Wf.{in_order}
use Rattle.tables.proofs.WfLaws.{wf-sized}
use Rattle.order.proofs.wf.Goals as goal

pub returns : goal.returns
unfolding guests units pages map_room tlb_room pair_room
returns c = c.in_order.ensures ∙ ap in_order c.lend.ensures ∙ wf-sized _ (search rules)
