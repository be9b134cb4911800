-- `order::places::pages_ok` meets its contract.
use mathlib.Core.Path.{refl, ◌∙◌}
use borrow.Author.Rules.{rules}
use Rattle.numbers.specs.Sizes.{pages}
use Rattle.std.proofs.lemmas.Iterator.{YieldsList-from_range}
use Rattle.std.proofs.lemmas.Iterator.Search.{all_from_yields_List}
use Rattle.tables.specs.Wf.{page_at, pages_ok}
use Rattle.order.proofs.LoopLaws.{list_all-upto}
use Rattle.order.proofs.places.pages_ok.Goals as goal

pub returns : goal.returns
unfolding pages_ok pages
returns c =
    let t = c.args.t in
    all_from_yields_List (page_at t.present.now t.holder.now t.dma.now t.region.now) _ _ c.all.result c.all.ensures.ran
    (YieldsList-from_range _ _ _ refl refl) (λ x b q k. search rules)
    ∙ list_all-upto _ _
