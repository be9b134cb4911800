-- `order::places::cpus_ok` meets its contract.
use mathlib.Core.Path.{refl, ◌∙◌}
use borrow.Author.Rules.{rules}
use Rattle.numbers.specs.Sizes.{units}
use Rattle.std.proofs.lemmas.Iterator.{YieldsList-from_range}
use Rattle.std.proofs.lemmas.Iterator.Search.{all_from_yields_List}
use Rattle.tables.specs.Wf.{cpu_at, cpus_ok}
use Rattle.order.proofs.LoopLaws.{list_all-upto}
use Rattle.order.proofs.places.cpus_ok.Goals as goal

pub returns : goal.returns
unfolding cpus_ok units
returns c =
    let t = c.args.t in
    all_from_yields_List (cpu_at t.present.now t.running.now) _ _ c.all.result c.all.ensures.ran
    (YieldsList-from_range _ _ _ refl refl) (λ x b q k. search rules)
    ∙ list_all-upto _ _
