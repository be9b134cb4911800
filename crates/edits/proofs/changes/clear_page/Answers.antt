-- `edits::changes::clear_page` meets its contract.
use mathlib.Core.Path.{◌≡◌, refl, ◌∙◌}
use native.Mathlib.Omega.{arith}
use Rattle.numbers.specs.Sizes.{page_words}
use Rattle.rules.specs.Actions.{cleared, clear_page}
use Rattle.access.proofs.PartLaws.{cleared_more}
use Rattle.edits.proofs.changes.clear_page.Goals as goal

pub loop-n-init : goal.loop-n-init
unfolding page_words cleared
loop-n-init c = (refl, refl)

pub loop-n-preserved : goal.loop-n-preserved
unfolding page_words
loop-n-preserved c = (
  c.set.auto.list ∙ c.loop-n.invariant.0,
  c.set.ensures ∙ rw (c.word_of.ensures, c.loop-n.invariant.1) (cleared_more _ _ _),
)

pub returns : goal.returns
unfolding clear_page page_words
returns c = let e : c.loop-n.n ≡ page_words = omega arith in rw e at c.loop-n.invariant.1
