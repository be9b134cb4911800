-- `tables::search::wipe_from` meets its contract.
-- to free from i on is still to do
use mathlib.Core.Path.{refl, sym, ◌∙◌}
use native.Mathlib.Omega.{arith}
use lib.ListN.{length-set}
use Rattle.tables.specs.Wants.{W}
use Rattle.tables.proofs.TableLaws.{wipe_from-more, wipe_from-end}
use Rattle.tables.proofs.search.wipe_from.Goals as goal

pub loop-i-init : goal.loop-i-init
loop-i-init c = (refl, refl)

pub loop-i-preserved : goal.loop-i-preserved
loop-i-preserved c = (
  (simp length-set) ∙ c.loop-i.invariant.0,
  wipe_from-more W _ _ _ 0 _ (omega arith) c.cleared.ensures ∙ c.loop-i.invariant.1,
)

pub returns : goal.returns
returns c = sym (wipe_from-end W _ _ _ (omega arith)) ∙ c.loop-i.invariant.1
