-- `tables::state::Tables::boot` meets its contract.
use mathlib.Core.Bool.{false}
use mathlib.Core.Path.{◌≡◌, refl, sym, ◌∙◌}
use native.Mathlib.Nat.{div-one}
use native.Mathlib.Omega.{arith}
use lib.ListN.{length-set}
use Rattle.numbers.specs.Sizes.{pages}
use Rattle.tables.specs.State.{pool, bit, bare, empty, boot}
use Rattle.tables.proofs.LoopLaws.{filled_none, filled_more, filled-end, halved, holder-bit, region-bit}
use Rattle.tables.proofs.state.Tables.boot.Goals as goal

pub loop-p-init : goal.loop-p-init
unfolding pages
loop-p-init c = (sym (div-one _), sym (div-one _), refl, refl, filled_none _ _ _, filled_none _ _ _)

pub loop-p-preserved : goal.loop-p-preserved
unfolding pages
loop-p-preserved c = (
  halved _ _ _ c.loop-p.invariant.0,
  halved _ _ _ c.loop-p.invariant.1,
  (simp length-set) ∙ c.loop-p.invariant.2,
  (simp length-set) ∙ c.loop-p.invariant.3,
  filled_more _ _ _ _ _ (omega arith) c.loop-p.invariant.4 (holder-bit _ _ _ c.loop-p.invariant.0),
  filled_more _ _ _ _ _ (omega arith) c.loop-p.invariant.5 (region-bit _ _ _ c.loop-p.invariant.1),
)

pub returns : goal.returns
unfolding boot empty bare pages
returns c = let e : c.loop-p.p ≡ pages = omega arith in
    rw (
      c.empty-t.ensures,
      filled-end (pool c.args.hypervisor) 0 _ pages c.loop-p.invariant.2 (rw e at c.loop-p.invariant.4),
      filled-end (bit c.args.region) false _ pages c.loop-p.invariant.3 (rw e at c.loop-p.invariant.5),
    )
