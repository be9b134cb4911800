-- `numbers::frames::row_of` meets its contract.
use mathlib.Core.Path.{◌≡◌, sym, ◌∙◌, ap}
use Prim.Native.Nat.{ℕ}
use native.Mathlib.Omega.{arith}
use lib.Dec.{eqb}
use lib.ListN.{get_or}
use borrow.Author.Tests.{eq-eqb, ne_eqb}
use Rattle.numbers.proofs.FrameLaws.{no_row_is-0}
use Rattle.numbers.proofs.SearchLaws.{passed_none, passed-more, passed-hit, passed-end}
use Rattle.numbers.specs.Frames.{kinds, of_kind, row_of}
use Rattle.numbers.proofs.frames.row_of.Goals as goal

pub loop-row-init : goal.loop-row-init
loop-row-init c = passed_none _ _

pub returns-then-kind-row-clause-some : goal.returns-then-kind-row-clause-some
unfolding row_of kinds
returns-then-kind-row-clause-some c =
    let e : get_or kinds c.loop-row.row-index 0 ≡ row_of c.args.kind = ap (λ (n : ℕ). get_or kinds n 0)
    (sym (passed-hit (of_kind _) kinds _ 0 c.loop-row-test.true c.loop-row.invariant (eq-eqb _ _ c.if-kind-row.true)))
    in (e, ap (λ (n : ℕ). eqb n 0) (sym e) ∙ no_row_is-0 _ c.loop-row-test.true)

pub loop-row-preserved : goal.loop-row-preserved
unfolding kinds
loop-row-preserved c = passed-more (of_kind _) kinds _ 0 c.loop-row-test.true c.loop-row.invariant (ne_eqb _ _ c.if-kind-row.false)

pub returns-clause-none : goal.returns-clause-none
unfolding row_of kinds
returns-clause-none c = ap (λ (n : ℕ). eqb (get_or kinds n 0) 0) (passed-end (of_kind _) kinds _ c.loop-row-test.false (omega arith) c.loop-row.invariant)
