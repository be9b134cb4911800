-- `tables::search::free` meets its contract.
use mathlib.Core.Path.{sym}
use native.Mathlib.Omega.{arith}
use borrow.Author.Rules.{rules}
use borrow.Author.Tests.{eq-eqb, ne_eqb}
use Rattle.numbers.proofs.SearchLaws.{passed_none, passed-more, passed-hit, passed-end}
use Rattle.tables.specs.Wants.{W}
use Rattle.tables.proofs.search.free.Goals as goal

pub loop-i-init : goal.loop-i-init
loop-i-init c = (search rules, passed_none _ _)

pub loop-i-preserved : goal.loop-i-preserved
loop-i-preserved c = (search rules, passed-more W.free _ _ 0 c.if-rows-i.false c.loop-i.invariant.1 (ne_eqb _ _ c.if-rows-i-eq0.false))

pub returns-then-rows-i-clause-none : goal.returns-then-rows-i-clause-none
returns-then-rows-i-clause-none c = omega (arith, passed-end _ _ _ c.if-rows-i.true c.loop-i.invariant.0 c.loop-i.invariant.1)

pub returns-then-rows-i-eq0-clause-some : goal.returns-then-rows-i-eq0-clause-some
returns-then-rows-i-eq0-clause-some c = (
  sym (passed-hit W.free _ _ 0 c.if-rows-i.false c.loop-i.invariant.1 (eq-eqb _ _ c.if-rows-i-eq0.true)),
  c.if-rows-i.false,
)
