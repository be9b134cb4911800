-- `lists::handle` meets its contract.
use mathlib.Core.Path.{sym}
use native.Mathlib.Nat.{add-zero}
use borrow.Author.Tests.{eq-eqb, ne_eqb}
use Rattle.numbers.proofs.Bools.{cond-true, cond-false}
use Rattle.lists.proofs.ListLaws.{handled-by}
use Rattle.lists.proofs.handle.Goals as goal

pub returns-then-seen-eq0 : goal.returns-then-seen-eq0
returns-then-seen-eq0 c = handled-by _ _ c.args.ran.now _ _ _ c.take_in_place-seen.ensures (sym (cond-true (eq-eqb _ _ c.if-seen-eq0.true) _ _), c.set.ensures, c.set-2.ensures)

pub returns-else-seen-eq0 : goal.returns-else-seen-eq0
returns-else-seen-eq0 c = rw add-zero at
    (handled-by _ _ c.args.ran.now _ _ _ c.take_in_place-seen.ensures (sym (cond-false (ne_eqb _ _ c.if-seen-eq0.false) _ _), c.set.ensures, c.set-2.ensures))
