-- `edits::changes::holder` meets its contract.
use borrow.Author.Tests.{lt-ltb, le-ltb}
use Rattle.numbers.specs.Sizes.{guests}
use Rattle.edits.proofs.changes.holder.Goals as goal

pub returns-then-g-lt-GUESTS : goal.returns-then-g-lt-GUESTS
unfolding guests
returns-then-g-lt-GUESTS c = rw (lt-ltb _ _ c.if-g-lt-GUESTS.true)

pub returns-else-g-lt-GUESTS : goal.returns-else-g-lt-GUESTS
unfolding guests
returns-else-g-lt-GUESTS c = rw (le-ltb _ _ c.if-g-lt-GUESTS.false)
