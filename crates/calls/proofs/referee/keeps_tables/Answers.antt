-- `calls::referee::keeps_tables` meets its contract.
use mathlib.Core.Path.{sym}
use native.Mathlib.Omega.{arith}
use borrow.Author.Tests.{le-leb, lt-leb}
use Rattle.numbers.proofs.Bools.{and_i, and-no-l, and-no-r}
use Rattle.calls.specs.Dispatch.{keeps_tables}
use Rattle.calls.proofs.referee.keeps_tables.Goals as goal

pub returns-in-1-to-5 : goal.returns-in-1-to-5
unfolding keeps_tables
returns-in-1-to-5 c = sym (and_i (le-leb 1 c.args.kind (omega arith)) (le-leb c.args.kind 5 (omega arith)))

pub returns-in_default : goal.returns-in_default
unfolding keeps_tables
returns-in_default c = sym (and-no-l _ (lt-leb 1 c.args.kind (omega arith)))

pub returns-in_default-2 : goal.returns-in_default-2
unfolding keeps_tables
returns-in_default-2 c = sym (and-no-r _ (lt-leb c.args.kind 5 (omega arith)))
