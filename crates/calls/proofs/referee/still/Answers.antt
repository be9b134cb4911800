-- `calls::referee::still` meets its contract.
use mathlib.Core.Path.{◌∙◌, sym}
use Rattle.calls.proofs.DispatchLaws.{refused-still, served-still, tables-still}
use Rattle.calls.proofs.referee.still.Goals as goal

pub returns-in-Err-clause-seen : goal.returns-in-Err-clause-seen
returns-in-Err-clause-seen c = rw c.refused.ensures (refused-still _ _ _ _ c.in-Err.ensures).0

pub returns-in-Err-clause-tables : goal.returns-in-Err-clause-tables
returns-in-Err-clause-tables c = (refused-still _ _ c.args.mem.now _ c.in-Err.ensures).1

pub returns-clause-seen : goal.returns-clause-seen
returns-clause-seen c = served-still _ _ _ c.in_default.ensures (sym c.keeps_tables.ensures ∙ c.if-not-keeps_tables.false) c.by_kind.ensures

pub returns-clause-tables : goal.returns-clause-tables
returns-clause-tables c = tables-still _ _ c.args.mem.now c.in_default.ensures (sym c.keeps_tables.ensures ∙ c.if-not-keeps_tables.false)
