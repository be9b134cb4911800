use mathlib.Core.Path.{◌≡◌}
use lib.ListN.{length}
use Rattle.tables.specs.Steps.{wipe_from}
use Rattle.tables.specs.Wants.{W, meets}
use Rattle.tables.proofs.search.wipe_from.Given as goal

abbrev pub invariant-loop-i : goal.invariant-loop-i
invariant-loop-i l = (length l.rows ≡ length l.initial.rows) × (wipe_from W (meets l.want) l.i l.rows ≡ wipe_from W (meets l.want) l.from l.initial.rows)
