-- One action as the code comes to it: its kind chooses.
use Rattle.std.specs.Prelude.{ℕ, Bool, List, eqb, leb}
use Rattle.numbers.specs.Tests.{◌and◌}
use Rattle.numbers.specs.Rules.{Rules}
use Rattle.numbers.specs.Rules.Rules.{accept, ◌⇒◌∣◌}
use Rattle.numbers.specs.Frames.{row_of}
use Rattle.numbers.specs.declared.frames.Action.{Action}
use Rattle.tables.specs.declared.state.Tables.{Tables}
use Rattle.rules.specs.Actions.{refusals, Outcome, outcome}
use Rattle.rules.specs.Calls.{op_of, ◌then◌}

-- kinds 01 to 05 leave the tables as they are
unfoldable pub keeps_tables : ℕ → Bool
keeps_tables k = leb 0x01 k and leb k 0x05

-- by its kind alone: 3 where it is of none
abbrev pub kind_rules : Action → Rules
kind_rules a = eqb (row_of a.kind) 0 ⇒ 3 ∣ accept

unfoldable pub stepped : Tables → Action → List ℕ → Outcome
stepped m a ws = outcome (kind_rules a then refusals m (op_of a)) m (op_of a) ws
