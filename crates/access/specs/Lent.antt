-- An action in front of the tables, lent or not: its number, and for kinds 01 to 05, which leave the tables as they are, all of it.
use Rattle.std.specs.Prelude.{ℕ, List}
use Rattle.numbers.specs.Sizes.{guests, units, guest_words}
use Rattle.numbers.specs.Tests.{◌or◌}
use Rattle.numbers.specs.Rules.{Rules, least}
use Rattle.numbers.specs.Rules.Rules.{◌⇒◌∣◌}
use Rattle.numbers.specs.Frames.{off}
use Rattle.numbers.specs.declared.answers.Seen.{Seen}
use Rattle.numbers.specs.declared.frames.Action.{Action}
use Rattle.tables.specs.State.{nothing}
use Rattle.tables.specs.declared.state.Tables.{Tables}
use Rattle.tables.specs.declared.state.Side.{Side}
use Rattle.tables.specs.declared.state.Side.TheVariants.{Cpu, Iommu}
use Rattle.rules.specs.Actions.{Op, refusals, absent, elsewhere, seen, Outcome, acted}
use Rattle.rules.specs.Actions.Op.{Read, Write, HyperCall}
use Rattle.rules.specs.Calls.{chosen}
use Rattle.rules.specs.Calls.Arms.{◌does◌∣◌, otherwise}
use Rattle.access.specs.declared.guests.Ask.{Ask}

-- the number of an action by itself: the lowest that applies, or 0
unfoldable pub number : Tables → Op → ℕ
number m o = least (refusals m o)

-- what stands of an outcome beside the tables
pub record Observed : Type 0 where
  pub seen : Seen
  pub memory : List ℕ

abbrev pub observed : Outcome → Observed
observed o = record { seen = o.seen; memory = o.memory }

unfoldable pub served : Tables → Op → List ℕ → Observed
served m o ws = observed (acted m o ws)

abbrev pub left : Seen → List ℕ → Observed
left s ws = record { seen = s; memory = ws }

-- kinds 01 to 05 by their own rules; any other byte is served as 03
abbrev pub guest_op : Action → Op
guest_op a =
    chosen a.kind (
    0x01 does Read Cpu a.guest a.second a.address ∣
    0x02 does Write Cpu a.guest a.second a.address a.word ∣
    0x04 does Read Iommu a.guest a.second a.address ∣
    0x05 does Write Iommu a.guest a.second a.address a.word ∣
    otherwise (HyperCall a.guest a.second a.word))

-- the refusals of an access up to 9, and then the later ones
abbrev pub access_rules : Side → Tables → Ask → Rules → Rules
access_rules d m q later =
    off q.guest guests or off q.unit units or off q.address guest_words ⇒ 4 ∣
    absent m q.guest ⇒ 6 ∣
    elsewhere d m q.unit q.guest ⇒ 8 ∣
    nothing (seen d m q.guest q.unit q.address) ⇒ 9 ∣
    later
