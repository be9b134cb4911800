-- What a method answers, as the rules say it.
use Rattle.std.specs.Prelude.{ℕ, cond, List, ltb}
use Rattle.numbers.specs.Sizes.{guests}
use Rattle.tables.specs.State.{nobody, guest}
use Rattle.rules.specs.Actions.{Outcome}
use Rattle.edits.specs.declared.out.Out.{Out}

-- a method's answer, beside the memory as it leaves it
abbrev pub after : Out → List ℕ → Outcome
after r ws = record { seen = r.seen; tables = r.tables; memory = ws }

-- a guest as a holder; one out of range is nobody
abbrev pub who_is : ℕ → ℕ
who_is g = cond (ltb g guests) (guest g) nobody
