-- A list of actions as the code goes through it, and what it comes to.
use Rattle.std.specs.Prelude.{ℕ, zero, suc, ◌+◌, Bool, cond, List, eqb, ltb, set}
use Rattle.numbers.specs.Sizes.{memory_words}
use Rattle.numbers.specs.Tests.{◌or◌, isnt}
use Rattle.numbers.specs.Rules.{Rules, least}
use Rattle.numbers.specs.Rules.Rules.{accept, ◌⇒◌∣◌}
use Rattle.numbers.specs.declared.frames.Action.{Action}
use Rattle.tables.specs.Wf.{wf}
use Rattle.tables.specs.declared.state.Tables.{Tables}
use Rattle.rules.specs.Actions.{Outcome}
use Rattle.rules.specs.Calls.{taken}
use Rattle.rules.specs.Calls as calls
use Rattle.lists.specs.declared.Ran.{Ran}

-- a list's answer, beside what is lent as it leaves it
abbrev pub ended : Ran → List ℕ → List ℕ → List ℕ → calls.Ran
ended r ws numbers words = record {
  number = r.number;
  handled = r.handled;
  accepted = r.accepted;
  tables = r.tables;
  memory = ws;
  numbers = numbers;
  words = words;
}

-- one action, which comes to o: its answer at place i
abbrev pub placed : ℕ → calls.Ran → Outcome → calls.Ran
placed i l o = record {
  number = l.number;
  handled = l.handled;
  accepted = l.accepted + cond (eqb o.seen.number 0) 1 0;
  tables = o.tables;
  memory = o.memory;
  numbers = set l.numbers i o.seen.number;
  words = set l.words i o.seen.word;
}

unfoldable pub handled : Action → ℕ → calls.Ran → calls.Ran
handled a i l = placed i l (taken l.tables a l.memory)

-- the first n of a list
unfoldable pub went : (ℕ → Action) → ℕ → calls.Ran → calls.Ran
went f zero l = l
went f (suc n) l = handled (f n) n (went f n l)

-- the list's own number, from the lengths of what is lent
abbrev pub own_rules : Bool → ℕ → Tables → ℕ → ℕ → ℕ → Rules
own_rules odd n m memory numbers words =
    odd or isnt (eqb memory memory_words) or ltb numbers n or ltb words n ⇒ 1 ∣
    isnt (wf m) ⇒ 2 ∣
    accept

-- before the first: none has gone, and all will be handled or none
unfoldable pub begun : Bool → ℕ → Tables → ℕ → ℕ → ℕ → Ran
begun odd n m memory numbers words =
    let own = least (own_rules odd n m memory numbers words) in record { number = own; handled = cond (eqb own 0) n 0; accepted = 0; tables = m }
