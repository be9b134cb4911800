use mathlib.Core.Path.{◌≡◌}
use Rattle.rules.specs.Calls.{action_at}
use Rattle.lists.specs.Lists.{ended, went}
use Rattle.lists.proofs.run_actions.Given as goal

abbrev pub invariant-loop-i : goal.invariant-loop-i
invariant-loop-i l = ended l.ran l.mem l.numbers l.words ≡ went (action_at l.actions) l.i (ended l.initial.ran l.initial.mem l.initial.numbers l.initial.words)
