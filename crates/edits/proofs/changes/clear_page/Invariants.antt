use mathlib.Core.Path.{◌≡◌}
use lib.ListN.{length}
use Rattle.numbers.specs.Addresses.{word_of}
use Rattle.rules.specs.Actions.{cleared}
use Rattle.edits.proofs.changes.clear_page.Given as goal

abbrev pub invariant-loop-n : goal.invariant-loop-n
invariant-loop-n l = (length l.mem ≡ length l.initial.mem) × (l.mem ≡ cleared l.n (word_of l.p 0) l.initial.mem)
