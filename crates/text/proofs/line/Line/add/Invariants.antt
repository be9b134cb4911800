use Rattle.std.proofs.Common.{◌≡◌, drop}
use Rattle.text.specs.Walks.{added}
use Rattle.text.proofs.line.Line.add.Given as goal

abbrev pub invariant-loop-b : goal.invariant-loop-b
invariant-loop-b l = added l.self (drop l.b-index l.more) ≡ added l.initial.self l.more
