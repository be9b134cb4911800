use Rattle.std.proofs.Common.{◌≡◌, take, eqb}
use Rattle.std.specs.List.{count_by}
use Rattle.text.specs.Text.{feed}
use Rattle.text.proofs.input.feeds.Given as goal

abbrev pub invariant-loop-b : goal.invariant-loop-b
invariant-loop-b l = l.n ≡ count_by (λ b. eqb b feed) (take l.b-index l.bytes)
