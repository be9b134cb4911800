use Rattle.numbers.proofs.SearchLaws.{Passed}
use Rattle.numbers.specs.Frames.{kinds, of_kind}
use Rattle.numbers.proofs.frames.row_of.Given as goal

abbrev pub invariant-loop-row : goal.invariant-loop-row
invariant-loop-row l = Passed (of_kind l.kind) kinds l.row-index
