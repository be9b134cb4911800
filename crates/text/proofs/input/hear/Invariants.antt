use Rattle.text.proofs.TextLaws.{Spelt}
use Rattle.text.proofs.input.hear.Given as goal

abbrev pub invariant-loop-i : goal.invariant-loop-i
invariant-loop-i l = Spelt l.line l.bytes l.good l.i
