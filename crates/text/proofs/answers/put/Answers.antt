-- `text::answers::put` meets its contract.
use Rattle.std.proofs.Common.{arith}
use Rattle.text.specs.Text.{feed}
use Rattle.text.specs.Answers.{answer_bytes}
use Rattle.text.proofs.AnswerLaws.{not-placed, put_whole}
use Rattle.text.proofs.answers.put.Goals as goal

pub returns-then-saturating_sub-lt-BYTES : goal.returns-then-saturating_sub-lt-BYTES
unfolding answer_bytes
returns-then-saturating_sub-lt-BYTES c = not-placed _ _ _ (omega arith)

pub returns : goal.returns
unfolding feed answer_bytes
returns c = put_whole _ _ c.args.seen (omega arith) (rw c.from.ensures at c.spell.ensures) c.spell-2.ensures
