-- `calls::referee::Referee::take` meets its contract.
use mathlib.Core.Path.{◌∙◌}
use Rattle.numbers.proofs.RefusalLaws.{refusal-not-0}
use Rattle.calls.proofs.DispatchLaws.{stepped_is}
use Rattle.calls.proofs.FrontLaws.{frame_refused}
use Rattle.calls.proofs.referee.Referee.take.Goals as goal

pub returns-in-Err : goal.returns-in-Err
returns-in-Err c = rw c.refused.ensures (frame_refused _ _ _ c.in-Err.ensures (refusal-not-0 _))

pub returns : goal.returns
returns c = c.step.ensures ∙ stepped_is _ _ _ c.in_default.ensures
