use Rattle.text.proofs.TextLaws.{added_more, added-end}
use Rattle.text.proofs.line.Line.add.Goals as goal

pub loop-b-preserved : goal.loop-b-preserved
loop-b-preserved c = added_more _ _ _ c.loop-b.invariant c.loop-b-test.true c.push.ensures

pub returns : goal.returns
returns c = added-end _ _ _ c.loop-b.invariant c.loop-b-test.false
