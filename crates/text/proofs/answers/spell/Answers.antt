-- `text::answers::spell` meets its contract.
use Rattle.std.proofs.Common.{refl, ◌∙◌}
use Rattle.std.proofs.Math.ListN.{length-set}
use Rattle.text.proofs.AnswerLaws.{digit-first, digit-more, no-digits}
use Rattle.text.proofs.answers.spell.Goals as goal

pub loop-i-init : goal.loop-i-init
loop-i-init c = (refl, digit-first _ _)

pub loop-i-preserved : goal.loop-i-preserved
loop-i-preserved c = let l = c.loop-i in
    (length-set l.out _ _ ∙ l.invariant.0, digit-more _ _ _ l.invariant.1 c.loop-i-test.true c.glyph.ensures)

pub returns : goal.returns
returns c = no-digits _ _ _ c.loop-i.invariant.1 c.loop-i-test.false
