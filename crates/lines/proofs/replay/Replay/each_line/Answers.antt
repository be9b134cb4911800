-- `lines::replay::Replay::each_line` meets its contract.
use Rattle.std.proofs.Common.{◌≡◌, length, refl, arith, rules, ap, ◌∙◌}
use Rattle.text.specs.Answers.{answer_bytes}
use Rattle.text.proofs.Cuts.{end-inside, from-start}
use Rattle.text.proofs.LineLaws.{tidied, same_text}
use Rattle.lines.specs.Walks.{gone, way}
use Rattle.lines.proofs.TurnLaws.{turn-says}
use Rattle.lines.proofs.Along.{step_by, along-start, along-end, along-more, room-here}
use Rattle.lines.proofs.replay.Replay.each_line.Goals as goal

pub loop-end-init : goal.loop-end-init
loop-end-init c = along-start _ _ _ refl (tidied _ c.tidy-line.ensures) refl c.requires

pub overflow_add-rest : goal.overflow_add-rest
overflow_add-rest c = omega (arith, end-inside _ (from-start _ c.in-Some.ensures), c.loop-end.invariant.upto)

pub loop-end-preserved : goal.loop-end-preserved
unfolding answer_bytes
loop-end-preserved c = along-more _ _ _ c.loop-end.invariant (from-start _ c.in-Some.ensures) c.empty-line.ensures
    (step_by _ _ (room-here _ _ _ c.loop-end.invariant (from-start _ c.in-Some.ensures)) (turn-says _ _ c.hear_with.ensures c.turn-seen.ensures) c.put.ensures)

pub returns : goal.returns
returns c = let whole : length c.args.self.line.text ≡ 33 = search rules in
    along-end _ _ _ c.loop-end.invariant (from-start _ c.in_default.ensures) c.add-self.ensures
    ∙ ap (λ h. gone h c.args.bytes.now (way c.args.self c.args.mem.now c.args.out.now 0)) (same_text _ c.tidy-line.ensures whole)
