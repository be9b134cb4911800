-- `lines::replay::Fed::close` meets its contract.
use Rattle.std.proofs.Common.{◌≡◌, length, rules}
use Rattle.text.specs.Answers.{answer_bytes}
use Rattle.lines.specs.Pieces.{reached}
use Rattle.lines.specs.Walks.{closed}
use Rattle.lines.proofs.TurnLaws.{turn-says}
use Rattle.lines.proofs.Along.{closed_none, closed-one}
use Rattle.lines.proofs.replay.Fed.close.Goals as goal
use Rattle.lines.proofs.replay.Fed.close.Goals.{then-last-ne0, else-last-ne0}

pub returns : goal.returns
unfolding answer_bytes closed
returns c =
    let whole : length c.args.self.replay.line.text ≡ 33 = search rules in
    let p = reached c.args.self c.args.mem.now c.args.out.now in
    elim c.if-last-ne0.branch [
      | then-last-ne0 w ↦
          rw (w.mem-is, w.out-is, w.self-is, c.requires.accepted)
          (closed-one p c.empty-self.ensures w.if-last-ne0.true whole (c.requires.room w.if-last-ne0.true) (turn-says _ _ w.hear.ensures w.turn-seen.ensures) w.put.ensures)
      | else-last-ne0 w ↦ rw (w.mem-is, w.out-is, w.self-is, c.requires.accepted) (closed_none p c.empty-self.ensures w.if-last-ne0.false)
    ]
