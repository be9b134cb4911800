-- Each branch is one of the laws of a line.
use Rattle.lines.specs.Pieces.{log_of}
use Rattle.lines.proofs.TurnLaws.{turn-bad, turn-boot, turn-taken}
use Rattle.lines.proofs.replay.Replay.turn.Goals as goal

pub returns-in_default : goal.returns-in_default
returns-in_default c = rw c.in_default.is (turn-bad _ c.refused.ensures)

pub returns-then-not-self : goal.returns-then-not-self
returns-then-not-self c = rw c.in-Some.is
    (turn-boot _ (log_of c.args.self.now c.args.mem.now) c.if-not-self.true c.boot.ensures c.accepted.ensures)

pub returns : goal.returns
returns c = rw c.in-Some.is (turn-taken _ (log_of c.args.self.now c.args.mem.now) c.if-not-self.false (rw c.decode.ensures at c.take_in_place.ensures))
