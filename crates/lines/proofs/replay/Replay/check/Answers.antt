-- `lines::replay::Replay::check` meets its contract.
use Rattle.std.proofs.Common.{arith}
use Rattle.text.proofs.TextLaws.{feeds-le}
use Rattle.lines.proofs.Fronts.{own-1, own-2, own-0, one-at-most}
use Rattle.lines.proofs.replay.Replay.check.Goals as goal

pub overflow_add-lines : goal.overflow_add-lines
overflow_add-lines c = omega (arith, feeds-le c.args.bytes.now, one-at-most _ c.from.ensures)

pub returns-then-memory-room : goal.returns-then-memory-room
returns-then-memory-room c = let t = c.args in
    own-1 t.last _ _ t.self.tables _ _ c.feeds.ensures c.is_open.ensures c.from.ensures c.if-memory-room.true

pub returns-then-not-wf : goal.returns-then-not-wf
returns-then-not-wf c = let last = c.args.last in
    own-2 last _ _ _ _ _ c.feeds.ensures c.is_open.ensures c.from.ensures c.if-memory-room.false c.if-not-wf.ensures

pub returns : goal.returns
returns c = let last = c.args.last in
    own-0 last _ _ _ _ _ c.feeds.ensures c.is_open.ensures c.from.ensures c.if-memory-room.false c.if-not-wf.ensures
