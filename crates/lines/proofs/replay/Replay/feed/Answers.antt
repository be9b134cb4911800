-- `lines::replay::Replay::feed` meets its contract.
use Rattle.std.proofs.Common.{false, refl, ◌∙◌, ap}
use Rattle.numbers.proofs.RefusalLaws.{refusal-not-0}
use Rattle.lines.specs.Pieces.{log_of, reached}
use Rattle.lines.proofs.Going.{refused-is, room-for-lines, fed-is}
use Rattle.lines.proofs.replay.Replay.feed.Goals as goal

pub returns-in-Err : goal.returns-in-Err
returns-in-Err c = let t = c.args in
    ap (λ r. reached r t.mem.now t.out.now) c.refused.ensures
    ∙ refused-is _ _ (log_of t.self t.mem.now) _ _ c.in-Err.ensures (refusal-not-0 c.in-Err.refusal)

pub each_line-requires : goal.each_line-requires
each_line-requires c = let t = c.args in
    room-for-lines false t.self.line (log_of t.self t.mem.now) t.bytes.now t.out.now c.in_default.ensures refl

pub returns : goal.returns
returns c = let t = c.args in
    fed-is _ _ (log_of t.self t.mem.now) _ t.out.now c.in_default.ensures refl c.each_line.ensures refl
