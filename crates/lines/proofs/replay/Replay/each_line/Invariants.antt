use Rattle.std.proofs.Common.{length}
use Rattle.lines.specs.Walks.{way}
use Rattle.lines.proofs.Along.{Along}
use Rattle.lines.proofs.replay.Replay.each_line.Given as goal

abbrev pub invariant-loop-end : goal.invariant-loop-end
invariant-loop-end l = Along l.initial.rest l.initial.line (way l.initial.self l.initial.mem l.initial.out l.initial.written) l.line l.rest (way l.self l.mem l.out l.written)

abbrev pub decreases-loop-end : goal.decreases-loop-end
decreases-loop-end l = length l.rest
