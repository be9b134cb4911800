-- What a piece wrote lies within its room.
use Rattle.lines.proofs.Going.{written-counts}
use Rattle.stream.proofs.answer.Goals as goal

pub returns-then-is_empty : goal.returns-then-is_empty
returns-then-is_empty c = written-counts _ _ _ _ _ c.end.ensures

pub returns : goal.returns
returns c = written-counts _ _ _ _ _ c.feed.ensures
