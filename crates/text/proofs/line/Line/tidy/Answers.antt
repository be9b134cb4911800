use Rattle.text.proofs.LineLaws.{tidy-by}
use Rattle.text.proofs.line.Line.tidy.Goals as goal

pub returns : goal.returns
returns c = tidy-by _ c.empty.ensures c.held.ensures c.add.ensures
