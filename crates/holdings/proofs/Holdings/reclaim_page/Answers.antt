-- `holdings::Holdings::reclaim_page` meets its contract.
use Rattle.edits.proofs.Answered.{refused_out}
use Rattle.holdings.proofs.Holdings.reclaim_page.Goals as goal

pub returns-in-Err : goal.returns-in-Err
returns-in-Err c = refused_out _ _ _ c.refused.ensures c.lend.ensures c.in-Err.ensures
