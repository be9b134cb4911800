-- `holdings::Holdings::assign_page` meets its contract.
use mathlib.Core.Path.{refl, ◌∙◌}
use Rattle.edits.proofs.Answered.{holder_is}
use Rattle.edits.proofs.Answered.{refused_out, accepted_out}
use Rattle.holdings.proofs.Holdings.assign_page.Goals as goal

pub returns-in-Err : goal.returns-in-Err
returns-in-Err c = refused_out _ _ _ c.refused.ensures c.lend.ensures c.in-Err.ensures _

pub returns : goal.returns
returns c = accepted_out _ _ c.accepted.ensures c.lend.ensures c.in_default.ensures
    (c.set_holder.ensures ∙ rw (holder_is c.args.self.tables _ c.lend.ensures c.in_default.ensures c.args.g _ refl c.holder.ensures)) _ refl c.clear_page.ensures
