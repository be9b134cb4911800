-- `tables::search::seat` meets its contract.
use mathlib.Core.Path.{◌∙◌, sym}
use Rattle.numbers.proofs.SearchLaws.{position-some, position-none}
use Rattle.tables.specs.Wants.{W, meets}
use Rattle.tables.proofs.TableLaws.{seat-there, seat-new}
use Rattle.tables.proofs.search.seat.Goals as goal

pub returns-in-Some-clause-some : goal.returns-in-Some-clause-some
returns-in-Some-clause-some c =
    let h = position-some _ _ (sym c.in-Some.is ∙ c.first.ensures) in
    (seat-there W (meets c.args.want) _ h.0 h.1, h.1)

pub returns-in-None : goal.returns-in-None
returns-in-None c = rw (seat-new W (meets c.args.want) _ (position-none _ _ (sym c.in-None.is ∙ c.first.ensures))) c.free.ensures
