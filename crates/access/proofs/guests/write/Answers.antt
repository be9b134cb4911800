-- `access::guests::write` meets its contract.
use Rattle.std.proofs.lemmas.Result.{err_from_is_err_and}
use mathlib.Core.Path.{refl, sym, ap, ◌∙◌}
use Rattle.tables.specs.Lent.{tables_of}
use Rattle.tables.specs.State.{can_write}
use Rattle.std.specs.Prelude.{Option, ℕ}
use Rattle.rules.specs.Actions.{seen, word_at}
use Rattle.rules.specs.Actions.Op.{Write}
use Rattle.access.specs.Lent.{access_rules}
use Rattle.access.proofs.AccessLaws.{refused-early, refused-10, allowed}
use Rattle.access.proofs.guests.write.Goals as goal

pub returns-in_err-entry : goal.returns-in_err-entry
returns-in_err-entry c =
    let t = c.args in
    let m = tables_of t.t in
    let p = err_from_is_err_and c.from_residual.result c.from_residual.ensures.1 in
    rw (p.1, p.2) (refused-early m (Write t.side t.ask.guest t.ask.unit t.ask.address t.word) (access_rules t.side m t.ask) (can_write (seen t.side m t.ask.guest t.ask.unit t.ask.address)) refl _ c.in_err-entry.field-0.0 c.in_err-entry.ensures.err)

pub returns-in_err-when : goal.returns-in_err-when
returns-in_err-when c =
    let t = c.args in
    let m = tables_of t.t in
    let p = err_from_is_err_and c.from_residual-in_err-when.result c.from_residual-in_err-when.ensures.1 in
    rw (p.1, p.2, c.in_err-when.ensures.err.1)
    (refused-10 m (Write t.side t.ask.guest t.ask.unit t.ask.address t.word) (access_rules t.side m t.ask) (can_write (seen t.side m t.ask.guest t.ask.unit t.ask.address)) refl _
    c.in_ok-entry.ensures.ok (c.writable.ensures ∙ ap can_write (sym c.in_ok-entry.ensures.word)) c.in_err-when.ensures.err.0)

pub returns : goal.returns
returns c =
    let t = c.args in
    let m = tables_of t.t in
    let at = c.place.ensures ∙ ap (λ (s : Option ℕ). word_at s t.ask.address) (sym c.in_ok-entry.ensures.word) in
    rw (c.set.ensures, at)
    (allowed m (Write t.side t.ask.guest t.ask.unit t.ask.address t.word) (access_rules t.side m t.ask) (can_write (seen t.side m t.ask.guest t.ask.unit t.ask.address)) refl _
    c.in_ok-entry.ensures.ok (c.writable.ensures ∙ ap can_write (sym c.in_ok-entry.ensures.word)) c.in_ok-when.ensures.ok)
