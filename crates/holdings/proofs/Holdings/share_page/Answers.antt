-- `holdings::Holdings::share_page` meets its contract.
use mathlib.Core.List.{List}
use mathlib.Core.Path.{refl, sym, ap, ◌∙◌}
use Prim.Native.Nat.{ℕ}
use Rattle.rules.specs.Parts.{with_pairs}
use Rattle.numbers.proofs.Bools.{cond-true, cond-false}
use Rattle.tables.specs.Table.{place}
use Rattle.tables.specs.declared.state.Tables.{Tables}
use Rattle.verdicts.proofs.PlaceLaws.{nowhere, somewhere, place-of, word-of}
use Rattle.edits.proofs.Answered.{refused_out, accepted_out}
use Rattle.holdings.proofs.Holdings.share_page.Goals as goal

pub returns-in-Err : goal.returns-in-Err
returns-in-Err c = refused_out _ _ _ c.refused.ensures c.lend.ensures c.in-Err.ensures.number

pub returns-in-Ok-None : goal.returns-in-Ok-None
returns-in-Ok-None c =
    let m = c.args.self.tables in
    let pairs = ap (λ (t : Tables). t.pairs) c.lend.ensures in
    let stands = rw pairs at (nowhere _ _ (place-of _ _ _ (sym c.in-Ok-None.field-0-is ∙ c.in-Ok-None.ensures.row))) in
    λ (ws : List ℕ). accepted_out _ _ c.accepted.ensures c.lend.ensures c.in-Ok-None.ensures.number (ap (with_pairs m) (sym (cond-true stands _ _))) ws refl refl

pub returns-in-Ok-Some : goal.returns-in-Ok-Some
unfolding place
returns-in-Ok-Some c =
    let m = c.args.self.tables in
    let pairs = ap (λ (t : Tables). t.pairs) c.lend.ensures in
    let new = sym c.in-Ok-Some.field-0-is ∙ c.in-Ok-Some.ensures.row in
    let free = rw pairs at (somewhere _ _ (place-of _ _ _ new)) in
    λ (ws : List ℕ). accepted_out _ _ c.accepted-in-Ok-Some.ensures c.lend.ensures c.in-Ok-Some.ensures.number
    (ap (with_pairs m) (c.set.ensures ∙ rw (word-of _ _ _ new, free.1, cond-false free.0))) ws refl refl
