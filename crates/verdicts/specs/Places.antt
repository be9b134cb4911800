-- Where a row goes that is not to stand twice.
use Rattle.std.specs.Prelude.{ℕ, Bool, cond, List, Option, None, Some}
use Rattle.numbers.specs.Search.{first}
use Rattle.tables.specs.Table.{has}
use Rattle.tables.specs.Wants.{W}
use Rattle.verdicts.specs.declared.walks.Row.{Row}

-- at the lowest free place, or nowhere if it stands
abbrev pub new_place : (ℕ → Bool) → List ℕ → Option ℕ
new_place k t = cond (has W k t) None (Some (first W.free t))

-- and the row beside its place
abbrev pub new_row : (ℕ → Bool) → List ℕ → ℕ → Option Row
new_row k t w = cond (has W k t) None (Some (record { at = first W.free t; word = w }))
