-- What the code has on the way to a change of a table.
use Rattle.std.specs.Prelude.{ℕ, Bool, List, ◌++◌, take, drop}
use Rattle.tables.specs.Table.{Shape, wipe}

module _ {A : Type 0} (K : Shape A) where
  -- every hit from place n on is removed
  unfoldable pub wipe_from : (A → Bool) → ℕ → List A → List A
  wipe_from k n t = take n t ++ wipe K k (drop n t)
