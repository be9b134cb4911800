-- "The lowest number that applies is given, and none otherwise": refusals in order, a condition and its number each. The first
-- whose condition holds is the answer; 0 where none holds.
use Rattle.std.specs.Prelude.{ℕ, Bool, cond}

infixr 10 ◌⇒◌∣◌
pub data Rules : Type 0 where
  accept : Rules
  ◌⇒◌∣◌ : Bool → ℕ → Rules → Rules

unfoldable pub least : Rules → ℕ
least accept = 0
least (bad ⇒ n ∣ later) = cond bad n (least later)
