-- A search along a list, and a test of each number below a bound.
use Rattle.std.specs.Prelude.{ℕ, zero, suc, Bool, true, cond, List, [], ◌∷◌}
use Rattle.numbers.specs.Tests.{◌and◌}

-- the place of the first row that passes the test, or the length where none does
unfoldable pub first : {A : Type 0} → (A → Bool) → List A → ℕ
first p [] = zero
first p (x ∷ t) = cond (p x) zero (suc (first p t))

-- the test passes at 0 .. n - 1
unfoldable pub upto : ℕ → (ℕ → Bool) → Bool
upto zero f = true
upto (suc n) f = f n and upto n f
