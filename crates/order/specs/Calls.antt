-- What the code has on the way: a closure that is passed in, by what its calls return.
use Rattle.std.specs.Prelude.{◌≡◌}

-- each call returns f of what it was passed
abbrev pub Gives : {A B : Type 0} → (A → B → Type 0) → (A → B) → Type 0
Gives {A} {B} post f = (x : A) (b : B) → post x b → b ≡ f x
