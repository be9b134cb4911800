-- Tests made of tests: the library's `not`, `&&` and `||`, which the code's `!`, `&` and `|` compute to. They are shut, so that
-- a law about `a and b` finds a and b by itself.
use Rattle.std.specs.Prelude.{Bool, not, ◌&&◌, ◌||◌}

infixr 35 ◌and◌
infixr 30 ◌or◌
unfoldable pub ◌and◌ : Bool → Bool → Bool
a and b = a && b

unfoldable pub ◌or◌ : Bool → Bool → Bool
a or b = a || b

unfoldable pub isnt : Bool → Bool
isnt a = not a
