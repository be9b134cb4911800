-- What the code has on its way through a text.
use Rattle.std.specs.Prelude.{ℕ, ◌+◌, cond, List, [], ◌∷◌, Option, Some, None, eqb, ltb, set}
use Rattle.text.specs.Text.{well_shaped, bytes_of, feed}
use Rattle.text.specs.Line.{most}
use Rattle.text.specs.declared.line.Line.{Line}

-- ── what a line says: the bytes of a frame, or nothing ──
unfoldable pub heard : List ℕ → Option (List ℕ)
heard l = cond (well_shaped l) (Some (bytes_of l)) None

-- ── the unfinished line, a byte more, and many ──
unfoldable pub pushed : Line → ℕ → Line
pushed x b = cond (ltb x.count most) (record { count = x.count + 1; text = set x.text x.count b }) x

unfoldable pub added : Line → List ℕ → Line
added x [] = x
added x (b ∷ more) = added (pushed x b) more

-- ── how many lines ──
unfoldable pub feeds : List ℕ → ℕ
feeds [] = 0
feeds (b ∷ text) = cond (eqb b feed) 1 0 + feeds text
