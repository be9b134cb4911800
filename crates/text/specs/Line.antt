-- The unfinished line: of its bytes one more is kept than a line of good shape has, so a line of any length costs no more room, and too long
-- stays too long.
use Rattle.std.specs.Prelude.{ℕ, zero, suc, min, List, [], ◌∷◌, length, take}
use Rattle.text.specs.Text.{line_digits}
use Rattle.text.specs.declared.line.Line.{Line}

unfoldable pub most : ℕ
most = suc line_digits

-- the first n bytes of a text, with zeros behind it where it has fewer
unfoldable pub padded : ℕ → List ℕ → List ℕ
padded zero l = []
padded (suc n) [] = 0 ∷ padded n []
padded (suc n) (b ∷ l) = b ∷ padded n l

unfoldable pub kept : List ℕ → Line
kept l = record { count = min (length l) most; text = padded most l }

-- the text that is kept
unfoldable pub held : Line → List ℕ
held x = take x.count x.text
