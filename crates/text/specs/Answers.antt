-- An answer line: what an answer carries, as digits.
use Rattle.std.specs.Prelude.{ℕ, ◌+◌, cond, List, [], ◌∷◌, ◌++◌, leb, length}
use Rattle.std.proofs.lemmas.List.Edits.{sets}
use Rattle.numbers.specs.declared.answers.Seen.{Seen}
use Rattle.text.specs.Text.{digits, feed}

-- 2 digits of number, 16 of word, a line feed
unfoldable pub spelt : Seen → List ℕ
spelt s = digits 2 s.number ++ digits 16 s.word ++ feed ∷ []

-- how many bytes that are
unfoldable pub answer_bytes : ℕ
answer_bytes = 19

-- a line written at a place: all of it, or nothing where it does not fit
unfoldable pub placed : List ℕ → ℕ → List ℕ → List ℕ
placed out at line = cond (leb (at + length line) (length out)) (sets out at line) out
