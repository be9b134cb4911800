-- A log as text: its lines, and what their hexadecimal digits spell.
use Rattle.std.specs.Prelude.{ℕ, zero, suc, ◌+◌, ◌-◌, ◌*◌, ◌/◌, ◌%◌, Bool, true, cond, List, [], ◌∷◌, ◌++◌, eqb, leb, ltb, length}
use Rattle.numbers.specs.Sizes.{frame_bytes}
use Rattle.numbers.specs.Tests.{◌and◌}

-- ── digits ──
-- the value of a digit, 0 to 9 or a to f; 16 for any other byte
unfoldable pub digit : ℕ → ℕ
digit b = cond (leb 48 b and leb b 57) (b - 48) (cond (leb 97 b and leb b 102) (b - 87) 16)

-- the digit of a value
unfoldable pub glyph : ℕ → ℕ
glyph d = cond (ltb d 10) (48 + d) (87 + d)

-- the last n digits of a number, highest first
unfoldable pub digits : ℕ → ℕ → List ℕ
digits zero w = []
digits (suc n) w = digits n (w / 16) ++ glyph (w % 16) ∷ []

-- ── one line ──
-- two digits for each byte of a frame
unfoldable pub line_digits : ℕ
line_digits = 2 * frame_bytes

unfoldable pub all_digits : List ℕ → Bool
all_digits [] = true
all_digits (b ∷ l) = ltb (digit b) 16 and all_digits l

unfoldable pub well_shaped : List ℕ → Bool
well_shaped l = eqb (length l) line_digits and all_digits l

-- the bytes that digits spell, two digits a byte, the higher one first
unfoldable pub bytes_of : List ℕ → List ℕ
bytes_of [] = []
bytes_of (a ∷ []) = []
bytes_of (a ∷ b ∷ l) = (digit a * 16 + digit b) ∷ bytes_of l

-- ── the lines of a text ──
unfoldable pub feed : ℕ
feed = 10

-- the lines that a line feed ends, and the bytes after the last one
pub record Cut : Type 0 where
  pub ended : List (List ℕ)
  pub rest : List ℕ

abbrev ends : List ℕ → Cut → Cut
ends l c = record { ended = l ∷ c.ended; rest = c.rest }

-- `so_far` are the bytes of the first line that came before
unfoldable pub cut : List ℕ → List ℕ → Cut
cut so_far [] = record { ended = []; rest = so_far }
cut so_far (b ∷ text) = cond (eqb b feed) (ends so_far (cut [] text)) (cut (so_far ++ b ∷ []) text)

-- bytes after the last line feed are a line too; if there are none, there is no such line
unfoldable pub unended : List ℕ → List (List ℕ)
unended [] = []
unended (b ∷ l) = (b ∷ l) ∷ []

unfoldable pub all_lines : Cut → List (List ℕ)
all_lines c = c.ended ++ unended c.rest

abbrev pub lines : List ℕ → List (List ℕ)
lines text = all_lines (cut [] text)
