-- A log: what each line gets, and the whole output of a whole input. Lines are those of 01's "Frames".
use Rattle.std.specs.Prelude.{ℕ, Bool, true, false, cond, List, [], ◌∷◌, ◌++◌, replicate}
use Rattle.numbers.specs.Sizes.{memory_words}
use Rattle.numbers.specs.Frames.{big, decode}
use Rattle.numbers.specs.Answers.{wordless}
use Rattle.numbers.specs.declared.answers.Seen.{Seen}
use Rattle.text.specs.Text.{well_shaped, bytes_of, lines}
use Rattle.text.specs.Answers.{spelt}
use Rattle.tables.specs.State.{empty, boot}
use Rattle.tables.specs.declared.state.Tables.{Tables}
use Rattle.rules.specs.Calls.{taken}

-- the machine behind a log
pub record Log : Type 0 where
  pub booted : Bool
  pub tables : Tables
  pub memory : List ℕ

-- what a line gets, and what it leaves
pub record Turn : Type 0 where
  pub seen : Seen
  pub log : Log

-- the boot line: the mask of the hypervisor's pages, then the region's. Memory is kept
abbrev pub boots : List ℕ → Log → Turn
boots bytes s = record {
  seen = wordless 0;
  log = record { booted = true; tables = boot (big 8 bytes 0) (big 8 bytes 8); memory = s.memory };
}

-- a frame's line
abbrev pub acts : List ℕ → Log → Turn
acts bytes s = let o = taken s.tables (decode bytes) s.memory in record {
  seen = o.seen;
  log = record { booted = true; tables = o.tables; memory = o.memory };
}

-- a bad line
abbrev pub bad : Log → Turn
bad s = record { seen = wordless 3; log = s }

-- a bad line gets 3; the first one that is well shaped is the boot; all others are frames
unfoldable pub turn : Log → List ℕ → Turn
turn s l = cond (well_shaped l) (cond s.booted (acts (bytes_of l) s) (boots (bytes_of l) s)) (bad s)

-- ══ the answer line of one input line ══
abbrev pub answer_line : Turn → List ℕ
answer_line t = spelt t.seen

-- ══ line by line ══
unfoldable pub after_lines : Log → List (List ℕ) → Log
after_lines s [] = s
after_lines s (l ∷ later) = after_lines (turn s l).log later

unfoldable pub answers : Log → List (List ℕ) → List ℕ
answers s [] = []
answers s (l ∷ later) = answer_line (turn s l) ++ answers (turn s l).log later

-- ══ the replay program: nothing is booted, and memory is zeros ══
unfoldable pub start : Log
start = record { booted = false; tables = empty; memory = replicate memory_words 0 }

-- from the whole input to the whole output
unfoldable pub replay : List ℕ → List ℕ
replay input = answers start (lines input)
