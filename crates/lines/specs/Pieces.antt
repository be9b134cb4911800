-- A log over lent bytes, a piece at a time: the line that a piece leaves open is kept for the next one.
use Rattle.std.specs.Prelude.{ℕ, ◌*◌, Bool, cond, List, [], ◌∷◌, ◌++◌, eqb, ltb, length, drop}
use Rattle.numbers.specs.Sizes.{memory_words}
use Rattle.numbers.specs.Tests.{◌or◌, isnt}
use Rattle.numbers.specs.Rules.{Rules, least}
use Rattle.numbers.specs.Rules.Rules.{accept, ◌⇒◌∣◌}
use Rattle.tables.specs.Wf.{wf}
use Rattle.tables.specs.declared.state.Tables.{Tables}
use Rattle.text.specs.Text.{Cut, cut, all_lines}
use Rattle.text.specs.Answers.{answer_bytes}
use Rattle.text.specs.Line.{kept, held}
use Rattle.text.specs.declared.line.Line.{Line}
use Rattle.lines.specs.Log.{Log, after_lines, answers}
use Rattle.lines.specs.declared.replay.Replay.{Replay}
use Rattle.lines.specs.declared.replay.Fed.{Fed}

-- ── one call ──
-- the lines that a piece ends; the last piece ends its last line too
abbrev pub lines_in : Bool → Cut → List (List ℕ)
lines_in last c = cond last (all_lines c) c.ended

abbrev pub left_open : Bool → Cut → List ℕ
left_open last c = cond last [] c.rest

-- 1: memory, or less room than the answers to n lines need; 2: tables not well formed
abbrev pub piece_rules : ℕ → Tables → ℕ → ℕ → Rules
piece_rules n m memory room =
    isnt (eqb memory memory_words) or ltb room (n * answer_bytes) ⇒ 1 ∣
    isnt (wf m) ⇒ 2 ∣
    accept

-- what a call leaves: its number, how many bytes it wrote, the line left open, the machine, the output room
pub record Passed : Type 0 where
  pub number : ℕ
  pub written : ℕ
  pub line : Line
  pub log : Log
  pub out : List ℕ

abbrev pub refused : ℕ → Line → Log → List ℕ → Passed
refused n line s out = record { number = n; written = 0; line = line; log = s; out = out }

-- the answers to the lines stand at the start of the room; what is beyond them is kept
abbrev pub passed : List (List ℕ) → List ℕ → Log → List ℕ → Passed
passed ls rest s out = record {
  number = 0;
  written = length (answers s ls);
  line = kept rest;
  log = after_lines s ls;
  out = answers s ls ++ drop (length (answers s ls)) out;
}

unfoldable pub piece : Bool → Line → Log → List ℕ → List ℕ → Passed
piece last line s bytes out =
    let c = cut (held line) bytes in
    let own = least (piece_rules (length (lines_in last c)) s.tables (length s.memory) (length out)) in
    cond (eqb own 0) (passed (lines_in last c) (left_open last c) s out) (refused own line s out)

-- ── the structs of the code, beside what is lent ──
abbrev pub log_of : Replay → List ℕ → Log
log_of r ws = record { booted = r.booted; tables = r.tables; memory = ws }

abbrev pub reached : Fed → List ℕ → List ℕ → Passed
reached r ws out = record { number = r.number; written = r.written; line = r.replay.line; log = log_of r.replay ws; out = out }

-- ── a log in pieces: what is written by a call for each piece and then one for the end ──
unfoldable pub in_pieces : Line → Log → List (List ℕ) → List ℕ
in_pieces line s [] = answers s (all_lines (cut (held line) []))
in_pieces line s (bytes ∷ later) =
    let c = cut (held line) bytes in answers s c.ended ++ in_pieces (kept c.rest) (after_lines s c.ended) later

-- and where the machine then stands
unfoldable pub left_by_pieces : Line → Log → List (List ℕ) → Log
left_by_pieces line s [] = after_lines s (all_lines (cut (held line) []))
left_by_pieces line s (bytes ∷ later) =
    let c = cut (held line) bytes in left_by_pieces (kept c.rest) (after_lines s c.ended) later
