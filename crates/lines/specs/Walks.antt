-- A log as the code goes through it, and what stands on the way. The promises of public calls are in Pieces; these are of the parts.
use Rattle.std.specs.Prelude.{ℕ, ◌+◌, cond, List, [], ◌∷◌, Option, Some, None}
use Rattle.std.proofs.lemmas.List.Edits.{sets}
use Rattle.numbers.specs.declared.answers.Seen.{Seen}
use Rattle.text.specs.Text.{cut, unended}
use Rattle.text.specs.Answers.{answer_bytes}
use Rattle.text.specs.Line.{kept, held}
use Rattle.lines.specs.Log.{Log, Turn, boots, acts, bad, turn, answer_line}
use Rattle.lines.specs.Pieces.{Passed, log_of}
use Rattle.lines.specs.declared.replay.Replay.{Replay}

-- ── one line, by what it says ──
unfoldable pub answered : Option (List ℕ) → Log → Turn
answered None s = bad s
answered (Some bytes) s = cond s.booted (acts bytes s) (boots bytes s)

abbrev pub turned : Seen → Replay → List ℕ → Turn
turned x r ws = record { seen = x; log = log_of r ws }

-- ── lines, one after the other ──
pub record Way : Type 0 where
  pub log : Log
  pub out : List ℕ
  pub written : ℕ

abbrev pub way : Replay → List ℕ → List ℕ → ℕ → Way
way r ws out written = record { log = log_of r ws; out = out; written = written }

abbrev pub way_of : Passed → Way
way_of p = record { log = p.log; out = p.out; written = p.written }

unfoldable pub stepped : List ℕ → Way → Way
stepped l w = let t = turn w.log l in record {
  log = t.log;
  out = sets w.out w.written (answer_line t);
  written = w.written + answer_bytes;
}

unfoldable pub walked : List (List ℕ) → Way → Way
walked [] w = w
walked (l ∷ later) w = walked later (stepped l w)

-- a piece after the text that is held: its lines, and the text then held
abbrev pub held_by : List ℕ → Way → Passed
held_by l w = record { number = 0; written = w.written; line = kept l; log = w.log; out = w.out }

unfoldable pub gone : List ℕ → List ℕ → Way → Passed
gone so_far bytes w = let c = cut so_far bytes in held_by c.rest (walked c.ended w)

-- and the end of the log, where the text that is held is a line
unfoldable pub closed : Passed → Passed
closed p = held_by [] (walked (unended (held p.line)) (way_of p))
