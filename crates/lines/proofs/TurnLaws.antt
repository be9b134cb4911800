-- One line: what it gets, by what it says, and by what of it is kept.
use mathlib.Core.Path.{◌≡◌, refl, sym, ap, ◌∙◌}
use mathlib.Core.Bool.{true, false}
use mathlib.Core.List.{List}
use Prim.Native.Nat.{ℕ}
use lib.ListN.{length, take}
use Rattle.std.specs.Prelude.{Option, Some, None}
use Rattle.numbers.specs.Frames.{big, decode}
use Rattle.numbers.specs.Answers.{wordless}
use Rattle.numbers.specs.declared.answers.Seen.{Seen}
use Rattle.numbers.proofs.Bools.{split}
use Rattle.text.specs.Text.{well_shaped, bytes_of}
use Rattle.text.specs.Line.{most}
use Rattle.text.specs.declared.line.Line.{Line}
use Rattle.text.specs.Walks.{heard}
use Rattle.text.proofs.LineLaws.{heard-take}
use Rattle.tables.specs.State.{boot}
use Rattle.tables.specs.declared.state.Tables.{Tables}
use Rattle.rules.specs.Actions.{Outcome, does}
use Rattle.rules.specs.Calls.{op_of, action_rules, taken}
use Rattle.rules.proofs.Words.{length-touched}
use Rattle.lines.specs.Log.{Log, Turn, turn}
use Rattle.lines.specs.Walks.{turned, answered}
use Rattle.lines.specs.declared.replay.Replay.{Replay}

-- memory keeps its length
pub turn-long : (s : Log) (l : List ℕ) → length (turn s l).log.memory ≡ length s.memory
unfolding turn
turn-long s l = split (well_shaped l)
    (λ t. split s.booted
    (λ b. let a = decode (bytes_of l) in rw (t, b) (length-touched (does (action_rules s.tables a) s.tables (op_of a)) s.memory))
    (λ b. rw (t, b)))
    (λ t. rw t)

-- ── by what it says ──
pub turn-heard : (s : Log) (l : List ℕ) → answered (heard l) s ≡ turn s l
unfolding answered heard turn
turn-heard s l = split (well_shaped l) (λ t. rw t) (λ t. rw t)

pub turn-says : (s : Log) (l : List ℕ) {h : Option (List ℕ)} {t : Turn} → h ≡ heard l → t ≡ answered h s → t ≡ turn s l
turn-says s l q e = e ∙ ap (λ (h : Option (List ℕ)). answered h s) q ∙ turn-heard s l

-- of a line that is too long less is kept, and means the same
pub turn-short : (s : Log) (l : List ℕ) → turn s (take most l) ≡ turn s l
turn-short s l = sym (turn-heard s (take most l)) ∙ turn-says s l (heard-take l) refl

pub turn-bad : (s : Log) {x : Seen} → x ≡ wordless 3 → record { seen = x; log = s } ≡ answered None s
unfolding answered
turn-bad s e = rw e

module _ (bytes : List ℕ) (s : Log) where
  pub turn-boot : {r : Replay} {x : Seen} {line : Line} → s.booted ≡ false →
      r ≡ record { line = line; booted = true; tables = boot (big 8 bytes 0) (big 8 bytes 8) } → x ≡ wordless 0 →
      turned x r s.memory ≡ answered (Some bytes) s
  unfolding answered
  turn-boot b e x = rw (b, e, x)

  pub turn-taken : s.booted ≡ true → {x : Seen} {m : Tables} {vs : List ℕ} → record { seen = x; tables = m; memory = vs } ≡ taken s.tables (decode bytes) s.memory →
      record { seen = x; log = record { booted = s.booted; tables = m; memory = vs } } ≡ answered (Some bytes) s
  unfolding answered
  turn-taken b e = rw b (ap (λ (o : Outcome). record { seen = o.seen; log = record { booted = true; tables = o.tables; memory = o.memory } }) e)
