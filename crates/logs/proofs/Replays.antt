-- A log cut anywhere comes to the same as the whole; and a log that starts in good order is refused only for want of room.
use mathlib.Core.Path.{◌≡◌, refl, sym, ap, ◌∙◌}
use mathlib.Core.Bool.{Bool, true}
use mathlib.Core.Logic.{◌⊎◌, inl, inr, ⊎_elim}
use mathlib.Core.List.{List, [], ◌∷◌, ◌++◌, map, flatten, append_assoc, map-append}
use Prim.Native.Nat.{ℕ, ◌*◌, ◌≤◌}
use native.Mathlib.Omega.{arith}
use lib.Dec.{eqb}
use lib.ListN.{length, take, length-replicate}
use lib.Seq.{take-take}
use borrow.Author.Tests.{eq-eqb, le-ltb}
use Rattle.numbers.specs.Sizes.{memory_words}
use Rattle.numbers.specs.Rules.{least}
use Rattle.numbers.specs.Frames.{decode}
use Rattle.numbers.proofs.Bools.{split, or_no, isnt-no}
use Rattle.numbers.proofs.RulesLaws.{least-applies, above}
use Rattle.text.specs.Text.{well_shaped, bytes_of, feed, Cut, cut, unended, all_lines, lines}
use Rattle.text.specs.Answers.{answer_bytes}
use Rattle.text.specs.Line.{most, kept, held}
use Rattle.text.specs.declared.line.Line.{Line}
use Rattle.text.proofs.Cuts.{cut-append}
use Rattle.text.proofs.LineLaws.{held_kept, held-nothing, take-grown}
use Rattle.tables.specs.State.{empty}
use Rattle.tables.specs.Wf.{wf}
use Rattle.tables.specs.declared.state.Tables.{Tables}
use Rattle.tables.proofs.WfAgrees.{wf-sound, wf-complete}
use Rattle.tables.proofs.BootWf.{empty-wf, wf-boot}
use Rattle.rules.specs.Calls.{action_rules}
use Rattle.rules.proofs.Lists.{next-wf}
use Rattle.rules.proofs.Lowest.{rising-action}
use Rattle.lines.specs.Log.{Log, Turn, turn, answer_line, after_lines, answers, start, replay}
use Rattle.lines.specs.Pieces.{lines_in, left_open, piece_rules, passed, piece, in_pieces, left_by_pieces}
use Rattle.lines.proofs.TurnLaws.{turn-short, turn-long}
use Rattle.lines.proofs.Walked.{after-append, answers-append}

-- ── lines that differ only past what is kept ──
abbrev short : List (List ℕ) → List (List ℕ)
short ls = map (take most) ls

answers-short : (s : Log) (ls : List (List ℕ)) → answers s (short ls) ≡ answers s ls
unfolding answers
answers-short s [] = refl
answers-short s (l ∷ ls) =
    ap (λ (t : Turn). answer_line t ++ answers t.log (short ls)) (turn-short s l)
    ∙ ap (λ (r : List ℕ). answer_line (turn s l) ++ r) (answers-short (turn s l).log ls)

after-short : (s : Log) (ls : List (List ℕ)) → after_lines s (short ls) ≡ after_lines s ls
unfolding after_lines
after-short s [] = refl
after-short s (l ∷ ls) = ap (λ (t : Turn). after_lines t.log (short ls)) (turn-short s l) ∙ after-short (turn s l).log ls

-- get the same answers, and lead to the same end
same-answers : (s : Log) (a b : List (List ℕ)) → short a ≡ short b → answers s a ≡ answers s b
same-answers s a b e = sym (answers-short s a) ∙ ap (answers s) e ∙ answers-short s b

same_end : (s : Log) (a b : List (List ℕ)) → short a ≡ short b → after_lines s a ≡ after_lines s b
same_end s a b e = sym (after-short s a) ∙ ap (after_lines s) e ∙ after-short s b

-- the same bytes after them
ended-alike : (h k b : List ℕ) → take most h ≡ take most k → short (cut h b).ended ≡ short (cut k b).ended
unfolding cut
ended-alike h k [] e = refl
ended-alike h k (x ∷ b) e = split (eqb x feed)
    (λ t. rw (t, e))
    (λ t. rw t (ended-alike (h ++ x ∷ []) (k ++ x ∷ []) b (take-grown h k (x ∷ []) e)))

rest-alike : (h k b : List ℕ) → take most h ≡ take most k → take most (cut h b).rest ≡ take most (cut k b).rest
unfolding cut
rest-alike h k [] e = e
rest-alike h k (x ∷ b) e = split (eqb x feed)
    (λ t. rw t)
    (λ t. rw t (rest-alike (h ++ x ∷ []) (k ++ x ∷ []) b (take-grown h k (x ∷ []) e)))

short-unended : (l : List ℕ) → short (unended l) ≡ unended (take most l)
unfolding unended most
short-unended [] = refl
short-unended (x ∷ l) = refl

short-all : (c : Cut) → short (all_lines c) ≡ short c.ended ++ unended (take most c.rest)
unfolding all_lines
short-all c =
    map-append (take most) c.ended (unended c.rest) ∙ ap (λ (r : List (List ℕ)). short c.ended ++ r) (short-unended c.rest)

all_alike : (h k b : List ℕ) → take most h ≡ take most k → short (all_lines (cut h b)) ≡ short (all_lines (cut k b))
all_alike h k b e = rw (short-all (cut h b), short-all (cut k b), ended-alike h k b e, rest-alike h k b e)

-- ── the lines that a log in pieces has ──
lines-by : Line → List (List ℕ) → List (List ℕ)
lines-by line [] = all_lines (cut (held line) [])
lines-by line (bytes ∷ later) = (cut (held line) bytes).ended ++ lines-by (kept (cut (held line) bytes).rest) later

by_lines : (pieces : List (List ℕ)) (line : Line) (s : Log) → in_pieces line s pieces ≡ answers s (lines-by line pieces)
unfolding in_pieces lines-by
by_lines [] line s = refl
by_lines (bytes ∷ later) line s =
    let c = cut (held line) bytes in
    rw (by_lines later (kept c.rest) (after_lines s c.ended), answers-append s c.ended (lines-by (kept c.rest) later))

left-by-lines : (pieces : List (List ℕ)) (line : Line) (s : Log) → left_by_pieces line s pieces ≡ after_lines s (lines-by line pieces)
unfolding left_by_pieces lines-by
left-by-lines [] line s = refl
left-by-lines (bytes ∷ later) line s =
    let c = cut (held line) bytes in
    rw (left-by-lines later (kept c.rest) (after_lines s c.ended), after-append s c.ended (lines-by (kept c.rest) later))

-- what is kept of a line counts as the line
held-alike : (h : List ℕ) → take most (held (kept h)) ≡ take most h
held-alike h = rw held_kept (take-take most most h (omega arith))

-- a text after another has the lines of both
all_append : (h a b : List ℕ) → all_lines (cut h (a ++ b)) ≡ (cut h a).ended ++ all_lines (cut (cut h a).rest b)
unfolding all_lines
all_append h a b = ap (λ (c : Cut). c.ended ++ unended c.rest) (cut-append h a b)
    ∙ append_assoc (cut h a).ended (cut (cut h a).rest b).ended (unended (cut (cut h a).rest b).rest)

lines-alike : (pieces : List (List ℕ)) (line : Line) → short (lines-by line pieces) ≡ short (all_lines (cut (held line) (flatten pieces)))
unfolding lines-by flatten
lines-alike [] line = refl
lines-alike (bytes ∷ later) line =
    let c = cut (held line) bytes in
    let x = c.ended in
    let y = lines-by (kept c.rest) later in
    let z = all_lines (cut c.rest (flatten later)) in
    let i : short y ≡ short z =
    lines-alike later (kept c.rest) ∙ all_alike (held (kept c.rest)) c.rest (flatten later) (held-alike c.rest) in
    map-append (take most) x y
    ∙ ap (λ (r : List (List ℕ)). short x ++ r) i
    ∙ sym (ap short (all_append (held line) bytes (flatten later)) ∙ map-append (take most) x z)

-- ── cut anywhere, the same ──
module _ (pieces : List (List ℕ)) (h : List ℕ) where
  whole-lines : short (lines-by (kept h) pieces) ≡ short (all_lines (cut h (flatten pieces)))
  whole-lines = lines-alike pieces (kept h) ∙ all_alike (held (kept h)) h (flatten pieces) (held-alike h)

  pub cut-anywhere : (s : Log) → in_pieces (kept h) s pieces ≡ answers s (all_lines (cut h (flatten pieces)))
  cut-anywhere s = by_lines pieces (kept h) s ∙ same-answers s _ _ whole-lines

  pub left-anywhere : (s : Log) → left_by_pieces (kept h) s pieces ≡ after_lines s (all_lines (cut h (flatten pieces)))
  left-anywhere s = left-by-lines pieces (kept h) s ∙ same_end s _ _ whole-lines

pub replay-in-pieces : (pieces : List (List ℕ)) → in_pieces (kept []) start pieces ≡ replay (flatten pieces)
unfolding replay
replay-in-pieces pieces = cut-anywhere pieces [] start

-- ── good order ──
abbrev Good : Log → Type 0
Good s = (wf s.tables ≡ true) × (length s.memory ≡ memory_words)

turn-good : (s : Log) (l : List ℕ) → Good s → Good (turn s l).log
unfolding turn
turn-good s l g = (
  split (well_shaped l)
      (λ t. split s.booted
      (λ b. rw (t, b) (wf-complete _ (next-wf s.tables (decode (bytes_of l)) (wf-sound _ g.0))))
      (λ b. rw (t, b) (wf-boot _ _)))
      (λ t. rw t g.0),
  turn-long s l ∙ g.1,
)

pub order-kept : (s : Log) (ls : List (List ℕ)) → wf s.tables ≡ true → length s.memory ≡ memory_words →
    (wf (after_lines s ls).tables ≡ true) × (length (after_lines s ls).memory ≡ memory_words)
unfolding after_lines
order-kept s [] w n = (w, n)
order-kept s (l ∷ ls) w n = let g = turn-good s l (w, n) in order-kept (turn s l).log ls g.0 g.1

-- so nothing is refused but for want of room
unrefused : (n : ℕ) (m : Tables) (memory room : ℕ) → wf m ≡ true → memory ≡ memory_words → n * answer_bytes ≤ room →
    least (piece_rules n m memory room) ≡ 0
unfolding least
unrefused n m memory room w e h = rw (or_no (isnt-no (eq-eqb memory memory_words e)) (le-ltb room (n * answer_bytes) h), isnt-no w)

pub never-refused : (last : Bool) (line : Line) (s : Log) (bytes out : List ℕ) → wf s.tables ≡ true → length s.memory ≡ memory_words →
    length (lines_in last (cut (held line) bytes)) * answer_bytes ≤ length out →
    piece last line s bytes out ≡ passed (lines_in last (cut (held line) bytes)) (left_open last (cut (held line) bytes)) s out
unfolding piece
never-refused last line s bytes out w e h =
    rw (unrefused (length (lines_in last (cut (held line) bytes))) s.tables (length s.memory) (length out) w e h)

-- nor a whole log in one call
start-good : Good start
unfolding start
start-good = (wf-complete empty empty-wf, length-replicate memory_words 0)

pub whole : (input out : List ℕ) → length (lines input) * answer_bytes ≤ length out →
    piece true (kept []) start input out ≡ passed (lines input) [] start out
whole input out h =
    let e = held-nothing in
    never-refused true (kept []) start input out start-good.0 start-good.1 (rw e h)
    ∙ ap (λ (l : List ℕ). passed (all_lines (cut l input)) [] start out) e

-- ── 1 and 2 are a call's own numbers: no line gets them ──
pub line-number : (s : Log) (l : List ℕ) → ((turn s l).seen.number ≡ 0) ⊎ (3 ≤ (turn s l).seen.number)
unfolding turn
line-number s l = split (well_shaped l)
    (λ t. split s.booted
    (λ b. let a = decode (bytes_of l) in let rules = action_rules s.tables a in
    rw (t, b) (⊎_elim (λ z. inl z) (λ h. inr (above 3 rules (rising-action s.tables a) h)) (least-applies rules)))
    (λ b. rw (t, b) (inl refl)))
    (λ t. rw t (inr (omega arith)))
