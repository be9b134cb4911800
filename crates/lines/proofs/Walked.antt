-- From the walk of the code to what is promised.
use mathlib.Core.Path.{◌≡◌, refl, sym, ap, ◌∙◌}
use mathlib.Core.List.{List, [], ◌∷◌, ◌++◌, append_assoc, append-nil}
use Prim.Native.Nat.{ℕ, ◌+◌, ◌*◌, ◌≤◌}
use native.Mathlib.Omega.{arith}
use lib.ListN.{length, take, drop, length-append}
use lib.Seq.{sets, sets-eq, take-append_seam, drop-append-add, drop-drop, length-take-le, length_front}
use Rattle.text.specs.Text.{Cut, cut, unended, all_lines}
use Rattle.text.specs.Answers.{answer_bytes}
use Rattle.text.specs.Line.{most, held}
use Rattle.text.specs.declared.line.Line.{Line}
use Rattle.text.proofs.AnswerLaws.{length-spelt}
use Rattle.text.proofs.LineLaws.{held_kept}
use Rattle.lines.specs.Log.{Log, turn, answer_line, after_lines, answers}
use Rattle.lines.specs.Pieces.{passed}
use Rattle.lines.specs.Walks.{Way, stepped, walked, held_by, gone, closed}
use Rattle.lines.proofs.TurnLaws.{turn-short}

-- ── lengths ──
pub length-answers : (s : Log) (ls : List (List ℕ)) → length (answers s ls) ≡ length ls * answer_bytes
unfolding answers answer_bytes
length-answers s [] = refl
length-answers s (l ∷ later) =
    let t = turn s l in
    let i = length-answers t.log later in
    let n = length-spelt t.seen in
    length-append (answer_line t) (answers t.log later) ∙ omega arith

-- ── lines after lines ──
pub walked-append : (a b : List (List ℕ)) (w : Way) → walked (a ++ b) w ≡ walked b (walked a w)
unfolding walked
walked-append [] b w = refl
walked-append (l ∷ a) b w = walked-append a b (stepped l w)

pub after-append : (s : Log) (a b : List (List ℕ)) → after_lines s (a ++ b) ≡ after_lines (after_lines s a) b
unfolding after_lines
after-append s [] b = refl
after-append s (l ∷ a) b = after-append (turn s l).log a b

pub answers-append : (s : Log) (a b : List (List ℕ)) → answers s (a ++ b) ≡ answers s a ++ answers (after_lines s a) b
unfolding answers after_lines
answers-append s [] b = refl
answers-append s (l ∷ a) b = rw (answers-append (turn s l).log a b, append_assoc)

-- ── the walk: the answers stand at the start of the room ──
abbrev stands : Log → List ℕ → List ℕ → Way
stands s done out = record { log = s; out = done ++ drop (length done) out; written = length done }

sets-after : (done vs out : List ℕ) → length done + length vs ≤ length out →
    sets (done ++ drop (length done) out) (length done) vs ≡ done ++ vs ++ drop (length (done ++ vs)) out
sets-after done vs out h =
    let n : length (done ++ drop (length done) out) ≡ length out =
    length_front out done (length done) (sym (length-take-le _ out (omega arith))) in
    sets-eq vs (done ++ drop (length done) out) (length done) (omega arith)
    ∙ rw (take-append_seam, drop-append-add, drop-drop, length-append)

stepped-from : (l : List ℕ) (s : Log) (done out : List ℕ) → length done + answer_bytes ≤ length out →
    stepped l (stands s done out) ≡ stands (turn s l).log (done ++ answer_line (turn s l)) out
unfolding stepped
stepped-from l s done out h =
    let v = answer_line (turn s l) in
    let n : length v ≡ answer_bytes = length-spelt (turn s l).seen in
    let m : length done + answer_bytes ≡ length (done ++ v) = rw (length-append, n) in
    rw (m, sets-after done v out (omega arith))

walked_from : (ls : List (List ℕ)) (s : Log) (done out : List ℕ) → length done + length ls * answer_bytes ≤ length out →
    walked ls (stands s done out) ≡ stands (after_lines s ls) (done ++ answers s ls) out
unfolding walked after_lines answers
walked_from [] s done out h = rw append-nil
walked_from (l ∷ later) s done out h =
    let t = turn s l in
    let n = length-spelt t.seen in
    let m = length-append done (answer_line t) in
    ap (walked later) (stepped-from l s done out (omega arith))
    ∙ walked_from later t.log (done ++ answer_line t) out (omega arith)
    ∙ ap (λ (d : List ℕ). stands (after_lines t.log later) d out) (append_assoc done (answer_line t) (answers t.log later))

pub walked-is : (ls : List (List ℕ)) (s : Log) (out : List ℕ) → length ls * answer_bytes ≤ length out →
    walked ls (record { log = s; out = out; written = 0 })
    ≡ record { log = after_lines s ls; out = answers s ls ++ drop (length (answers s ls)) out; written = length (answers s ls) }
walked-is ls s out h = walked_from ls s [] out (omega arith)

-- ── a call ──
-- of a line that is too long less is kept, and means the same
stepped_kept : (l : List ℕ) (w : Way) → stepped (take most l) w ≡ stepped l w
unfolding stepped
stepped_kept l w = rw (turn-short w.log l)

walked-kept : (l : List ℕ) (w : Way) → walked (unended (take most l)) w ≡ walked (unended l) w
unfolding walked unended most
walked-kept [] w = refl
walked-kept (b ∷ l) w = stepped_kept (b ∷ l) w

module _ (line : Line) (s : Log) (bytes out : List ℕ) where
  abbrev c : Cut
  c = cut (held line) bytes

  abbrev before : Way
  before = record { log = s; out = out; written = 0 }

  pub passed-feed : length (cut (held line) bytes).ended * answer_bytes ≤ length out →
      gone (held line) bytes (record { log = s; out = out; written = 0 })
      ≡ passed (cut (held line) bytes).ended (cut (held line) bytes).rest s out
  unfolding gone
  passed-feed h = ap (held_by c.rest) (walked-is c.ended s out h)

  pub passed-end : length (all_lines (cut (held line) bytes)) * answer_bytes ≤ length out →
      closed (gone (held line) bytes (record { log = s; out = out; written = 0 })) ≡ passed (all_lines (cut (held line) bytes)) [] s out
  unfolding gone closed all_lines
  passed-end h = ap (held_by [])
      (ap (λ (l : List ℕ). walked (unended l) (walked c.ended before)) (held_kept c.rest)
      ∙ walked-kept c.rest (walked c.ended before)
      ∙ sym (walked-append c.ended (unended c.rest) before)
      ∙ walked-is (all_lines c) s out h)
