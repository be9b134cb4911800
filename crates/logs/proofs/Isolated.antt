-- Demand 3 of a log: of its lines, of two calls by what they promise, and of two whole inputs.
use mathlib.Core.Path.{◌≡◌, refl, sym, ◌∙◌, ap, subst}
use mathlib.Core.Bool.{Bool, cond}
use mathlib.Core.List.{List, [], ◌++◌, append_assoc, append-nil}
use Prim.Native.Nat.{ℕ, ◌*◌, ◌<◌}
use native.Mathlib.Omega.{arith}
use lib.Dec.{eqb}
use lib.ListN.{length, take, drop}
use lib.Seq.{take-append_seam, drop-append_seam}
use borrow.Author.Tests.{eqb-false}
use Rattle.numbers.specs.Rules.{least}
use Rattle.numbers.proofs.Bools.{split}
use Rattle.rules.specs.Calls.{Machine, after, answer}
use Rattle.isolation.specs.Demands.{NothingLearnt, EqualOutside}
use Rattle.isolation.proofs.CallsIsolated.{promised}
use Rattle.isolation.proofs.Demands.{demand-3}
use Rattle.text.specs.Text.{digits, cut, unended, all_lines, lines}
use Rattle.text.specs.Answers.{spelt, answer_bytes}
use Rattle.text.specs.Line.{held}
use Rattle.text.specs.declared.line.Line.{Line}
use Rattle.text.proofs.Cuts.{cut-append}
use Rattle.lines.specs.Log.{Log, after_lines, answers, start, replay}
use Rattle.lines.specs.Pieces.{lines_in, left_open, piece_rules, refused, passed, piece, reached}
use Rattle.lines.specs.declared.replay.Fed.{Fed}
use Rattle.lines.proofs.Walked.{length-answers, answers-append}
use Rattle.logs.specs.Secrets.{action_in, machine_of, TwoLogs, line_at, SameAnswers, LogsAlike, CallsAlike, after_text, ReplaysAlike}
use Rattle.logs.proofs.Lists.{after-booted, after_is, same_seen, spelt_of, answer-is, spelt-number}

-- ══ line by line ══
module _ (g : ℕ) (s t : Log) (ls ks : List (List ℕ)) (T : TwoLogs g s t ls ks) where
  learnt : NothingLearnt g (machine_of s) (machine_of t) (action_in ls) (action_in ks) (length ls)
  learnt = (demand-3 g (machine_of s) (machine_of t)).list (action_in ls) (action_in ks) (length ls) T.runs

  -- both answer lines as they are spelt
  line_of : (i : ℕ) → i < length ls → line_at (answers s ls) i ≡ spelt_of (answer (action_in ls) (machine_of s) i)
  line_of i h = answer-is ls s i h T.booted

  other-line : (i : ℕ) → i < length ls → line_at (answers t ks) i ≡ spelt_of (answer (action_in ks) (machine_of t) i)
  other-line i h = let k = T.long in answer-is ks t i (omega arith) T.also_booted

  same-answers : SameAnswers g (action_in ls) (length ls) (answers s ls) (answers t ks)
  same-answers = record {
    whole = length-answers s ls;
    long = length-answers s ls ∙ ap (λ (n : ℕ). n * answer_bytes) T.long ∙ sym (length-answers t ks);
    lines = λ i h n. line_of i h ∙ ap spelt (same_seen (learnt.numbers i h) (learnt.words i h n)) ∙ sym (other-line i h);
    numbers = λ i h.
        ap (take 2) (line_of i h) ∙ spelt-number _ ∙ ap (digits 2) (learnt.numbers i h)
        ∙ sym (ap (take 2) (other-line i h) ∙ spelt-number _);
  }

  pub logs-isolated : LogsAlike g s t ls ks
  logs-isolated =
      let x = after_is ls s T.booted in
      let y : machine_of (after_lines t ks) ≡ after (action_in ks) (length ls) (machine_of t) =
      rw T.long (after_is ks t T.also_booted) in
      record {
        answers = same-answers;
        booted = after-booted ls s T.booted;
        also_booted = after-booted ks t T.also_booted;
        tables = ap (λ (m : Machine). m.tables) x ∙ learnt.tables ∙ sym (ap (λ (m : Machine). m.tables) y);
        memory = promised (EqualOutside g (machine_of s) (action_in ls) (length ls))
            (ap (λ (m : Machine). m.memory) x) (ap (λ (m : Machine). m.memory) y) learnt.memory;
      }

-- ══ two calls ══
-- both are refused with one number, for it depends on how many lines there are, on the tables and on lengths
module _ (g : ℕ) (s t : Log) (ls ks : List (List ℕ)) (T : TwoLogs g s t ls ks) (out : List ℕ) where
  own_same : least (piece_rules (length ls) s.tables (length s.memory) (length out))
      ≡ least (piece_rules (length ks) t.tables (length t.memory) (length out))
  own_same = rw (T.long, T.runs.tables, T.runs.memory.long)

  passed-alike : (rest others : List ℕ) → CallsAlike g s ls (passed ls rest s out) (passed ks others t out)
  passed-alike rest others =
      let q = logs-isolated g s t ls ks T in
      let x = answers s ls in
      let y = answers t ks in
      record {
        number = refl;
        written = q.answers.long;
        beyond = drop-append_seam x _ ∙ ap (λ (n : ℕ). drop n out) q.answers.long ∙ sym (drop-append_seam y _);
        booted = q.booted ∙ sym q.also_booted;
        tables = q.tables;
        answers = λ z. promised (SameAnswers g (action_in ls) (length ls)) (take-append_seam x _) (take-append_seam y _) q.answers;
        memory = λ z. q.memory;
      }

  refused-alike : (own : ℕ) (line other : Line) → (own ≡ 0 → ⊥) → CallsAlike g s ls (refused own line s out) (refused own other t out)
  refused-alike own line other n = record {
    number = refl;
    written = refl;
    beyond = refl;
    booted = T.booted ∙ sym T.also_booted;
    tables = T.runs.tables;
    answers = λ z. absurd (n z);
    memory = λ z. absurd (n z);
  }

-- the line left open before may differ too
module _ (g : ℕ) (last : Bool) (line other : Line) (s t : Log) (bytes others out : List ℕ) {r q : Fed} {vs us x y : List ℕ} where
  pub calls-isolated : reached r vs x ≡ piece last line s bytes out → reached q us y ≡ piece last other t others out →
      TwoLogs g s t (lines_in last (cut (held line) bytes)) (lines_in last (cut (held other) others)) →
      CallsAlike g s (lines_in last (cut (held line) bytes)) (reached r vs x) (reached q us y)
  unfolding piece
  calls-isolated e₁ e₂ T =
      let ls = lines_in last (cut (held line) bytes) in
      let ks = lines_in last (cut (held other) others) in
      promised (CallsAlike g s ls) e₁ e₂
      (subst (λ (n : ℕ). CallsAlike g s ls (piece last line s bytes out)
      (cond (eqb n 0) (passed ks (left_open last (cut (held other) others)) t out) (refused n other t out))) (own_same g s t ls ks T out)
      (split (eqb (least (piece_rules (length ls) s.tables (length s.memory) (length out))) 0)
      (λ e. rw e (passed-alike g s t ls ks T out _ _))
      (λ e. rw e (refused-alike g s t ls ks T out _ line other (eqb-false _ _ e)))))

-- ══ two whole inputs ══
-- a beginning that ends with a line feed, and what comes after it
module _ (head : List ℕ) (e : (cut [] head).rest ≡ []) where
  lines_after : (a : List ℕ) → lines (head ++ a) ≡ (cut [] head).ended ++ lines a
  unfolding all_lines
  lines_after a = ap all_lines (cut-append [] head a) ∙ rw e (append_assoc (cut [] head).ended _ _)

  lines-of-head : lines head ≡ (cut [] head).ended
  unfolding all_lines unended
  lines-of-head = rw e (append-nil (cut [] head).ended)

  goes_on : (a : List ℕ) → replay (head ++ a) ≡ replay head ++ answers (after_text head) (lines a)
  unfolding replay
  goes_on a = ap (answers start) (lines_after a) ∙ answers-append start (cut [] head).ended (lines a)
      ∙ ap (λ (ls : List (List ℕ)). answers start ls ++ answers (after_text head) (lines a)) (sym lines-of-head)

pub replays-isolated : (g : ℕ) (head a b : List ℕ) → (cut [] head).rest ≡ [] →
    TwoLogs g (after_text head) (after_text head) (lines a) (lines b) → ReplaysAlike g head a b
replays-isolated g head a b e T = record {
  first = goes_on head e a;
  second = goes_on head e b;
  alike = (logs-isolated g (after_text head) (after_text head) (lines a) (lines b) T).answers;
}
