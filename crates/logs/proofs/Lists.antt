-- A booted log is a list of actions: what a line gets is what its action gets, and each answer line spells it.
use mathlib.Core.Path.{◌≡◌, refl, sym, ◌∙◌, ap}
use mathlib.Core.Bool.{Bool, true}
use mathlib.Core.List.{List, [], ◌∷◌, ◌++◌, append_assoc}
use Prim.Native.Nat.{ℕ, zero, suc, ◌+◌, ◌*◌, ◌<◌}
use native.Mathlib.Omega.{arith}
use lib.ListN.{length, take, drop, replicate}
use lib.Seq.{take_at, drop-append-add}
use Rattle.std.specs.Option.{unwrap_or}
use Rattle.numbers.specs.Sizes.{frame_bytes}
use Rattle.numbers.specs.Frames.{big, decode, kinds, row_of, frame_number}
use Rattle.numbers.specs.Rules.{least}
use Rattle.numbers.specs.Search.{first}
use Rattle.numbers.specs.Answers.{wordless}
use Rattle.numbers.specs.declared.answers.Seen.{Seen}
use Rattle.numbers.specs.declared.frames.Action.{Action}
use Rattle.numbers.proofs.Bools.{split}
use Rattle.rules.specs.Actions.{Outcome}
use Rattle.rules.specs.Calls.{taken, Machine, after, answer}
use Rattle.calls.proofs.FrontLaws.{frame_refused}
use Rattle.text.specs.Text.{digits, feed, well_shaped}
use Rattle.text.specs.Walks.{heard}
use Rattle.text.specs.Answers.{spelt, answer_bytes}
use Rattle.text.proofs.AnswerLaws.{length_digits, length-spelt}
use Rattle.lines.specs.Log.{Log, Turn, acts, turn, answer_line, after_lines, answers}
use Rattle.logs.specs.Secrets.{action_of, action_in, machine_of, line_at}

-- ── one line ──
-- a bad line's action is refused with 3
zeros-refused : frame_number (decode (replicate frame_bytes 0)) ≡ 3
unfolding frame_bytes decode big kinds row_of first least frame_number
zeros-refused = refl

pub turn-action : (s : Log) (l : List ℕ) → s.booted ≡ true → turn s l ≡ acts (unwrap_or (heard l) (replicate frame_bytes 0)) s
unfolding turn heard
turn-action s l b = split (well_shaped l)
    (λ e. rw (e, b))
    (λ e. rw e (ap (λ (x : Bool). record { seen = wordless 3; log = record { booted = x; tables = s.tables; memory = s.memory } }) b
    ∙ ap (λ (o : Outcome). record { seen = o.seen; log = record { booted = true; tables = o.tables; memory = o.memory } }) (frame_refused s.tables _ s.memory (sym zeros-refused) (λ (z : ◌≡◌ {A = ℕ} 3 0). omega arith))))

-- a booted log stays booted
still-booted : (s : Log) (l : List ℕ) → s.booted ≡ true → (turn s l).log.booted ≡ true
still-booted s l b = ap (λ (t : Turn). t.log.booted) (turn-action s l b)

-- ── a list of actions, from its front ──
abbrev step : Action → Machine → Machine
step a s = let o = taken s.tables a s.memory in record { tables = o.tables; memory = o.memory }

after_front : (f : ℕ → Action) (n : ℕ) (s : Machine) → after f (suc n) s ≡ after (λ i. f (suc i)) n (step (f 0) s)
unfolding after
after_front f zero s = refl
after_front f (suc n) s = ap (step (f (suc n))) (after_front f n s)

answer-front : (f : ℕ → Action) (s : Machine) (i : ℕ) → answer f s (suc i) ≡ answer (λ j. f (suc j)) (step (f 0) s) i
unfolding answer
answer-front f s i = ap (λ (x : Machine). taken x.tables (f (suc i)) x.memory) (after_front f i s)

-- ── line by line ──
turned-machine : (s : Log) (l : List ℕ) → s.booted ≡ true → machine_of (turn s l).log ≡ step (action_of l) (machine_of s)
turned-machine s l b = ap (λ (t : Turn). machine_of t.log) (turn-action s l b)

pub after-booted : (ls : List (List ℕ)) (s : Log) → s.booted ≡ true → (after_lines s ls).booted ≡ true
unfolding after_lines
after-booted [] s b = b
after-booted (l ∷ later) s b = after-booted later (turn s l).log (still-booted s l b)

pub after_is : (ls : List (List ℕ)) (s : Log) → s.booted ≡ true →
    machine_of (after_lines s ls) ≡ after (action_in ls) (length ls) (machine_of s)
unfolding after_lines after
after_is [] s b = refl
after_is (l ∷ later) s b =
    after_is later (turn s l).log (still-booted s l b)
    ∙ ap (after (action_in later) (length later)) (turned-machine s l b)
    ∙ sym (after_front (action_in (l ∷ later)) (length later) (machine_of s))

-- two answers that carry the same
pub same_seen : {s t : Seen} → s.number ≡ t.number → s.word ≡ t.word → s ≡ t
same_seen {s} {t} e f = ap (λ (n : ℕ). record { number = n; word = s.word }) e ∙ ap (λ (w : ℕ). record { number = t.number; word = w }) f

-- the answer line that an action gets
abbrev pub spelt_of : Outcome → List ℕ
spelt_of o = spelt o.seen

pub answer-is : (ls : List (List ℕ)) (s : Log) (i : ℕ) → i < length ls → s.booted ≡ true →
    line_at (answers s ls) i ≡ spelt_of (answer (action_in ls) (machine_of s) i)
unfolding answers answer_bytes after answer
answer-is [] s i h b = absurd (omega arith)
answer-is (l ∷ later) s zero h b =
    take_at (answer_line (turn s l)) (answers (turn s l).log later) answer_bytes (length-spelt (turn s l).seen)
    ∙ ap answer_line (turn-action s l b)
answer-is (l ∷ later) s (suc i) h b =
    let x = answer_line (turn s l) in
    let y = answers (turn s l).log later in
    let k : length x ≡ answer_bytes = length-spelt (turn s l).seen in
    let e : suc i * answer_bytes ≡ length x + i * answer_bytes = omega arith in
    ap (λ (n : ℕ). take answer_bytes (drop n (x ++ y))) e
    ∙ ap (take answer_bytes) (drop-append-add x y (i * answer_bytes))
    ∙ answer-is later (turn s l).log i (omega arith) (still-booted s l b)
    ∙ ap (λ (m : Machine). spelt_of (answer (action_in later) m i)) (turned-machine s l b)
    ∙ ap spelt_of (sym (answer-front (action_in (l ∷ later)) (machine_of s) i))

-- its first two digits are the number
pub spelt-number : (s : Seen) → take 2 (spelt s) ≡ digits 2 s.number
unfolding spelt
spelt-number s =
    let number = digits 2 s.number in
    ap (take 2) (append_assoc number (digits 16 s.word) (feed ∷ [])) ∙ take_at number _ 2 (length_digits 2 s.number)
