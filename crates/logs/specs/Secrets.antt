-- Demand 3 of a log: two logs that differ only in words that guest g writes into its marked pages get the same answer lines, but for
-- the words of the lines that answer g itself. After its boot a log is a list of actions; what is marked, and which actions may differ,
-- is what the page of the demands says of such a list.
use Rattle.std.specs.Prelude.{ℕ, ◌*◌, ◌<◌, ◌≡◌, true, List, [], ◌++◌, length, take, drop, get_or, replicate}
use Rattle.std.specs.Option.{unwrap_or}
use Rattle.numbers.specs.Sizes.{frame_bytes}
use Rattle.numbers.specs.Frames.{decode}
use Rattle.numbers.specs.declared.frames.Action.{Action}
use Rattle.rules.specs.Calls.{Machine}
use Rattle.isolation.specs.Demands.{EqualOutside, TwoRuns, AskedBy}
use Rattle.text.specs.Text.{cut, lines}
use Rattle.text.specs.Answers.{answer_bytes}
use Rattle.text.specs.Walks.{heard}
use Rattle.lines.specs.Log.{Log, after_lines, answers, start, replay}
use Rattle.lines.specs.Pieces.{Passed}

-- ── a log as a list of actions ──
-- what a line stands for. A bad one stands for 16 zeros: their kind is none, so they get 3 as it does
abbrev pub action_of : List ℕ → Action
action_of l = decode (unwrap_or (heard l) (replicate frame_bytes 0))

abbrev pub action_in : List (List ℕ) → ℕ → Action
action_in ls i = action_of (get_or ls i [])

abbrev pub machine_of : Log → Machine
machine_of s = record { tables = s.tables; memory = s.memory }

-- ── two logs ──
-- both are booted, have as many lines, and are two lists of actions as demand 3 speaks of
pub record TwoLogs (g : ℕ) (s t : Log) (ls ks : List (List ℕ)) : Type 0 where
  pub booted : s.booted ≡ true
  pub also_booted : t.booted ≡ true
  pub long : length ls ≡ length ks
  pub runs : TwoRuns g (machine_of s) (machine_of t) (action_in ls) (action_in ks) (length ls)

-- ── what is then equal ──
-- answer line i of an output
abbrev pub line_at : List ℕ → ℕ → List ℕ
line_at out i = take answer_bytes (drop (i * answer_bytes) out)

-- the outputs to n lines, of which line i stands for `f i`: n answer lines each; those equal that do not answer g, and of g's own the numbers
pub record SameAnswers (g : ℕ) (f : ℕ → Action) (n : ℕ) (x y : List ℕ) : Type 0 where
  pub whole : length x ≡ n * answer_bytes
  pub long : length x ≡ length y
  pub lines : (i : ℕ) → i < n → (AskedBy g (f i) → ⊥) → line_at x i ≡ line_at y i
  pub numbers : (i : ℕ) → i < n → take 2 (line_at x i) ≡ take 2 (line_at y i)

-- of the lines ls from s, and ks from t
pub record LogsAlike (g : ℕ) (s t : Log) (ls ks : List (List ℕ)) : Type 0 where
  pub answers : SameAnswers g (action_in ls) (length ls) (answers s ls) (answers t ks)
  pub booted : (after_lines s ls).booted ≡ true
  pub also_booted : (after_lines t ks).booted ≡ true
  pub tables : (after_lines s ls).tables ≡ (after_lines t ks).tables
  pub memory : EqualOutside g (machine_of s) (action_in ls) (length ls) (after_lines s ls).memory (after_lines t ks).memory

-- ── two calls ──
-- what two calls leave, the first of which has the lines ls from s: all that is equal without reserve. The line that a piece leaves open
-- is its own text, and nothing is said of it
pub record CallsAlike (g : ℕ) (s : Log) (ls : List (List ℕ)) (x y : Passed) : Type 0 where
  pub number : x.number ≡ y.number
  pub written : x.written ≡ y.written
  pub beyond : drop x.written x.out ≡ drop y.written y.out
  pub booted : x.log.booted ≡ y.log.booted
  pub tables : x.log.tables ≡ y.log.tables
  -- and with the reserve, where they are accepted: a refused call writes nothing
  pub answers : x.number ≡ 0 → SameAnswers g (action_in ls) (length ls) (take x.written x.out) (take y.written y.out)
  pub memory : x.number ≡ 0 → EqualOutside g (machine_of s) (action_in ls) (length ls) x.log.memory y.log.memory

-- ── two whole inputs, with a common beginning that ends with a line feed ──
abbrev pub after_text : List ℕ → Log
after_text head = after_lines start (cut [] head).ended

-- the output begins with the beginning's, and goes on with answers that are alike
pub record ReplaysAlike (g : ℕ) (head a b : List ℕ) : Type 0 where
  pub first : replay (head ++ a) ≡ replay head ++ answers (after_text head) (lines a)
  pub second : replay (head ++ b) ≡ replay head ++ answers (after_text head) (lines b)
  pub alike : SameAnswers g (action_in (lines a)) (length (lines a)) (answers (after_text head) (lines a)) (answers (after_text head) (lines b))
