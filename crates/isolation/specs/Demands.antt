-- The three demands, over the public calls. This is the page to read first.
--
-- A call promises one equation: what it leaves is what a definition says. What it leaves is its answer r and, as it leaves them, memory
-- vs and a list's answer places; `after r vs` and `ended r vs ns xs` lay these side by side. Here stands what follows for whatever satisfies
-- the equation, so that no look at the code is needed. No call asks anything of its caller, and each is proved to end.
--
-- The statements use the definitions in specs/ of `numbers`, `tables` and `rules`, and those on this page. They are proved in
-- proofs/Demands.antt, as `demand-1`, `demand-2` and `demand-3`, by citing what stands elsewhere.
use Rattle.std.specs.Prelude.{◌≡◌, Bool, true, false, List, ◌⊎◌, ◌↔◌, ℕ, ◌/◌, ◌%◌, ◌≤◌, ◌<◌, eqb, length, get_or, set}
use Rattle.std.proofs.Math.Option.Option.{some}
use Rattle.numbers.specs.Sizes.{units, frame_bytes, memory_words}
use Rattle.numbers.specs.Tests.{◌and◌, ◌or◌, isnt}
use Rattle.numbers.specs.Rules.{Rules}
use Rattle.numbers.specs.Rules.Rules.{accept, ◌⇒◌∣◌}
use Rattle.numbers.specs.Addresses.{page_of, offset_of, word_of}
use Rattle.numbers.specs.Entries.{page_in, readable, writable}
use Rattle.numbers.specs.Frames.{decode, frame_number}
use Rattle.numbers.specs.declared.frames.Action.{Action}
use Rattle.tables.specs.Table.{has, live}
use Rattle.tables.specs.Wants.{W, to_page}
use Rattle.tables.specs.State.{guest, is_present, holder_of, dma_of}
use Rattle.tables.specs.Wf.{wf}
use Rattle.tables.specs.Views.{MachineState, view}
use Rattle.tables.specs.declared.state.Tables.{Tables}
use Rattle.tables.specs.declared.state.Side.TheVariants.{Cpu, Iommu}
use Rattle.rules.specs.Actions.{Op, Touch, refusals, does, Outcome, acted}
use Rattle.rules.specs.Actions.Op.{Read, Write, SharePage}
use Rattle.rules.specs.Actions.Touch.{Writes, Clears}
use Rattle.rules.specs.Calls.{op_of, action_rules, taken, act_rules, act, Machine, answer, ran, refused, run_rules, frame_at, run, action_at, run_actions}
use Rattle.rules.specs.Calls as calls
use Rattle.rules.specs.Source.{MachineAction, Step, asked, Besides, effective_entry, read_observation}
use Rattle.edits.specs.Edits.{after}
use Rattle.edits.specs.declared.out.Out.{Out}
use Rattle.lists.specs.Lists.{ended}
use Rattle.lists.specs.declared.Ran.{Ran}

-- ══ demand 1: a numbered answer to everything ══
-- a refusal with this number has a condition that holds
unfoldable pub applies : ℕ → Rules → Bool
applies n accept = false
applies n (bad ⇒ k ∣ rules) = bad and eqb k n or applies n rules

-- the answer is 0 to 15; a number that is given applies, and none that applies is lower; a refusal hands back 0 and changes nothing
pub record Numbered (rules : Rules) (m : Tables) (ws : List ℕ) (r : Out) (vs : List ℕ) : Type 0 where
  pub number : r.seen.number ≤ 15
  pub given : (r.seen.number ≡ 0) ⊎ (applies r.seen.number rules ≡ true)
  pub lowest : (n : ℕ) → applies n rules ≡ true → (0 < r.seen.number) × (r.seen.number ≤ n)
  pub refusal : (r.seen.number ≡ 0 → ⊥) → (r.seen.word ≡ 0) × (r.tables ≡ m) × (vs ≡ ws)

-- a list's own number is 0, 1 or 2, by the same rule. Refused whole, it has handled nothing and leaves all as it was. Else it goes through
-- all its n actions, each of which is answered in the state that the ones before it left
pub record NumberedList (odd : Bool) (f : ℕ → Action) (n : ℕ) (s : Machine) (numbers words : List ℕ) (x : calls.Ran) : Type 0 where
  pub number : x.number ≤ 2
  pub given : (x.number ≡ 0) ⊎ (applies x.number (run_rules odd n s numbers words) ≡ true)
  pub lowest : (k : ℕ) → applies k (run_rules odd n s numbers words) ≡ true → (0 < x.number) × (x.number ≤ k)
  pub refusal : (x.number ≡ 0 → ⊥) → x ≡ refused x.number s numbers words
  pub goes_through : x.number ≡ 0 → x ≡ ran f n s numbers words
  pub each : (i : ℕ) → let m = (calls.after f i s).tables in let ws = (calls.after f i s).memory in
      Numbered (action_rules m (f i)) m ws
      (record { seen = (answer f s i).seen; tables = (answer f s i).tables }) (answer f s i).memory

pub record Demand1 : Type 0 where
  -- each of the 23 kinds by its method, any tables
  pub method : (m : Tables) (o : Op) (ws : List ℕ) (r : Out) (vs : List ℕ) → after r vs ≡ acted m o ws → Numbered (refusals m o) m ws r vs
  pub take : (m : Tables) (a : Action) (ws : List ℕ) (r : Out) (vs : List ℕ) → after r vs ≡ taken m a ws → Numbered (action_rules m a) m ws r vs
  pub act : (m : Tables) (bytes ws : List ℕ) (r : Out) (vs : List ℕ) → after r vs ≡ act m bytes ws → Numbered (act_rules m bytes ws) m ws r vs
  pub run : (bytes : List ℕ) (s : Machine) (numbers words : List ℕ) (r : Ran) (vs ns xs : List ℕ) → ended r vs ns xs ≡ run bytes s numbers words →
      NumberedList (isnt (eqb (length bytes % frame_bytes) 0)) (frame_at bytes) (length bytes / frame_bytes) s numbers words (ended r vs ns xs)
  pub run_actions : (actions : List Action) (s : Machine) (numbers words : List ℕ) (r : Ran) (vs ns xs : List ℕ) →
      ended r vs ns xs ≡ run_actions actions s numbers words →
      NumberedList false (action_at actions) (length actions) s numbers words (ended r vs ns xs)

-- ══ demand 2: accepted exactly when the source's guards hold, with 01's corrections, and then as its clauses say ══
-- of tables in good order and a memory of 1,024 words; `Step` has the source's clauses but for `s2.wf()`, `Besides` is what 01 asks more.
-- Kinds that the source does not have (Idle, Fill and Drop, on either side) are what `refusals` and `effect` say of them, as the equation has it
pub record Demand2 (m : Tables) (ws : List ℕ) : Type 0 where
  -- an action of the source: the states to which its step may lead are the one where the machine is, if it accepted
  pub exactly : (a : MachineAction) (r : Out) (vs : List ℕ) → after r vs ≡ acted m (asked a) ws → (s : MachineState) →
      (Step (view m ws) s a × Besides m a) ↔ ((r.seen.number ≡ 0) × (s ≡ view r.tables vs))
  -- and a read hands back what the source lets the guest observe
  pub reads : (g u a : ℕ) (r : Out) (vs : List ℕ) → after r vs ≡ acted m (Read Cpu g u a) ws → r.seen.number ≡ 0 →
      read_observation (view m ws) u g a ≡ some r.seen.word
  -- a device: the guest is present, there is such a stream, and a translation that allows the access
  pub dma_reads : (g u a : ℕ) (r : Out) (vs : List ℕ) → after r vs ≡ acted m (Read Iommu g u a) ws → let e = effective_entry Iommu (view m ws) u g (page_of a) in
      ((r.seen.number ≡ 0) ↔ (((is_present m g ≡ true) × (u < units) × (live W e ≡ true)) × (readable e ≡ true)))
      × (r.seen.number ≡ 0 → (r.seen.word ≡ get_or ws (word_of (page_in e) (offset_of a)) 0) × (r.tables ≡ m) × (vs ≡ ws))
  pub dma_writes : (g u a w : ℕ) (r : Out) (vs : List ℕ) → after r vs ≡ acted m (Write Iommu g u a w) ws → let e = effective_entry Iommu (view m ws) u g (page_of a) in
      ((r.seen.number ≡ 0) ↔ (((is_present m g ≡ true) × (u < units) × (live W e ≡ true)) × (writable e ≡ true)))
      × (r.seen.number ≡ 0 → (r.seen.word ≡ 0) × (r.tables ≡ m) × (vs ≡ set ws (word_of (page_in e) (offset_of a)) w))
  -- good order of what is left follows, whatever the action
  pub order : (o : Op) (r : Out) (vs : List ℕ) → after r vs ≡ acted m o ws → wf r.tables ≡ true
  -- a decoded action whose frame check passes is the action that its kind names, and one frame is the action that it decodes to. (A list
  -- goes through `take`, by its definition.)
  pub take : (a : Action) → frame_number a ≡ 0 → taken m a ws ≡ acted m (op_of a) ws
  pub act : (bytes : List ℕ) → length bytes ≡ frame_bytes → act m bytes ws ≡ taken m (decode bytes) ws

-- ══ demand 3: what one guest keeps to itself nobody else learns ══
-- what the action at place i does with the words of memory
abbrev pub doing : Machine → (ℕ → Action) → ℕ → Touch
doing s f i = let m = (calls.after f i s).tables in does (action_rules m (f i)) m (op_of (f i))

-- guest g's page p is marked after n actions: at the start g holds it, for CPU or DMA, and no pair is on it; and no action has zeroed it
pub record Marked (g : ℕ) (s : Machine) (f : ℕ → Action) (n p : ℕ) : Type 0 where
  pub held : (holder_of s.tables p ≡ guest g) ⊎ (dma_of s.tables p ≡ guest g)
  pub unshared : has W (to_page p) s.tables.pairs ≡ false
  pub not_wiped : (i : ℕ) → i < n → doing s f i ≡ Clears p → ⊥

-- two memories are equal outside the pages that are marked after n actions
pub record EqualOutside (g : ℕ) (s : Machine) (f : ℕ → Action) (n : ℕ) (ws vs : List ℕ) : Type 0 where
  pub long : length ws ≡ length vs
  pub equal : (i : ℕ) → (Marked g s f n (page_of i) → ⊥) → get_or ws i 0 ≡ get_or vs i 0

-- b is a but for the word, and a is a write, 02 or 05, by guest g or a stream in its name
pub record OtherWord (g : ℕ) (a b : Action) : Type 0 where
  pub kind : (a.kind ≡ 0x02) ⊎ (a.kind ≡ 0x05)
  pub writer : a.guest ≡ g
  pub same : b ≡ record { kind = a.kind; guest = a.guest; second = a.second; access = a.access; address = a.address; page = a.page; word = b.word }

-- two states alike in everything but the words of marked pages, and two lists of n actions
pub record TwoRuns (g : ℕ) (s t : Machine) (f h : ℕ → Action) (n : ℕ) : Type 0 where
  pub well_formed : wf s.tables ≡ true
  pub tables : s.tables ≡ t.tables
  pub memory : EqualOutside g s f 0 s.memory t.memory
  -- the same actions, save for a word that g or its device writes into a page still marked, or would have written were it not refused
  pub actions : (i : ℕ) → i < n → (f i ≡ h i) ⊎ (OtherWord g (f i) (h i) × ((at w : ℕ) → doing s f i ≡ Writes at w → Marked g s f i (page_of at)))
  -- no share of a marked page is accepted
  pub unshared : (i : ℕ) → i < n → (l r p : ℕ) → op_of (f i) ≡ SharePage l r p → (answer f s i).seen.number ≡ 0 → Marked g s f i p → ⊥

-- the action is asked by g or a stream in its name: kinds 01 to 05
pub record AskedBy (g : ℕ) (a : Action) : Type 0 where
  pub from : 0x01 ≤ a.kind
  pub upto : a.kind ≤ 0x05
  pub asker : a.guest ≡ g

-- every answer to the hypervisor, to other guests and to their devices is equal, and so are the end states outside marked pages; the
-- numbers of g's own answers are equal too
pub record NothingLearnt (g : ℕ) (s t : Machine) (f h : ℕ → Action) (n : ℕ) : Type 0 where
  pub numbers : (i : ℕ) → i < n → (answer f s i).seen.number ≡ (answer h t i).seen.number
  pub words : (i : ℕ) → i < n → (AskedBy g (f i) → ⊥) → (answer f s i).seen.word ≡ (answer h t i).seen.word
  pub tables : (calls.after f n s).tables ≡ (calls.after h n t).tables
  pub memory : EqualOutside g s f n (calls.after f n s).memory (calls.after h n t).memory

-- one action, as a list
abbrev pub alone : Action → ℕ → Action
alone a i = a

-- the same of what two calls with one frame leave, the first of which says a
pub record SameFrame (g : ℕ) (s : Machine) (a : Action) (x y : Outcome) : Type 0 where
  pub number : x.seen.number ≡ y.seen.number
  pub word : (AskedBy g a → ⊥) → x.seen.word ≡ y.seen.word
  pub tables : x.tables ≡ y.tables
  pub memory : EqualOutside g s (alone a) 1 x.memory y.memory

-- what two calls with a list leave: all that is equal without reserve
pub record SameTally (x y : calls.Ran) : Type 0 where
  pub number : x.number ≡ y.number
  pub handled : x.handled ≡ y.handled
  pub accepted : x.accepted ≡ y.accepted
  pub tables : x.tables ≡ y.tables
  pub numbers : x.numbers ≡ y.numbers
  pub places : length x.words ≡ length y.words

-- and with the reserve: memory outside marked pages, and the words of all answer places but g's
pub record SameLists (g : ℕ) (s : Machine) (f : ℕ → Action) (x y : calls.Ran) : Type 0 where
  pub tally : SameTally x y
  pub memory : EqualOutside g s f x.handled x.memory y.memory
  pub words : (i : ℕ) → (i < x.handled → AskedBy g (f i) → ⊥) → get_or x.words i 0 ≡ get_or y.words i 0

pub record Demand3 (g : ℕ) (s t : Machine) : Type 0 where
  pub list : (f h : ℕ → Action) (n : ℕ) → TwoRuns g s t f h n → NothingLearnt g s t f h n
  -- two calls of `act` with a frame each
  pub act : (bytes others : List ℕ) (r q : Out) (vs us : List ℕ) → length bytes ≡ frame_bytes → length others ≡ frame_bytes →
      length s.memory ≡ memory_words → TwoRuns g s t (alone (decode bytes)) (alone (decode others)) 1 →
      after r vs ≡ act s.tables bytes s.memory → after q us ≡ act t.tables others t.memory →
      SameFrame g s (decode bytes) (after r vs) (after q us)
  -- two calls of `run`, and of the run over decoded actions
  pub run : (bytes others numbers words : List ℕ) (r q : Ran) (vs us ns ks xs ys : List ℕ) → length bytes ≡ length others →
      TwoRuns g s t (frame_at bytes) (frame_at others) (length bytes / frame_bytes) →
      ended r vs ns xs ≡ run bytes s numbers words → ended q us ks ys ≡ run others t numbers words →
      SameLists g s (frame_at bytes) (ended r vs ns xs) (ended q us ks ys)
  pub run_actions : (actions others : List Action) (numbers words : List ℕ) (r q : Ran) (vs us ns ks xs ys : List ℕ) → length actions ≡ length others →
      TwoRuns g s t (action_at actions) (action_at others) (length actions) →
      ended r vs ns xs ≡ run_actions actions s numbers words → ended q us ks ys ≡ run_actions others t numbers words →
      SameLists g s (action_at actions) (ended r vs ns xs) (ended q us ks ys)
