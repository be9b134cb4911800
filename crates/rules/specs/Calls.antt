-- What a call does: a frame's refusals stand in front of its action's, the call's own in front of both. Then a list of actions, one
-- after the other.
use Rattle.std.specs.Prelude.{ℕ, zero, suc, ◌+◌, ◌*◌, ◌/◌, ◌%◌, Bool, false, cond, List, eqb, ltb, length, take, drop, get_or, set}
use Rattle.numbers.specs.Sizes.{frame_bytes, memory_words}
use Rattle.numbers.specs.Tests.{◌or◌, isnt}
use Rattle.numbers.specs.Rules.{Rules, least}
use Rattle.numbers.specs.Rules.Rules.{accept, ◌⇒◌∣◌}
use Rattle.numbers.specs.Frames.{decode, frame_rules}
use Rattle.numbers.specs.declared.frames.Action.{Action}
use Rattle.tables.specs.Wf.{wf}
use Rattle.tables.specs.declared.state.Tables.{Tables}
use Rattle.tables.specs.declared.state.Side.TheVariants.{Cpu, Iommu}
use Rattle.rules.specs.Actions.{Op, refusals, Outcome, outcome}
use Rattle.rules.specs.Actions.Op.{Read, Write, HyperCall, AddVm, RemoveVm, AssignPage, ReclaimPage, SharePage, UnsharePage, Map, Unmap, ContextSwitch, Idle, Fill, Drop, IommuAssignPage, IommuReclaimPage}

-- ══ the kind chooses the rule ══
infixr 10 ◌does◌∣◌
pub data Arms : Type 0 where
  otherwise : Op → Arms
  ◌does◌∣◌ : ℕ → Op → Arms → Arms

abbrev pub chosen : ℕ → Arms → Op
chosen k (otherwise o) = o
chosen k (n does o ∣ later) = cond (eqb k n) o (chosen k later)

abbrev pub arms : Action → Arms
arms a =
    0x01 does Read Cpu a.guest a.second a.address ∣
    0x02 does Write Cpu a.guest a.second a.address a.word ∣
    0x03 does HyperCall a.guest a.second a.word ∣
    0x04 does Read Iommu a.guest a.second a.address ∣
    0x05 does Write Iommu a.guest a.second a.address a.word ∣
    0x10 does AddVm a.guest ∣
    0x11 does RemoveVm a.guest ∣
    0x12 does AssignPage a.guest a.page ∣
    0x13 does ReclaimPage a.guest a.page ∣
    0x14 does SharePage a.guest a.second a.page ∣
    0x15 does UnsharePage a.guest a.second a.page ∣
    0x16 does Map Cpu a.guest a.address a.page a.access ∣
    0x17 does Unmap Cpu a.guest a.address ∣
    0x18 does ContextSwitch a.guest a.second ∣
    0x19 does Idle a.second ∣
    0x1a does Fill Cpu a.guest a.second a.address ∣
    0x1b does Drop Cpu a.guest a.second a.address ∣
    0x20 does IommuAssignPage a.guest a.page ∣
    0x21 does IommuReclaimPage a.guest a.page ∣
    0x22 does Map Iommu a.guest a.address a.page a.access ∣
    0x23 does Unmap Iommu a.guest a.address ∣
    0x24 does Fill Iommu a.guest a.second a.address ∣
    0x25 does Drop Iommu a.guest a.second a.address ∣
    -- an unknown kind: refused with 3 before it comes to this
    otherwise (HyperCall a.guest a.second a.word)

abbrev pub op_of : Action → Op
op_of a = chosen a.kind (arms a)

-- ══ one action in front of the tables ══
-- one list of refusals, then another
infixr 10 ◌then◌
unfoldable pub ◌then◌ : Rules → Rules → Rules
accept then later = later
(bad ⇒ n ∣ rules) then later = bad ⇒ n ∣ (rules then later)

-- 3 and 4 of the frame, then the action's own
abbrev pub action_rules : Tables → Action → Rules
action_rules m a = frame_rules a then refusals m (op_of a)

abbrev pub taken : Tables → Action → List ℕ → Outcome
taken m a ws = outcome (action_rules m a) m (op_of a) ws

-- ══ a call with one frame ══
-- 1: lengths; 2: tables not well formed
abbrev pub act_rules : Tables → List ℕ → List ℕ → Rules
act_rules m frame ws =
    isnt (eqb (length frame) frame_bytes) or isnt (eqb (length ws) memory_words) ⇒ 1 ∣
    isnt (wf m) ⇒ 2 ∣
    action_rules m (decode frame)

unfoldable pub act : Tables → List ℕ → List ℕ → Outcome
act m frame ws = outcome (act_rules m frame ws) m (op_of (decode frame)) ws

-- ══ a list of actions: `f i` is the one at place i ══
pub record Machine : Type 0 where
  pub tables : Tables
  pub memory : List ℕ

-- the machine after the first n
unfoldable pub after : (ℕ → Action) → ℕ → Machine → Machine
after f zero s = s
after f (suc n) s =
    let before = after f n s in
    let o = taken before.tables (f n) before.memory in
    record { tables = o.tables; memory = o.memory }

-- what the action at place i gets
unfoldable pub answer : (ℕ → Action) → Machine → ℕ → Outcome
answer f s i = taken (after f i s).tables (f i) (after f i s).memory

-- how many of the first n were accepted
unfoldable pub accepted_of : (ℕ → Action) → Machine → ℕ → ℕ
accepted_of f s zero = 0
accepted_of f s (suc n) = accepted_of f s n + cond (eqb (answer f s n).seen.number 0) 1 0

-- places with the first n written
unfoldable pub written : {A : Type 0} → (ℕ → A) → ℕ → List A → List A
written x zero places = places
written x (suc n) places = set (written x n places) n (x n)

-- ══ a call with a list ══
pub record Ran : Type 0 where
  pub number : ℕ
  pub handled : ℕ
  pub accepted : ℕ
  pub tables : Tables
  pub memory : List ℕ
  -- the answer places: a number and a word each
  pub numbers : List ℕ
  pub words : List ℕ

-- the whole list refused with n: nothing handled, nothing written
abbrev pub refused : ℕ → Machine → List ℕ → List ℕ → Ran
refused n s numbers words = record {
  number = n;
  handled = 0;
  accepted = 0;
  tables = s.tables;
  memory = s.memory;
  numbers = numbers;
  words = words;
}

-- n actions handled
abbrev pub ran : (ℕ → Action) → ℕ → Machine → List ℕ → List ℕ → Ran
ran f n s numbers words = record {
  number = 0;
  handled = n;
  accepted = accepted_of f s n;
  tables = (after f n s).tables;
  memory = (after f n s).memory;
  numbers = written (λ i. (answer f s i).seen.number) n numbers;
  words = written (λ i. (answer f s i).seen.word) n words;
}

-- 1: memory, the list itself, or fewer answer places than actions; 2: tables not well formed
abbrev pub run_rules : Bool → ℕ → Machine → List ℕ → List ℕ → Rules
run_rules odd n s numbers words =
    odd or isnt (eqb (length s.memory) memory_words) or ltb (length numbers) n or ltb (length words) n ⇒ 1 ∣
    isnt (wf s.tables) ⇒ 2 ∣
    accept

abbrev pub listed : Bool → (ℕ → Action) → ℕ → Machine → List ℕ → List ℕ → Ran
listed odd f n s numbers words =
    let own = least (run_rules odd n s numbers words) in
    cond (eqb own 0) (ran f n s numbers words) (refused own s numbers words)

-- the frames in lent bytes; bytes that are no multiple of a frame's are odd
abbrev pub frame_at : List ℕ → ℕ → Action
frame_at bytes i = decode (take frame_bytes (drop (i * frame_bytes) bytes))

unfoldable pub run : List ℕ → Machine → List ℕ → List ℕ → Ran
run bytes s numbers words =
    listed (isnt (eqb (length bytes % frame_bytes) 0)) (frame_at bytes) (length bytes / frame_bytes) s numbers words

-- and actions already decoded
abbrev pub action_at : List Action → ℕ → Action
action_at actions i = get_or actions i (record { kind = 0; guest = 0; second = 0; access = 0; address = 0; page = 0; word = 0 })

unfoldable pub run_actions : List Action → Machine → List ℕ → List ℕ → Ran
run_actions actions s numbers words = listed false (action_at actions) (length actions) s numbers words
