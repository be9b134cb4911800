-- Demand 3: two runs that differ only in marked words look the same to everybody outside. It is stated for a group of guests, given as a
-- test of a guest's number; one guest g is the group `eqb g` (`OneGuest` says in 01's words what these definitions then are).
use Rattle.std.specs.Prelude.{ℕ, zero, suc, ◌<◌, ◌≡◌, Bool, true, false, List, eqb, leb, length, get_or}
use Rattle.numbers.specs.Tests.{◌and◌, ◌or◌, isnt}
use Rattle.numbers.specs.Rules.{Rules}
use Rattle.numbers.specs.Addresses.{page_of}
use Rattle.numbers.specs.Entries.{left_in, right_in}
use Rattle.numbers.specs.declared.frames.Action.{Action}
use Rattle.tables.specs.Table.{has}
use Rattle.tables.specs.Wants.{W, to_page}
use Rattle.tables.specs.State.{a_guest, guest_of, holder_of, dma_of}
use Rattle.tables.specs.declared.state.Tables.{Tables}
use Rattle.rules.specs.Actions.{Op, Touch, accepted, does, Outcome}
use Rattle.rules.specs.Actions.Op.{Read, Write, HyperCall, AddVm, RemoveVm, AssignPage, ReclaimPage, SharePage, UnsharePage, Map, Unmap, ContextSwitch, Idle, Fill, Drop, IommuAssignPage, IommuReclaimPage}
use Rattle.rules.specs.Actions.Touch.{Keeps, Reads, Writes, Clears}
use Rattle.isolation.specs.Demands.{SameTally}
use Rattle.rules.specs.Calls.{op_of, action_rules, Machine, after, answer, Ran}

abbrev pub Group : Type 0
Group = ℕ → Bool

abbrev pub Marks : Type 0
Marks = ℕ → Bool

-- ══ marked pages ══
-- a holder is a member
unfoldable pub ours : Group → ℕ → Bool
ours G h = a_guest h and G (guest_of h)

-- a pair has an end outside
unfoldable pub outward : Group → ℕ → Bool
outward G q = isnt (G (left_in q)) or isnt (G (right_in q))

-- a pair on the page that leads out
abbrev pub leads_out : Group → ℕ → ℕ → Bool
leads_out G p q = to_page p q and outward G q

-- at the start: a member holds the page for CPU or DMA, and no pair on it leads out
unfoldable pub marks : Group → Tables → Marks
marks G m p = (ours G (holder_of m p) or ours G (dma_of m p)) and isnt (has W (leads_out G p) m.pairs)

-- a mark goes when an action zeroes the page, and not otherwise
abbrev pub zeroes : Touch → ℕ → Bool
zeroes (Clears p) q = eqb p q
zeroes Keeps q = false
zeroes (Reads at) q = false
zeroes (Writes at w) q = false

unfoldable pub left_marked : Touch → Marks → Marks
left_marked t k p = k p and isnt (zeroes t p)

-- what the action at place i does with the words of memory
abbrev pub touch_at : (ℕ → Action) → Machine → ℕ → Touch
touch_at f s i = let m = (after f i s).tables in does (action_rules m (f i)) m (op_of (f i))

-- the marks after the first n actions
unfoldable pub still_marked : Marks → (ℕ → Action) → Machine → ℕ → Marks
still_marked k f s zero = k
still_marked k f s (suc n) = left_marked (touch_at f s n) (still_marked k f s n)

-- ══ two runs ══
-- 02 Write, 05 DmaWrite
abbrev pub writes : Action → Bool
writes a = eqb a.kind 0x02 or eqb a.kind 0x05

abbrev pub with_word : ℕ → Action → Action
with_word w a = record {
  kind = a.kind;
  guest = a.guest;
  second = a.second;
  access = a.access;
  address = a.address;
  page = a.page;
  word = w;
}

-- a word that is written goes into a marked page; a refused action writes none
abbrev pub lands_in : Marks → Touch → Bool
lands_in k (Writes at w) = k (page_of at)
lands_in k Keeps = true
lands_in k (Reads at) = true
lands_in k (Clears p) = true

-- the same action; or a member or its device writes another word into a page still marked. t is what the first one does
pub data Same (G : Group) (k : Marks) (t : Touch) : Action → Action → Type 0 where
  same : {a : Action} → Same G k t a a
  wrote : {a : Action} {w : ℕ} → writes a ≡ true → G a.guest ≡ true → lands_in k t ≡ true → Same G k t a (with_word w a)

-- a share of a marked page with somebody outside
abbrev pub gives_away : Group → Marks → Op → Bool
gives_away G k (SharePage l r p) = k p and (isnt (G l) or isnt (G r))
gives_away G k (Read d g u a) = false
gives_away G k (Write d g u a w) = false
gives_away G k (HyperCall g u w) = false
gives_away G k (AddVm g) = false
gives_away G k (RemoveVm g) = false
gives_away G k (AssignPage g p) = false
gives_away G k (ReclaimPage g p) = false
gives_away G k (UnsharePage l r p) = false
gives_away G k (Map d g v p x) = false
gives_away G k (Unmap d g v) = false
gives_away G k (ContextSwitch g u) = false
gives_away G k (Idle u) = false
gives_away G k (Fill d g u v) = false
gives_away G k (Drop d g u v) = false
gives_away G k (IommuAssignPage g p) = false
gives_away G k (IommuReclaimPage g p) = false

-- one place of the two lists, where the first run has the marks k, the refusals and the tables m
pub record Matched (G : Group) (k : Marks) (rules : Rules) (m : Tables) (a b : Action) : Type 0 where
  pub same : Same G k (does rules m (op_of a)) a b
  -- no share of a marked page with somebody outside is accepted
  pub kept : (accepted rules and gives_away G k (op_of a)) ≡ false

-- words that are equal outside marked pages
pub record Alike (k : Marks) (ws vs : List ℕ) : Type 0 where
  pub long : length ws ≡ length vs
  pub equal : (i : ℕ) → k (page_of i) ≡ false → get_or ws i 0 ≡ get_or vs i 0

-- two lists of n actions, from two states that are alike in everything but the words of marked pages
pub record Twins (G : Group) (s t : Machine) (f h : ℕ → Action) (n : ℕ) : Type 0 where
  pub tables : s.tables ≡ t.tables
  pub memory : Alike (marks G s.tables) s.memory t.memory
  pub actions : (i : ℕ) → i < n →
      let m = (after f i s).tables in Matched G (still_marked (marks G s.tables) f s i) (action_rules m (f i)) m (f i) (h i)

-- ══ what is then equal ══
-- whom an answer goes to: kinds 01 to 05 are asked by a guest or its device, all others by the hypervisor
unfoldable pub to_member : Group → Action → Bool
to_member G a = leb 0x01 a.kind and leb a.kind 0x05 and G a.guest

pub record Isolated (G : Group) (s t : Machine) (f h : ℕ → Action) (n : ℕ) : Type 0 where
  -- the numbers, a member's too
  pub numbers : (i : ℕ) → i < n → (answer f s i).seen.number ≡ (answer h t i).seen.number
  -- the words, but for those that a member or its device gets
  pub words : (i : ℕ) → i < n → to_member G (f i) ≡ false → (answer f s i).seen.word ≡ (answer h t i).seen.word
  pub tables : (after f n s).tables ≡ (after h n t).tables
  pub memory : Alike (still_marked (marks G s.tables) f s n) (after f n s).memory (after h n t).memory

-- ══ and at the calls ══
-- one action or one frame, a, that does t in the first run: what the two calls come to
pub record SameAnswer (G : Group) (k : Marks) (t : Touch) (a : Action) (x y : Outcome) : Type 0 where
  pub number : x.seen.number ≡ y.seen.number
  pub word : to_member G a ≡ false → x.seen.word ≡ y.seen.word
  pub tables : x.tables ≡ y.tables
  pub memory : Alike (left_marked t k) x.memory y.memory

-- a list f from the state s
pub record SameRan (G : Group) (f : ℕ → Action) (s : Machine) (x y : Ran) : Type 0 where
  pub tally : SameTally x y
  pub memory : Alike (still_marked (marks G s.tables) f s x.handled) x.memory y.memory
  -- the answer places: all words but those for a member
  pub words : (i : ℕ) → (i < x.handled → to_member G (f i) ≡ false) → get_or x.words i 0 ≡ get_or y.words i 0
