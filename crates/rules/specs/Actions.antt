-- The actions of 01: of each its refusals in order, what it does to the tables, and what it does with the words of memory.
-- Refusals and tables are made from the tables and the action alone: no word of memory can reach them.
--
-- Of a table of words (`Table` in crate `tables`; W says that 0 is a free place): `has` says whether a live row passes a test, `find`
-- gives the first that does, `no_room` says that none does and every place is live, `place` puts a row at the lowest free place, `put`
-- over the row that passes or else there, and `wipe` sets every row that passes to 0. `invalidated g v` is the wipe of a guest's
-- entries for a guest page on every unit.
--
-- Numbers 1 and 2 are a call's and 3 a frame's: they stand in front of these (`Calls`).
use Rattle.std.specs.Prelude.{ℕ, zero, suc, ◌+◌, Bool, true, false, cond, Option, None, Some, List, eqb, ltb, length, get_or, set}
use Rattle.numbers.specs.Sizes.{guests, units, pages, gpages, accesses, page_words, guest_words}
use Rattle.numbers.specs.Tests.{◌and◌, ◌or◌, isnt}
use Rattle.numbers.specs.Rules.{Rules, least}
use Rattle.numbers.specs.Rules.Rules.{accept, ◌⇒◌∣◌}
use Rattle.numbers.specs.Search.{first}
use Rattle.numbers.specs.Addresses.{page_of, offset_of, word_of}
use Rattle.numbers.specs.Entries.{key_of, entry, at_unit, page_in, pair}
use Rattle.numbers.specs.Frames.{off}
use Rattle.numbers.specs.declared.answers.Seen.{Seen}
use Rattle.tables.specs.Table.{find, has, no_room, place, put, wipe}
use Rattle.tables.specs.Wants.{W, has_key, of_guest, maps, ends_at, shared_by, invalidated}
use Rattle.tables.specs.State.{nobody, hypervisor, guest, a_guest, is_present, in_region, holder_of, dma_of, running_on, by_side, map_of, tlb_of, may_reach, lookup, nothing, can_read, can_write, page_is_quiescent, iommu_page_is_quiescent}
use Rattle.tables.specs.declared.state.Tables.{Tables}
use Rattle.tables.specs.declared.state.Side.{Side}
use Rattle.tables.specs.declared.state.Side.TheVariants.{Cpu, Iommu}
use Rattle.rules.specs.Parts.{with_present, with_running, with_pairs, with_held, with_walk}

-- ══ what may be asked ══
-- guest g, left and right guest l r, unit u (a CPU, or a stream), word address a, guest page v, page p, access x, word w
pub data Op : Type 0 where
  Read : Side → (g u a : ℕ) → Op  -- 01, 04 DmaRead
  Write : Side → (g u a w : ℕ) → Op  -- 02, 05 DmaWrite
  HyperCall : (g u w : ℕ) → Op  -- 03
  AddVm : (g : ℕ) → Op  -- 10
  RemoveVm : (g : ℕ) → Op  -- 11
  AssignPage : (g p : ℕ) → Op  -- 12
  ReclaimPage : (g p : ℕ) → Op  -- 13
  SharePage : (l r p : ℕ) → Op  -- 14
  UnsharePage : (l r p : ℕ) → Op  -- 15
  Map : Side → (g v p x : ℕ) → Op  -- 16, 22 IommuMap
  Unmap : Side → (g v : ℕ) → Op  -- 17, 23 IommuUnmap
  ContextSwitch : (g u : ℕ) → Op  -- 18
  Idle : (u : ℕ) → Op  -- 19
  Fill : Side → (g u v : ℕ) → Op  -- 1a, 24 IommuFill
  Drop : Side → (g u v : ℕ) → Op  -- 1b, 25 IommuDrop
  IommuAssignPage : (g p : ℕ) → Op  -- 20
  IommuReclaimPage : (g p : ℕ) → Op  -- 21

-- ══ the tests that refusals are made of ══
-- 6: a named guest is absent
abbrev pub absent : Tables → ℕ → Bool
absent m g = isnt (is_present m g)

-- 8: the CPU does not run the guest; a stream may act in any guest's name
abbrev pub elsewhere : Side → Tables → ℕ → ℕ → Bool
elsewhere d m u g = by_side d (isnt (eqb (running_on m u) (guest g))) false

-- 9, 10: what an access finds, a TLB hit before the map
abbrev pub seen : Side → Tables → ℕ → ℕ → ℕ → Option ℕ
seen d m g u a = lookup (map_of d m) (tlb_of d m) u g (page_of a)

-- who holds the page, for CPU and for DMA
abbrev pub holds : Tables → ℕ → ℕ → Bool
holds m g p = eqb (holder_of m p) (guest g)

abbrev pub dma_holds : Tables → ℕ → ℕ → Bool
dma_holds m g p = eqb (dma_of m p) (guest g)

-- 12: a holder is a guest, and another one
unfoldable pub another : ℕ → ℕ → Bool
another g h = a_guest h and isnt (eqb h (guest g))

-- a list of holders names h
unfoldable pub named : ℕ → List ℕ → Bool
named h t = ltb (first (eqb h) t) (length t)

-- 13: the guest maps the page and is not its CPU holder
unfoldable pub leans : Tables → ℕ → ℕ → Bool
leans m g p = has W (maps g p) m.map and isnt (holds m g p)

-- 13: the guest holds a page, has an entry in a map or TLB, is in a pair or runs on a CPU
abbrev pub in_use : Tables → ℕ → Bool
in_use m g =
    named (guest g) m.holder or named (guest g) m.dma
    or has W (of_guest g) m.map or has W (of_guest g) m.io_map
    or has W (of_guest g) m.tlb or has W (of_guest g) m.io_tlb
    or has W (ends_at g) m.pairs or named (guest g) m.running

-- ══ refusals: the first whose condition holds is the answer ══
abbrev pub refusals : Tables → Op → Rules
-- 01 Read, 04 DmaRead
refusals m (Read d g u a) =
    off g guests or off u units or off a guest_words ⇒ 4 ∣
    absent m g ⇒ 6 ∣
    elsewhere d m u g ⇒ 8 ∣
    nothing (seen d m g u a) ⇒ 9 ∣
    isnt (can_read (seen d m g u a)) ⇒ 10 ∣
    accept
-- 02 Write, 05 DmaWrite
refusals m (Write d g u a w) =
    off g guests or off u units or off a guest_words ⇒ 4 ∣
    absent m g ⇒ 6 ∣
    elsewhere d m u g ⇒ 8 ∣
    nothing (seen d m g u a) ⇒ 9 ∣
    isnt (can_write (seen d m g u a)) ⇒ 10 ∣
    accept
-- 03 HyperCall
refusals m (HyperCall g u w) =
    off g guests or off u units ⇒ 4 ∣
    absent m g ⇒ 6 ∣
    elsewhere Cpu m u g ⇒ 8 ∣
    accept
-- 10 AddVm
refusals m (AddVm g) =
    off g guests ⇒ 4 ∣
    is_present m g ⇒ 7 ∣
    accept
-- 11 RemoveVm
refusals m (RemoveVm g) =
    off g guests ⇒ 4 ∣
    absent m g ⇒ 6 ∣
    in_use m g ⇒ 13 ∣
    accept
-- 12 AssignPage
refusals m (AssignPage g p) =
    off g guests or off p pages ⇒ 4 ∣
    absent m g ⇒ 6 ∣
    isnt (eqb (holder_of m p) hypervisor) ⇒ 11 ∣
    in_region m p or another g (dma_of m p) ⇒ 12 ∣
    accept
-- 13 ReclaimPage
refusals m (ReclaimPage g p) =
    off g guests or off p pages ⇒ 4 ∣
    absent m g ⇒ 6 ∣
    isnt (holds m g p) ⇒ 11 ∣
    isnt (page_is_quiescent m.map m.tlb m.pairs p) ⇒ 13 ∣
    accept
-- 14 SharePage
refusals m (SharePage l r p) =
    off l guests or off r guests or off p pages ⇒ 4 ∣
    eqb l r ⇒ 5 ∣
    absent m l or absent m r ⇒ 6 ∣
    isnt (holds m l p) ⇒ 11 ∣
    no_room W (shared_by l r p) m.pairs ⇒ 15 ∣
    accept
-- 15 UnsharePage
refusals m (UnsharePage l r p) =
    off l guests or off r guests or off p pages ⇒ 4 ∣
    eqb l r ⇒ 5 ∣
    absent m l or absent m r ⇒ 6 ∣
    has W (shared_by l r p) m.pairs and (leans m l p or leans m r p) ⇒ 13 ∣
    isnt (has W (shared_by l r p) m.pairs) ⇒ 14 ∣
    accept
-- 16 Map, 22 IommuMap
refusals m (Map d g v p x) =
    off g guests or off v gpages or off p pages or off x accesses ⇒ 4 ∣
    absent m g ⇒ 6 ∣
    isnt (may_reach d m g p) ⇒ 11 ∣
    no_room W (has_key (key_of 0 g v)) (map_of d m) ⇒ 15 ∣
    accept
-- 17 Unmap, 23 IommuUnmap
refusals m (Unmap d g v) =
    off g guests or off v gpages ⇒ 4 ∣
    absent m g ⇒ 6 ∣
    isnt (has W (has_key (key_of 0 g v)) (map_of d m)) ⇒ 14 ∣
    accept
-- 18 ContextSwitch
refusals m (ContextSwitch g u) =
    off g guests or off u units ⇒ 4 ∣
    absent m g ⇒ 6 ∣
    accept
-- 19 Idle
refusals m (Idle u) =
    off u units ⇒ 4 ∣
    accept
-- 1a Fill, 24 IommuFill
refusals m (Fill d g u v) =
    off g guests or off u units or off v gpages ⇒ 4 ∣
    absent m g ⇒ 6 ∣
    isnt (has W (has_key (key_of 0 g v)) (map_of d m)) ⇒ 9 ∣
    no_room W (has_key (key_of u g v)) (tlb_of d m) ⇒ 15 ∣
    accept
-- 1b Drop, 25 IommuDrop
refusals m (Drop d g u v) =
    off g guests or off u units or off v gpages ⇒ 4 ∣
    absent m g ⇒ 6 ∣
    isnt (has W (has_key (key_of u g v)) (tlb_of d m)) ⇒ 14 ∣
    accept
-- 20 IommuAssignPage
refusals m (IommuAssignPage g p) =
    off g guests or off p pages ⇒ 4 ∣
    absent m g ⇒ 6 ∣
    in_region m p or another g (dma_of m p) or another g (holder_of m p) ⇒ 12 ∣
    accept
-- 21 IommuReclaimPage
refusals m (IommuReclaimPage g p) =
    off g guests or off p pages ⇒ 4 ∣
    absent m g ⇒ 6 ∣
    isnt (dma_holds m g p) ⇒ 11 ∣
    isnt (iommu_page_is_quiescent m.io_map m.io_tlb p) ⇒ 13 ∣
    accept

-- ══ what an accepted action does to the tables ══
abbrev pub effect : Tables → Op → Tables
effect m (AddVm g) = with_present m (set m.present g true)
effect m (RemoveVm g) = with_present m (set m.present g false)
effect m (AssignPage g p) = with_held Cpu m (set m.holder p (guest g))
effect m (ReclaimPage g p) = with_held Cpu m (set m.holder p hypervisor)
-- a standing pair stays as it is
effect m (SharePage l r p) = with_pairs m (cond (has W (shared_by l r p) m.pairs) m.pairs (place W (pair l r p 0) m.pairs))
effect m (UnsharePage l r p) = with_pairs m (wipe W (shared_by l r p) m.pairs)
effect m (Map d g v p x) = with_walk d m (put W (has_key (key_of 0 g v)) (entry 0 g v p x) (map_of d m)) (invalidated g v (tlb_of d m))
effect m (Unmap d g v) = with_walk d m (wipe W (has_key (key_of 0 g v)) (map_of d m)) (invalidated g v (tlb_of d m))
effect m (ContextSwitch g u) = with_running m (set m.running u (guest g))
effect m (Idle u) = with_running m (set m.running u nobody)
effect m (Fill d g u v) = with_walk d m (map_of d m)
    (put W (has_key (key_of u g v)) (at_unit u (find W (has_key (key_of 0 g v)) (map_of d m))) (tlb_of d m))
effect m (Drop d g u v) = with_walk d m (map_of d m) (wipe W (has_key (key_of u g v)) (tlb_of d m))
effect m (IommuAssignPage g p) = with_held Iommu m (set m.dma p (guest g))
effect m (IommuReclaimPage g p) = with_held Iommu m (set m.dma p nobody)
effect m (Read d g u a) = m
effect m (Write d g u a w) = m
effect m (HyperCall g u w) = m

-- ══ what it does with the words ══
pub data Touch : Type 0 where
  Keeps : Touch
  Reads : (at : ℕ) → Touch
  Writes : (at w : ℕ) → Touch
  Clears : (p : ℕ) → Touch

-- the word of memory that a translation leads to
abbrev pub word_at : Option ℕ → ℕ → ℕ
word_at (Some w) a = word_of (page_in w) (offset_of a)
word_at None a = 0

abbrev pub touch : Tables → Op → Touch
touch m (Read d g u a) = Reads (word_at (seen d m g u a) a)
touch m (Write d g u a w) = Writes (word_at (seen d m g u a) a) w
touch m (AssignPage g p) = Clears p
-- newly DMA-held, and the guest is not CPU holder
touch m (IommuAssignPage g p) = cond (dma_holds m g p or holds m g p) Keeps (Clears p)
touch m (HyperCall g u w) = Keeps
touch m (AddVm g) = Keeps
touch m (RemoveVm g) = Keeps
touch m (ReclaimPage g p) = Keeps
touch m (SharePage l r p) = Keeps
touch m (UnsharePage l r p) = Keeps
touch m (Map d g v p x) = Keeps
touch m (Unmap d g v) = Keeps
touch m (ContextSwitch g u) = Keeps
touch m (Idle u) = Keeps
touch m (Fill d g u v) = Keeps
touch m (Drop d g u v) = Keeps
touch m (IommuReclaimPage g p) = Keeps

-- n words from place i on become 0
unfoldable pub cleared : ℕ → ℕ → List ℕ → List ℕ
cleared zero i ws = ws
cleared (suc n) i ws = set (cleared n i ws) (i + n) 0

-- all words of a page
unfoldable pub clear_page : ℕ → List ℕ → List ℕ
clear_page p ws = cleared page_words (word_of p 0) ws

-- the memory after it
abbrev pub touched : Touch → List ℕ → List ℕ
touched Keeps ws = ws
touched (Reads at) ws = ws
touched (Writes at w) ws = set ws at w
touched (Clears p) ws = clear_page p ws

-- the word that it hands back
abbrev pub handed_back : Touch → List ℕ → ℕ
handed_back (Reads at) ws = get_or ws at 0
handed_back Keeps ws = 0
handed_back (Writes at w) ws = 0
handed_back (Clears p) ws = 0

-- ══ one action under its refusals: accepted where none applies; a refused one changes nothing and hands back 0 ══
abbrev pub accepted : Rules → Bool
accepted rules = eqb (least rules) 0

unfoldable pub next : Rules → Tables → Op → Tables
next rules m o = cond (accepted rules) (effect m o) m

unfoldable pub does : Rules → Tables → Op → Touch
does rules m o = cond (accepted rules) (touch m o) Keeps

pub record Outcome : Type 0 where
  pub seen : Seen
  pub tables : Tables
  pub memory : List ℕ

abbrev pub outcome : Rules → Tables → Op → List ℕ → Outcome
outcome rules m o ws = record {
  seen = record { number = least rules; word = handed_back (does rules m o) ws };
  tables = next rules m o;
  memory = touched (does rules m o) ws;
}

-- an action by itself, whatever the tables
abbrev pub acted : Tables → Op → List ℕ → Outcome
acted m o ws = outcome (refusals m o) m o ws
