-- Worked examples, computed over the definitions: every number is given somewhere; every condition that is one of several under a number
-- decides by itself somewhere, also in tables that no boot reaches; and a list with its counts and places.
use mathlib.Core.Path.{◌≡◌, refl}
use mathlib.Core.Bool.{Bool, true, false, cond}
use mathlib.Core.List.{List, [], ◌∷◌, ◌++◌}
use Prim.Native.Nat.{ℕ, ◌+◌, ◌-◌, ◌^◌}
use lib.Dec.{eqb}
use lib.ListN.{replicate, set}
use Rattle.numbers.specs.Sizes.{guests, units, pages, gpages, accesses, page_words, access_span, page_span, gpage_span, guest_span, unit_span, map_room, tlb_room, pair_room, frame_bytes, guest_words, memory_words}
use Rattle.numbers.specs.Tests.{◌and◌, ◌or◌, isnt}
use Rattle.numbers.specs.Rules.{least}
use Rattle.numbers.specs.Search.{first, upto}
use Rattle.numbers.specs.Addresses.{page_of, offset_of, word_of}
use Rattle.numbers.specs.Entries.{key_of, entry, access_in, page_in, key_in, gpage_in, guest_in, unit_in, tag_in, at_unit, readable, writable, pair, right_in, left_in, pair_tag_in}
use Rattle.numbers.specs.Frames.{big, decode, kinds, row_of, uses, stray, beyond}
use Rattle.tables.specs.Table.{all, find, has, full, place, seat, put, wipe, each, uniq}
use Rattle.tables.specs.Wants.{has_key, of_guest, of_gpage, to_page, ends_at, joins}
use Rattle.tables.specs.State.{guest, reach, effective_entry, bare, bit, tabulate, boot}
use Rattle.tables.specs.Wf.{vm_ok, page_ok, entry_ok, map_row_ok, pair_ok, cached, pages_ok, cpus_ok, walk_ok, sized, in_order, wf}
use Rattle.tables.specs.declared.state.Tables.{Tables}
use Rattle.tables.specs.declared.state.Side.{Side}
use Rattle.tables.specs.declared.state.Side.TheVariants.{Cpu, Iommu}
use Rattle.rules.specs.Parts.{with_running, with_pairs, with_held, with_walk}
use Rattle.rules.specs.Actions.{Op, another, named, leans, cleared, clear_page, refusals, next, does, acted}
use Rattle.rules.specs.Actions.Op.{Read, Write, HyperCall, AddVm, RemoveVm, AssignPage, ReclaimPage, SharePage, UnsharePage, Map, Unmap, ContextSwitch, Fill, Drop, IommuAssignPage, IommuReclaimPage}
use Rattle.rules.specs.Calls.{◌then◌, act, after, answer, accepted_of, written, run}

-- ── how examples are put down ──
all_true : List Bool → Bool
all_true [] = true
all_true (b ∷ bs) = b and all_true bs

same : List ℕ → List ℕ → Bool
same [] [] = true
same [] (y ∷ ys) = false
same (x ∷ xs) [] = false
same (x ∷ xs) (y ∷ ys) = eqb x y and same xs ys

-- tables after some actions
done : Tables → List Op → Tables
done m [] = m
done m (o ∷ os) = done (next (refusals m o) m o) os

memory : List ℕ
memory = replicate memory_words 0

-- the action, of these tables, gets this number
gets : Tables → Op → ℕ → Bool
gets m o n = eqb (acted m o memory).seen.number n

-- a frame of a kind, with a guest, a second number, an address and a page
frame : ℕ → ℕ → ℕ → ℕ → ℕ → List ℕ
frame k g s a p = k ∷ g ∷ s ∷ 0 ∷ 0 ∷ a ∷ 0 ∷ p ∷ replicate 8 0

calls : Tables → List ℕ → List ℕ → ℕ → Bool
calls m bytes ws n = eqb (act m bytes ws).seen.number n

-- hypervisor pages 0 .. 15, region page 63, guests 1 and 2; then guest 1 has page 5, which it maps at guest page 2 and may only read
two : Tables
two = done (boot 0xffff (2 ^ 63)) (AddVm 1 ∷ AddVm 2 ∷ [])

five : Tables
five = done two (AssignPage 1 5 ∷ Map Cpu 1 2 5 1 ∷ ContextSwitch 1 0 ∷ [])

-- ── every number ──
numbers : List Bool
numbers =
    calls two (frame 0x19 0 3 0 0) memory 0
    -- 1: fifteen bytes, seventeen, a memory too short, one too long
    ∷ calls two (replicate (frame_bytes - 1) 0) memory 1
    ∷ calls two (replicate (frame_bytes + 1) 0) memory 1
    ∷ calls two (frame 0x19 0 3 0 0) (replicate (memory_words - 1) 0) 1
    ∷ calls two (frame 0x19 0 3 0 0) (replicate (memory_words + 1) 0) 1
    -- 2: a guest that runs is absent; before 3, after 1
    ∷ calls (with_running two (guest 3 ∷ 0 ∷ 0 ∷ 0 ∷ [])) (frame 0xff 0 0 0 0) memory 2
    ∷ calls (with_running two (guest 3 ∷ 0 ∷ 0 ∷ 0 ∷ [])) [] memory 1
    -- 3: unknown kind; an unused field, before a number out of range
    ∷ calls two (frame 0x06 0 0 0 0) memory 3
    ∷ calls two (frame 0x10 8 1 0 0) memory 3
    ∷ gets two (Read Cpu 1 0 guest_words) 4
    ∷ gets two (SharePage 8 8 5) 4
    -- 5 before 6: guest 7 is absent
    ∷ gets two (SharePage 7 7 5) 5
    ∷ gets two (UnsharePage 1 1 5) 5
    ∷ gets two (ContextSwitch 3 0) 6
    ∷ gets two (SharePage 1 3 5) 6
    ∷ gets two (SharePage 3 1 5) 6
    ∷ gets two (AddVm 1) 7
    -- 8: CPU 1 runs nobody; a stream acts in any guest's name
    ∷ gets five (Read Cpu 1 1 0x20) 8
    ∷ gets five (HyperCall 2 0 7) 8
    ∷ gets five (Read Iommu 1 1 0x20) 9
    ∷ gets five (Read Cpu 1 0 0x30) 9
    ∷ gets five (Fill Cpu 1 0 3) 9
    ∷ gets five (Read Cpu 1 0 0x2f) 0
    ∷ gets five (Write Cpu 1 0 0x2f 7) 10
    -- access 0 is an access, and allows nothing
    ∷ gets (done five (Map Cpu 1 2 5 0 ∷ [])) (Read Cpu 1 0 0x20) 10
    ∷ gets five (AssignPage 2 5) 11
    ∷ gets five (Map Cpu 2 0 5 1) 11
    ∷ gets five (IommuReclaimPage 1 5) 11
    ∷ gets (done (boot (2 ^ 63) (2 ^ 63)) (AddVm 1 ∷ [])) (AssignPage 1 63) 12
    ∷ gets (done two (IommuAssignPage 1 6 ∷ [])) (AssignPage 2 6) 12
    ∷ gets (done two (IommuAssignPage 1 6 ∷ [])) (AssignPage 1 6) 0
    ∷ gets (done two (IommuAssignPage 1 6 ∷ [])) (IommuAssignPage 2 6) 12
    ∷ gets five (IommuAssignPage 2 5) 12
    ∷ gets five (IommuAssignPage 1 63) 12
    -- a page of nobody is given to devices
    ∷ gets five (IommuAssignPage 2 20) 0
    ∷ gets five (ReclaimPage 1 5) 13
    ∷ gets two (UnsharePage 1 2 5) 14
    ∷ gets two (Unmap Cpu 1 2) 14
    ∷ gets five (Unmap Iommu 1 2) 14
    ∷ gets five (Drop Cpu 1 0 2) 14
    -- a filled entry stands at its own unit
    ∷ gets (done five (Fill Cpu 1 3 2 ∷ [])) (Drop Cpu 1 3 2) 0
    ∷ gets (done five (Fill Cpu 1 3 2 ∷ [])) (Drop Cpu 1 0 2) 14
    ∷ []

-- ── tables built by hand ──
-- one side's map, or one side's TLB, with one entry in it
with-map : Side → Tables → ℕ → Tables
with-map d m x = with_walk d m (set (replicate map_room 0) 0 x) (replicate tlb_room 0)

with-tlb : Side → Tables → ℕ → Tables
with-tlb d m y = with_walk d m (replicate map_room 0) (set (replicate tlb_room 0) 0 y)

with_pair : Tables → ℕ → Tables
with_pair m q = with_pairs m (set (replicate pair_room 0) 0 q)

-- page 5 held by a guest, on a side
held : Side → Tables → ℕ → Tables
held d m g = with_held d m (tabulate pages (λ p. cond (eqb p 5) (guest g) 0))

-- guest 1 holds page 5, shares it with guest 2 and maps it at as many guest pages as there is room for; CPU 0 has as many of them
full-map : Tables
full-map = with_walk Cpu (with_pair (held Cpu two 1) (pair 1 2 5 0)) (tabulate map_room (λ v. entry 0 1 v 5 1)) (tabulate tlb_room (λ v. entry 0 1 v 5 1))

clauses : List Bool
clauses =
    -- RemoveVm, by each of its eight clauses alone
    gets two (RemoveVm 1) 0
    ∷ gets (held Cpu two 1) (RemoveVm 1) 13
    ∷ gets (held Iommu two 1) (RemoveVm 1) 13
    ∷ gets (with-map Cpu two (entry 0 1 0 5 1)) (RemoveVm 1) 13
    ∷ gets (with-map Iommu two (entry 0 1 0 5 1)) (RemoveVm 1) 13
    ∷ gets (with-tlb Cpu two (entry 3 1 0 5 1)) (RemoveVm 1) 13
    ∷ gets (with-tlb Iommu two (entry 3 1 0 5 1)) (RemoveVm 1) 13
    ∷ gets (with_pair two (pair 2 1 5 0)) (RemoveVm 1) 13
    ∷ gets (with_running two (0 ∷ 0 ∷ 0 ∷ guest 1 ∷ [])) (RemoveVm 1) 13
    -- ReclaimPage: a stage-2 entry, a TLB entry or a pair, each alone; IOMMU state is not looked at
    ∷ gets (held Cpu two 1) (ReclaimPage 1 5) 0
    ∷ gets (with-map Cpu (held Cpu two 1) (entry 0 2 0 5 1)) (ReclaimPage 1 5) 13
    ∷ gets (with-tlb Cpu (held Cpu two 1) (entry 0 2 0 5 1)) (ReclaimPage 1 5) 13
    ∷ gets (with_pair (held Cpu two 1) (pair 1 2 5 0)) (ReclaimPage 1 5) 13
    ∷ gets (with-map Iommu (held Cpu two 1) (entry 0 1 0 5 1)) (ReclaimPage 1 5) 0
    -- IommuReclaimPage: a map's entry or a TLB's
    ∷ gets (held Iommu two 1) (IommuReclaimPage 1 5) 0
    ∷ gets (with-map Iommu (held Iommu two 1) (entry 0 1 0 5 1)) (IommuReclaimPage 1 5) 13
    ∷ gets (with-tlb Iommu (held Iommu two 1) (entry 0 1 0 5 1)) (IommuReclaimPage 1 5) 13
    ∷ gets (with-map Cpu (held Iommu two 1) (entry 0 1 0 5 1)) (IommuReclaimPage 1 5) 0
    -- UnsharePage: either end that maps the page and does not hold it; in either order
    ∷ gets (with_pair (held Cpu two 1) (pair 1 2 5 0)) (UnsharePage 2 1 5) 0
    ∷ gets (with-map Cpu (with_pair (held Cpu two 1) (pair 1 2 5 0)) (entry 0 2 0 5 1)) (UnsharePage 1 2 5) 13
    ∷ gets (with-map Cpu (with_pair (held Cpu two 1) (pair 1 2 5 0)) (entry 0 2 0 5 1)) (UnsharePage 2 1 5) 13
    ∷ gets (with-map Cpu (with_pair (held Cpu two 1) (pair 1 2 5 0)) (entry 0 1 0 5 1)) (UnsharePage 1 2 5) 0
    ∷ gets (with-map Cpu (with_pair (held Cpu two 1) (pair 1 2 5 0)) (entry 0 2 0 6 1)) (UnsharePage 1 2 5) 0
    -- what maps the page but shares nothing is not in the way
    ∷ gets (with-map Cpu (held Cpu two 1) (entry 0 2 0 5 1)) (UnsharePage 1 2 5) 14
    -- no room: every place live and the key or the pair absent
    ∷ gets full-map (Map Cpu 2 0 5 1) 15
    ∷ gets full-map (Map Cpu 1 0 5 3) 0
    ∷ gets full-map (Fill Cpu 1 0 tlb_room) 15
    ∷ gets full-map (Fill Cpu 1 0 0) 0
    ∷ gets (done full-map (Unmap Cpu 1 7 ∷ [])) (Map Cpu 2 0 5 1) 0
    ∷ gets (done full-map (Drop Cpu 1 0 7 ∷ [])) (Fill Cpu 1 0 tlb_room) 0
    ∷ gets (with_pairs (held Cpu two 1) (tabulate pair_room (λ p. pair 1 2 (6 + p) 0))) (SharePage 1 2 5) 15
    ∷ gets (with_pairs (held Cpu two 1) (set (tabulate pair_room (λ p. pair 1 2 (6 + p) 0)) 0 (pair 2 1 5 0))) (SharePage 1 2 5) 0
    ∷ []

-- a second pair excuses nothing: guest 1 holds page 5, pairs 1-2 and 2-3 stand on it, guest 2 maps it; the tables are in good order
second-pair : Tables
second-pair = with-map Cpu
    (with_pairs (done two (AddVm 3 ∷ AssignPage 1 5 ∷ [])) (set (set (replicate pair_room 0) 0 (pair 1 2 5 0)) 1 (pair 2 3 5 0)))
    (entry 0 2 0 5 1)

excuses : List Bool
excuses = wf second-pair ∷ gets second-pair (UnsharePage 1 2 5) 13 ∷ gets second-pair (UnsharePage 3 2 5) 13 ∷ []

-- ── a list: guest 1 comes, cannot come again, gets CPU 0; four places, of which the last is kept ──
frames : List ℕ
frames = frame 0x10 1 0 0 0 ++ frame 0x10 1 0 0 0 ++ frame 0x18 1 0 0 0

ran : List ℕ → List ℕ → ℕ → List ℕ → List ℕ → List ℕ → ℕ → ℕ → ℕ → Bool
ran bytes ws places running numbers words number handled accepted =
    let r = run bytes (record { tables = boot 0xffff 0; memory = ws }) (replicate places 99) (replicate places 88) in
    same r.tables.running running and same r.numbers numbers and same r.words words
    and eqb r.number number and eqb r.handled handled and eqb r.accepted accepted

lists : List Bool
lists =
    ran frames memory 4 (guest 1 ∷ 0 ∷ 0 ∷ 0 ∷ []) (0 ∷ 7 ∷ 0 ∷ 99 ∷ []) (0 ∷ 0 ∷ 0 ∷ 88 ∷ []) 0 3 2
    -- one place too few, one byte too many, a memory too short: refused whole
    ∷ ran frames memory 2 (replicate 4 0) (replicate 2 99) (replicate 2 88) 1 0 0
    ∷ ran (0 ∷ frames) memory 4 (replicate 4 0) (replicate 4 99) (replicate 4 88) 1 0 0
    ∷ ran frames (replicate (memory_words - 1) 0) 4 (replicate 4 0) (replicate 4 99) (replicate 4 88) 1 0 0
    ∷ ran [] memory 0 (replicate 4 0) [] [] 0 0 0
    ∷ []

worked : all_true (numbers ++ clauses ++ excuses ++ lists) ≡ true
unfolding all_true same done memory gets frame calls two five numbers with-map with-tlb with_pair held full-map clauses second-pair excuses frames ran lists guests units pages gpages accesses page_words access_span page_span gpage_span guest_span unit_span map_room tlb_room pair_room frame_bytes ◌and◌ ◌or◌ isnt least first upto page_of offset_of word_of key_of entry access_in page_in key_in gpage_in guest_in unit_in tag_in at_unit readable writable pair right_in left_in pair_tag_in big decode kinds row_of uses stray beyond all find has full place seat put wipe each uniq has_key of_guest of_gpage to_page ends_at joins reach effective_entry bare bit tabulate boot vm_ok page_ok entry_ok map_row_ok pair_ok cached pages_ok cpus_ok walk_ok sized in_order wf another named leans cleared clear_page next does ◌then◌ act after answer accepted_of written run
worked = refl
