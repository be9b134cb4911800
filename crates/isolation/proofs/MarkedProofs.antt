-- The marked proofs of 01, all twelve as one list under one claim, computed over the definitions. Each is a call, or several, with a list
-- of whole decoded actions (`run_actions`): lengths, good order and every frame are checked as for any caller. 01's own words stand above
-- each case.
use mathlib.Core.Path.{◌≡◌, refl}
use mathlib.Core.Bool.{Bool, true}
use mathlib.Core.List.{List, [], ◌∷◌, map}
use Prim.Native.Nat.{ℕ, ◌+◌, ◌^◌}
use lib.Dec.{eqb}
use lib.ListN.{length, get_or, replicate, take, drop, set}
use Rattle.numbers.specs.Sizes.{guests, units, pages, gpages, accesses, page_words, access_span, page_span, gpage_span, guest_span, unit_span, map_room, tlb_room, pair_room}
use Rattle.numbers.specs.Tests.{◌and◌, ◌or◌, isnt}
use Rattle.numbers.specs.Rules.{least}
use Rattle.numbers.specs.Search.{first, upto}
use Rattle.numbers.specs.Addresses.{page_of, offset_of, word_of}
use Rattle.numbers.specs.Entries.{key_of, entry, access_in, page_in, key_in, gpage_in, guest_in, unit_in, tag_in, at_unit, readable, writable, pair, right_in, left_in, pair_tag_in}
use Rattle.numbers.specs.Frames.{kinds, row_of, uses, stray, beyond}
use Rattle.tables.specs.Table.{all, find, has, full, seat, put, wipe, each, uniq}
use Rattle.tables.specs.Wants.{W, has_key, of_guest, of_gpage, to_page, ends_at, joins}
use Rattle.tables.specs.State.{guest, holder_of, dma_of, reach, effective_entry, bare, bit, tabulate, boot}
use Rattle.tables.specs.Wf.{vm_ok, page_ok, entry_ok, map_row_ok, pair_ok, cached, pages_ok, cpus_ok, walk_ok, sized, in_order, wf}
use Rattle.tables.specs.declared.state.Tables.{Tables}
use Rattle.tables.specs.declared.state.Side.TheVariants.{Cpu, Iommu}
use Rattle.rules.specs.Parts.{with_pairs, with_walk}
use Rattle.rules.specs.Actions.{Op, another, named, leans, cleared, clear_page, next, does}
use Rattle.rules.specs.Actions.Op.{Read, Write, AddVm, RemoveVm, AssignPage, ReclaimPage, SharePage, UnsharePage, Map, Unmap, ContextSwitch, Idle, Fill, IommuAssignPage}
use Rattle.rules.specs.Calls.{◌then◌, after, answer, written, Ran, run_actions}
use Rattle.rules.proofs.Asking.{frame_of}
use Rattle.isolation.proofs.Examples.{all_true, equal, done, two, held, filled, five_full}

-- ── how a case is put down ──
-- the call with a list of decoded actions; 99 stands in every answer place before it
call : Tables → List ℕ → List Op → Ran
call m ws os = run_actions (map frame_of os) (record { tables = m; memory = ws }) (replicate (length os) 99) (replicate (length os) 99)

-- the actions, one after the other, get these numbers
get : Tables → List Op → List ℕ → Bool
get m os numbers = equal (call m (filled 0) os).numbers numbers

-- the words of a page
page : ℕ → List ℕ → List ℕ
page p ws = take page_words (drop (word_of p 0) ws)

-- ── the cases ──
-- 1. Page 5 full of 7s, assigned to 1: 0, sixteen zeros. (The pages beside it keep their 7s.)
case₁ : Bool
case₁ =
    let r = call two (filled 7) (AssignPage 1 5 ∷ []) in
    equal r.numbers (0 ∷ [])
    and equal (page 5 r.memory) (replicate 16 0)
    and equal (page 4 r.memory) (replicate 16 7)
    and equal (page 6 r.memory) (replicate 16 7)

-- 2. Then to 2: 11.
case₂ : Bool
case₂ = get two (AssignPage 1 5 ∷ AssignPage 2 5 ∷ []) (0 ∷ 11 ∷ [])

-- 3. Share 1 with 1: 5. (Whoever holds the page.)
case₃ : Bool
case₃ = get two (SharePage 1 1 5 ∷ AssignPage 1 5 ∷ SharePage 1 1 5 ∷ []) (5 ∷ 0 ∷ 5 ∷ [])

-- 4. Page 6 DMA-assigned to 1: 0; assigned to 2: 12; to 1: 0.
case₄ : Bool
case₄ = get two (IommuAssignPage 1 6 ∷ AssignPage 2 6 ∷ AssignPage 1 6 ∷ []) (0 ∷ 12 ∷ 0 ∷ [])

-- 5. Page 63 assigned: 11; were it in both masks: 12.
case₅ : Bool
case₅ =
    get two (AssignPage 1 63 ∷ []) (11 ∷ [])
    and get (boot (0xffff + 2 ^ 63) (2 ^ 63)) (AddVm 1 ∷ AssignPage 1 63 ∷ []) (0 ∷ 12 ∷ [])

-- 6. Guest 3 present, 1 CPU holder of page 5, pairs 1-2 and 2-3 on it, 2 maps it: unshare 1-2 gives 13. (In either order.)
-- No actions lead to these tables, for only the CPU holder shares: they are put down by hand, and are in good order.
two-pairs : Tables
two-pairs =
    let m = done two (AddVm 3 ∷ AssignPage 1 5 ∷ []) in
    let pairs = set (set (replicate pair_room 0) 0 (pair 1 2 5 0)) 1 (pair 2 3 5 0) in
    with_walk Cpu (with_pairs m pairs) (set (replicate map_room 0) 0 (entry 0 2 0 5 1)) (replicate tlb_room 0)

case₆ : Bool
case₆ = wf two-pairs and get two-pairs (UnsharePage 1 2 5 ∷ UnsharePage 2 1 5 ∷ []) (13 ∷ 13 ∷ [])

-- 7. Page 5 held by 1 for CPU and DMA, only IOMMU-mapped: reclaim 0; assign to 2: 12.
iommu-mapped : Tables
iommu-mapped = done two (AssignPage 1 5 ∷ IommuAssignPage 1 5 ∷ Map Iommu 1 0 5 3 ∷ [])

case₇ : Bool
case₇ =
    eqb (holder_of iommu-mapped 5) (guest 1)
    and eqb (dma_of iommu-mapped 5) (guest 1)
    and has W (to_page 5) iommu-mapped.io_map
    and get iommu-mapped (ReclaimPage 1 5 ∷ AssignPage 2 5 ∷ []) (0 ∷ 12 ∷ [])

-- 8. IommuMap over a key filled on four streams: all four gone.
four-filled : Tables
four-filled = done two (IommuAssignPage 1 5 ∷ Map Iommu 1 9 5 1 ∷ Fill Iommu 1 0 9 ∷ Fill Iommu 1 1 9 ∷ Fill Iommu 1 2 9 ∷ Fill Iommu 1 3 9 ∷ [])

-- streams 0 .. 3 that have guest page 9 of guest 1
filled_on : Tables → List Bool
filled_on m = map (λ u. has W (has_key (key_of u 1 9)) m.io_tlb) (0 ∷ 1 ∷ 2 ∷ 3 ∷ [])

case₈ : Bool
case₈ =
    let r = call four-filled (filled 0) (Map Iommu 1 9 5 3 ∷ []) in
    all_true (filled_on four-filled)
    and equal r.numbers (0 ∷ [])
    and all_true (map isnt (filled_on r.tables))

-- 9. Word 4095: offset 15 of guest page 255; 4096: 4. (Written there, it is the last word of the page that is mapped.)
last-gpage : Tables
last-gpage = done two (AssignPage 1 5 ∷ Map Cpu 1 255 5 3 ∷ ContextSwitch 1 0 ∷ [])

case₉ : Bool
case₉ =
    let r = call last-gpage (filled 0) (Write Cpu 1 0 4095 7 ∷ Read Cpu 1 0 4095 ∷ Write Cpu 1 0 4096 7 ∷ Read Cpu 1 0 4096 ∷ []) in
    eqb (page_of 4095) 255
    and eqb (offset_of 4095) 15
    and equal r.numbers (0 ∷ 0 ∷ 4 ∷ 4 ∷ [])
    and equal r.words (0 ∷ 7 ∷ 0 ∷ 0 ∷ [])
    and eqb (get_or r.memory (word_of 5 15) 0) 7

-- 10. 65th key: 15; overwriting one: 0; after an unmap: 0.
sixty-four : Tables
sixty-four = done two (AssignPage 1 5 ∷ tabulate 64 (λ v. Map Cpu 1 v 5 1))

case₁₀ : Bool
case₁₀ =
    full W sixty-four.map
    and isnt (has W (has_key (key_of 0 1 64)) sixty-four.map)
    and has W (has_key (key_of 0 1 7)) sixty-four.map
    and get sixty-four (Map Cpu 1 64 5 1 ∷ Map Cpu 1 7 5 3 ∷ Unmap Cpu 1 7 ∷ Map Cpu 1 64 5 1 ∷ []) (15 ∷ 0 ∷ 0 ∷ 0 ∷ [])

-- 11. Remove 1, only left on CPU 3: 13; after Idle: 0.
case₁₁ : Bool
case₁₁ = get two (ContextSwitch 1 3 ∷ RemoveVm 1 ∷ Idle 3 ∷ RemoveVm 1 ∷ []) (0 ∷ 13 ∷ 0 ∷ 0 ∷ [])

-- 12. Page 5, held by 1, has 7 in one run, 9 in the other; reclaimed, assigned to 2, mapped readable, read on a CPU running 2: 0 in both.
handed-on : ℕ → Ran
handed-on w = call held (five_full w)
    (ReclaimPage 1 5 ∷ AssignPage 2 5 ∷ Map Cpu 2 0 5 1 ∷ ContextSwitch 2 0 ∷ Read Cpu 2 0 3 ∷ [])

case₁₂ : Bool
case₁₂ =
    equal (page 5 (five_full 7)) (replicate 16 7)
    and equal (page 5 (five_full 9)) (replicate 16 9)
    and equal (handed-on 7).numbers (replicate 5 0)
    and equal (handed-on 9).numbers (replicate 5 0)
    and equal (handed-on 7).words (replicate 5 0)
    and equal (handed-on 9).words (replicate 5 0)

pub cases : List Bool
cases = case₁ ∷ case₂ ∷ case₃ ∷ case₄ ∷ case₅ ∷ case₆ ∷ case₇ ∷ case₈ ∷ case₉ ∷ case₁₀ ∷ case₁₁ ∷ case₁₂ ∷ []

pub marked-proofs : all_true cases ≡ true
unfolding all_true equal done two held filled five_full call get page case₁ case₂ case₃ case₄ case₅ two-pairs case₆ iommu-mapped case₇ four-filled filled_on case₈ last-gpage case₉ sixty-four case₁₀ case₁₁ handed-on case₁₂ cases guests units pages gpages accesses page_words access_span page_span gpage_span guest_span unit_span map_room tlb_room pair_room ◌and◌ ◌or◌ isnt least first upto page_of offset_of word_of key_of entry access_in page_in key_in gpage_in guest_in unit_in tag_in at_unit readable writable pair right_in left_in pair_tag_in kinds row_of uses stray beyond all find has full seat put wipe each uniq has_key of_guest of_gpage to_page ends_at joins reach effective_entry bare bit tabulate boot vm_ok page_ok entry_ok map_row_ok pair_ok cached pages_ok cpus_ok walk_ok sized in_order wf another named leans cleared clear_page next does ◌then◌ after answer written run_actions
marked-proofs = refl
