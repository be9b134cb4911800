-- What demand 3 asks is needed, and so are the rules that it rests on: leave one out, and there are two runs that tell a secret.
-- The secret is a word of guest 1's, 7 in one run and 9 in the other; the runs differ in nothing else, and guest 2 or its device reads
-- it. Beside them stand the same runs with the hypothesis met, or the rule in its place, and these tell nothing.
--
-- In all of them guest 1 runs on CPU 0 and guest 2 on CPU 1; each has its page at its own guest page 0, and the word is word 3 there.
use mathlib.Core.Path.{◌≡◌, refl}
use mathlib.Core.Bool.{Bool, true}
use mathlib.Core.List.{List, [], ◌∷◌, ◌++◌, map}
use Prim.Native.Nat.{ℕ, ◌+◌, ◌^◌}
use lib.Dec.{eqb}
use lib.ListN.{length, replicate}
use Rattle.numbers.specs.Sizes.{guests, units, pages, gpages, accesses, page_words, access_span, page_span, gpage_span, guest_span, unit_span, map_room, tlb_room, pair_room}
use Rattle.numbers.specs.Tests.{◌and◌, ◌or◌, isnt}
use Rattle.numbers.specs.Rules.{least}
use Rattle.numbers.specs.Search.{first, upto}
use Rattle.numbers.specs.Addresses.{page_of, offset_of, word_of}
use Rattle.numbers.specs.Entries.{key_of, entry, access_in, page_in, key_in, gpage_in, guest_in, unit_in, tag_in, at_unit, readable, writable, pair, right_in, left_in, pair_tag_in}
use Rattle.numbers.specs.Frames.{kinds, row_of, uses, stray, beyond}
use Rattle.tables.specs.Table.{all, find, has, full, place, seat, put, wipe, each, uniq}
use Rattle.tables.specs.Wants.{has_key, of_guest, of_gpage, to_page, ends_at, joins}
use Rattle.tables.specs.State.{reach, effective_entry, bare, bit, tabulate, boot}
use Rattle.tables.specs.Wf.{vm_ok, page_ok, entry_ok, pair_ok, cached, pages_ok, cpus_ok, walk_ok, sized, in_order, wf}
use Rattle.tables.specs.declared.state.Tables.{Tables}
use Rattle.tables.specs.declared.state.Side.TheVariants.{Cpu, Iommu}
use Rattle.rules.specs.Actions.{another, leans, cleared, clear_page, next, does, Outcome}
use Rattle.rules.specs.Actions.Op.{Read, Write, AddVm, AssignPage, ReclaimPage, SharePage, UnsharePage, Map, ContextSwitch, Fill}
use Rattle.rules.specs.Calls.{◌then◌, taken, Machine}
use Rattle.rules.proofs.Asking.{frame_of}
use Rattle.isolation.specs.Marks.{ours, outward, marks, with_word, gives_away}
use Rattle.isolation.specs.Faults.{Step, gives, dma_gives, asks, dma_asks, unmaps, region_gives, gives_unwiped, dma_gives_unwiped, asks_nobody, dma_asks_nobody, unmaps_half, region_unasked, without, result, ended, outcomes}
use Rattle.isolation.specs.Faults.Step.{right}
use Rattle.isolation.proofs.Examples.{all_true, equal, done, two, held, filled, five_full}

-- ══ what a run tells: a run is given by the secret ══
numbers : List Outcome → List ℕ
numbers rs = map (λ (r : Outcome). r.seen.number) rs

words : List Outcome → List ℕ
words rs = map (λ (r : Outcome). r.seen.word) rs

last : ℕ → List ℕ → ℕ
last w [] = w
last w (x ∷ xs) = last x xs

-- every step is accepted, and the last hands the secret back
hands-back : (ℕ → List Outcome) → ℕ → Bool
hands-back run w = equal (numbers (run w)) (replicate (length (run w)) 0) and eqb (last 0 (words (run w))) w

tells : (ℕ → List Outcome) → Bool
tells run = hands-back run 7 and hands-back run 9

-- the steps get these numbers whatever the secret is, and the same words
silent : (ℕ → List Outcome) → List ℕ → Bool
silent run ns = equal (numbers (run 7)) ns and equal (numbers (run 9)) ns and equal (words (run 7)) (words (run 9))

-- a run with the step done wrong tells the secret, and with the step as it is it does not
matters : Step → Step → (Step → ℕ → List Outcome) → List ℕ → Bool
matters wrong as_it_is run ns = tells (run wrong) and silent (run as_it_is) ns

-- ══ what the runs are made of ══
-- guest 1 maps a page, runs, and writes the secret there
speaks : ℕ → ℕ → List Step
speaks p w = right (Map Cpu 1 0 p 3) ∷ right (ContextSwitch 1 0) ∷ right (Write Cpu 1 0 0x03 w) ∷ []

-- guest 2 runs, and reads
reads : List Step
reads = right (ContextSwitch 2 1) ∷ right (Read Cpu 2 1 0x03) ∷ []

-- a device of guest 2 reads
dma_reads : List Step
dma_reads = right (Read Iommu 2 0 0x03) ∷ []

-- guest 1 holds page 5, and that is full of the secret
holding : ℕ → Machine
holding w = record { tables = held; memory = five_full w }

-- guest 1 holds pages 5 and 6, and shares page 5 with guest 2
shared : Tables
shared = done two (AssignPage 1 5 ∷ SharePage 1 2 5 ∷ AssignPage 1 6 ∷ [])

-- both in good order; page 5 is marked where it is not shared
starts : List Bool
starts = wf held ∷ marks (eqb 1) held 5 ∷ wf shared ∷ isnt (marks (eqb 1) shared 5) ∷ marks (eqb 1) shared 6 ∷ []

-- ══ the hypotheses: every step is right ══
-- where they are met guest 2 may not even map the page
met : Bool
met = silent (λ w. outcomes (holding w) (asks ∷ reads)) (11 ∷ 0 ∷ 9 ∷ [])

-- no share of a marked page with somebody outside is accepted. Here one is
not_shared : List Bool
not_shared =
    gives_away (eqb 1) (marks (eqb 1) held) (SharePage 1 2 5)
    ∷ tells (λ w. outcomes (holding w) (right (SharePage 1 2 5) ∷ asks ∷ reads))
    ∷ met
    ∷ []

-- the memories are equal outside marked pages. Here they differ in page 5, which is not marked when it is shared
equal-outside : List Bool
equal-outside = tells (λ w. outcomes (record { tables = shared; memory = five_full w }) (asks ∷ reads)) ∷ met ∷ []

-- another word is written only into a marked page. Here it goes into page 5; from page 6, which is marked, guest 2 learns nothing
marked-written : List Bool
marked-written =
    tells (λ w. outcomes (record { tables = shared; memory = filled 0 }) (speaks 5 w ++ asks ∷ reads))
    ∷ silent (λ w. outcomes (record { tables = shared; memory = filled 0 }) (speaks 6 w ++ asks ∷ reads)) (replicate 6 0)
    ∷ []

-- the tables are the same. Here guest 2 may map page 5 in the one run and not in the other, and is told so by a number
equal-tables : List Bool
equal-tables =
    equal (numbers (outcomes (record { tables = shared; memory = filled 0 }) (asks ∷ []))) (0 ∷ [])
    ∷ equal (numbers (outcomes (record { tables = held; memory = filled 0 }) (asks ∷ []))) (11 ∷ [])
    ∷ []

-- only a write has another word. In a frame that has no use for one, a word is refused
equal-actions : List Bool
equal-actions =
    eqb (taken two (frame_of (ContextSwitch 1 0)) (filled 0)).seen.number 0
    ∷ eqb (taken two (with_word 9 (frame_of (ContextSwitch 1 0))) (filled 0)).seen.number 3
    ∷ []

-- ══ rules without which marked words are read ══
-- AssignPage and IommuAssignPage zero the page: it comes from guest 1, and this step gives it to guest 2 or its devices
reassigned : Step → ℕ → List Outcome
reassigned giving w = outcomes (holding w) (right (ReclaimPage 1 5) ∷ giving ∷ asks ∷ reads)

dma-reassigned : Step → ℕ → List Outcome
dma-reassigned giving w = outcomes (holding w) (right (ReclaimPage 1 5) ∷ giving ∷ dma_asks ∷ dma_reads)

wiped : List Bool
wiped =
    matters gives_unwiped gives reassigned (replicate 5 0)
    ∷ matters dma_gives_unwiped dma_gives dma-reassigned (replicate 4 0)
    ∷ []

-- Map and IommuMap ask who holds the page
asked : List Bool
asked =
    matters asks_nobody asks (λ mapping w. outcomes (holding w) (mapping ∷ reads)) (11 ∷ 0 ∷ 9 ∷ [])
    ∷ matters dma_asks_nobody dma_asks (λ mapping w. outcomes (holding w) (mapping ∷ dma_reads)) (11 ∷ 9 ∷ [])
    ∷ []

-- ══ well-formed tables, and the rules that keep them so ══
-- The wrong step comes before the start of the runs: it leaves tables that are not well formed. From there on every step is right, no
-- page is shared, and the runs differ only in the word that guest 1 writes into its marked page.
--
-- Unmap drops the entries of all CPUs. Guest 2 had page 5 from guest 1, and CPU 1 has its entry; guest 2 unmaps the page, and the
-- sharing ends. So guest 1 has the page to itself; but where CPU 1 has kept the entry, guest 2 reads there
lent : Machine
lent = record { tables = done two (AssignPage 1 5 ∷ SharePage 1 2 5 ∷ Map Cpu 2 0 5 1 ∷ Fill Cpu 2 1 0 ∷ []); memory = filled 0 }

returned : Step → Machine
returned unmapping = ended lent (unmapping ∷ right (UnsharePage 1 2 5) ∷ [])

dropped : List Bool
dropped =
    marks (eqb 1) (returned unmaps_half).tables 5
    ∷ isnt (wf (returned unmaps_half).tables)
    ∷ marks (eqb 1) (returned unmaps).tables 5
    ∷ wf (returned unmaps).tables
    ∷ matters unmaps_half unmaps (λ unmapping w. outcomes (returned unmapping) (speaks 5 w ++ reads)) (0 ∷ 0 ∷ 0 ∷ 0 ∷ 9 ∷ [])
    ∷ []

-- AssignPage gives no guest a page of the region, for there the devices of all guests may read. Page 63 is in both masks; guest 1 writes
-- there if it is given the page, and is refused if it is not
both-masks : Machine
both-masks = record { tables = done (boot (0xffff + 2 ^ 63) (2 ^ 63)) (AddVm 1 ∷ AddVm 2 ∷ []); memory = filled 0 }

given : Step → Machine
given giving = ended both-masks (giving ∷ [])

region-read : Step → ℕ → List Outcome
region-read giving w = outcomes (given giving) (speaks 63 w ++ right (Map Iommu 2 0 63 1) ∷ dma_reads)

region-kept : List Bool
region-kept =
    marks (eqb 1) (given region_unasked).tables 63
    ∷ isnt (wf (given region_unasked).tables)
    ∷ wf (given region_gives).tables
    ∷ matters region_unasked region_gives region-read (11 ∷ 0 ∷ 9 ∷ 0 ∷ 0 ∷ [])
    ∷ []

pub tales : List Bool
tales =
    starts ++ not_shared ++ equal-outside ++ marked-written ++ equal-tables ++ equal-actions ++ wiped ++ asked ++ dropped ++ region-kept

pub told : all_true tales ≡ true
unfolding gives dma_gives asks dma_asks unmaps region_gives gives_unwiped dma_gives_unwiped asks_nobody dma_asks_nobody unmaps_half region_unasked without result ended outcomes numbers words last hands-back tells silent matters speaks reads dma_reads holding shared starts met not_shared equal-outside marked-written equal-tables equal-actions reassigned dma-reassigned wiped asked lent returned dropped both-masks given region-read region-kept tales all_true equal done two held filled five_full guests units pages gpages accesses page_words access_span page_span gpage_span guest_span unit_span map_room tlb_room pair_room ◌and◌ ◌or◌ isnt least first upto page_of offset_of word_of key_of entry access_in page_in key_in gpage_in guest_in unit_in tag_in at_unit readable writable pair right_in left_in pair_tag_in kinds row_of uses stray beyond all find has full place seat put wipe each uniq has_key of_guest of_gpage to_page ends_at joins reach effective_entry bare bit tabulate boot vm_ok page_ok entry_ok pair_ok cached pages_ok cpus_ok walk_ok sized in_order wf another leans cleared clear_page next does ◌then◌ ours outward marks
told = refl
