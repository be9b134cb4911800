-- The tables: who holds what, the two sides, lookup, quiescence, boot.
use Rattle.std.specs.Prelude.{ℕ, zero, suc, ◌+◌, ◌-◌, ◌/◌, ◌%◌, ◌^◌, Bool, true, false, cond, Option, None, Some, List, [], ◌∷◌, ◌++◌, eqb, leb, get_or, replicate}
use Rattle.numbers.specs.Sizes.{guests, units, pages, map_room, tlb_room, pair_room}
use Rattle.numbers.specs.Tests.{◌and◌, ◌or◌, isnt}
use Rattle.numbers.specs.Entries.{key_of, readable, writable}
use Rattle.tables.specs.Table.{live, find, has}
use Rattle.tables.specs.Wants.{W, has_key, to_page, shared_with, found}
use Rattle.tables.specs.declared.state.Tables.{Tables}
use Rattle.tables.specs.declared.state.Side.{Side}
use Rattle.tables.specs.declared.state.Side.TheVariants.{Cpu, Iommu}

-- ── who holds or runs, as a number ──
abbrev pub nobody : ℕ
nobody = 0

abbrev pub hypervisor : ℕ
hypervisor = 1

abbrev pub guest : ℕ → ℕ
guest g = 2 + g

abbrev pub a_guest : ℕ → Bool
a_guest h = leb 2 h

-- which guest that is
abbrev pub guest_of : ℕ → ℕ
guest_of h = h - 2

-- ── the tables by index: past the end absent, nobody, outside ──
abbrev pub is_present : Tables → ℕ → Bool
is_present m g = get_or m.present g false

abbrev pub in_region : Tables → ℕ → Bool
in_region m p = get_or m.region p false

abbrev pub holder_of : Tables → ℕ → ℕ
holder_of m p = get_or m.holder p nobody

abbrev pub dma_of : Tables → ℕ → ℕ
dma_of m p = get_or m.dma p nobody

abbrev pub running_on : Tables → ℕ → ℕ
running_on m u = get_or m.running u nobody

-- ── the two sides ──
abbrev pub by_side : {A : Type 0} → Side → A → A → A
by_side Cpu a b = a
by_side Iommu a b = b

abbrev pub map_of : Side → Tables → List ℕ
map_of d m = by_side d m.map m.io_map

abbrev pub tlb_of : Side → Tables → List ℕ
tlb_of d m = by_side d m.tlb m.io_tlb

abbrev pub held_on : Side → Tables → List ℕ
held_on d m = by_side d m.holder m.dma

-- may the guest's entries lead to the page: on the CPU side the holder's and those of an end of a pair on it, on the IOMMU
-- side the DMA holder's and any guest's in the region
unfoldable pub reach : Side → List ℕ → List ℕ → List Bool → ℕ → ℕ → Bool
reach d held pairs region g p = eqb (get_or held p nobody) (guest g) or by_side d (has W (shared_with g p) pairs) (get_or region p false)

abbrev pub may_reach : Side → Tables → ℕ → ℕ → Bool
may_reach d m g p = reach d (held_on d m) m.pairs m.region g p

-- ── translation: a TLB hit comes before the map; 0 where there is none ──
unfoldable pub effective_entry : List ℕ → List ℕ → ℕ → ℕ → ℕ → ℕ
effective_entry map tlb u g v =
    let cached = find W (has_key (key_of u g v)) tlb in
    cond (live W cached) cached (find W (has_key (key_of 0 g v)) map)

abbrev pub lookup : List ℕ → List ℕ → ℕ → ℕ → ℕ → Option ℕ
lookup map tlb u g v = found (effective_entry map tlb u g v)

-- 9: no translation
abbrev pub nothing : Option ℕ → Bool
nothing (Some w) = false
nothing None = true

-- 10: access not allowed
abbrev pub can_read : Option ℕ → Bool
can_read (Some w) = readable w
can_read None = false

abbrev pub can_write : Option ℕ → Bool
can_write (Some w) = writable w
can_write None = false

-- ── nothing leads to a page any more ──
abbrev pub iommu_page_is_quiescent : List ℕ → List ℕ → ℕ → Bool
iommu_page_is_quiescent map tlb p = isnt (has W (to_page p) map) and isnt (has W (to_page p) tlb)

abbrev pub page_is_quiescent : List ℕ → List ℕ → List ℕ → ℕ → Bool
page_is_quiescent map tlb pairs p = iommu_page_is_quiescent map tlb p and isnt (has W (to_page p) pairs)

-- ── empty tables, and boot: bit n of a mask is page n ──
-- no guest, no entry, no pair: only who holds the pages, and the region
unfoldable pub bare : List ℕ → List Bool → Tables
bare holders region = record {
  map = replicate map_room 0;
  tlb = replicate tlb_room 0;
  io_map = replicate map_room 0;
  io_tlb = replicate tlb_room 0;
  pairs = replicate pair_room 0;
  holder = holders;
  dma = replicate pages nobody;
  region = region;
  present = replicate guests false;
  running = replicate units nobody;
}

unfoldable pub empty : Tables
empty = bare (replicate pages nobody) (replicate pages false)

unfoldable pub bit : ℕ → ℕ → Bool
bit mask n = eqb (mask / 2 ^ n % 2) 1

-- f 0, f 1 .. f (n - 1)
unfoldable pub tabulate : {A : Type 0} → ℕ → (ℕ → A) → List A
tabulate zero f = []
tabulate (suc n) f = tabulate n f ++ f n ∷ []

-- a page of the mask is the hypervisor's, any other nobody's
abbrev pub pool : ℕ → ℕ → ℕ
pool mask p = cond (bit mask p) hypervisor nobody

unfoldable pub boot : ℕ → ℕ → Tables
boot hypervisor-mask region-mask = bare (tabulate pages (pool hypervisor-mask)) (tabulate pages (bit region-mask))
