-- Good order: the source's `wf` and 01's paragraph on sizes, as a record of clauses under the source's names and as a test that
-- computes. A word that is not 0 is live, so free places are zero by construction. A page has one CPU holder and at most one DMA
-- holder, a pair stands for both directions, and one map stands for the software's and the hardware's, so that these clauses of
-- the source (holders apart, an edge's reverse, `sync`, `iommu_sync`) hold by construction too.
use Rattle.std.specs.Prelude.{ℕ, ◌<◌, ◌≡◌, Bool, true, false, List, eqb, ltb, get_or, length}
use Rattle.numbers.specs.Sizes.{guests, units, pages, gpages, accesses, map_room, tlb_room, pair_room}
use Rattle.numbers.specs.Tests.{◌and◌, ◌or◌, isnt}
use Rattle.numbers.specs.Search.{upto}
use Rattle.numbers.specs.Entries.{key_of, access_in, page_in, gpage_in, guest_in, unit_in, tag_in, at_unit, left_in, right_in, pair_tag_in}
use Rattle.tables.specs.Table.{find, Each, each, Uniq, uniq}
use Rattle.tables.specs.Wants.{W, has_key, same_entry, same_pair}
use Rattle.tables.specs.State.{nobody, hypervisor, guest, a_guest, guest_of, in_region, holder_of, dma_of, running_on, map_of, tlb_of, reach, may_reach}
use Rattle.tables.specs.declared.state.Tables.{Tables}
use Rattle.tables.specs.declared.state.Side.{Side}
use Rattle.tables.specs.declared.state.Side.TheVariants.{Cpu, Iommu}

-- ══ the clauses ══
-- an entry whose numbers are in range
pub record EntryWf (w : ℕ) : Type 0 where
  pub live_tag : tag_in w ≡ 1
  pub unit : unit_in w < units
  pub guest : guest_in w < guests
  pub gpage : gpage_in w < gpages
  pub page : page_in w < pages
  pub access : access_in w < accesses

-- an entry of a map: no unit, its guest is present and may reach its page
pub record MapRowWf (here : List Bool) (may : ℕ → ℕ → Bool) (x : ℕ) : Type 0 where
  pub entry : EntryWf x
  pub no_unit : unit_in x ≡ 0
  pub present : get_or here (guest_in x) false ≡ true
  pub entitled : may (guest_in x) (page_in x) ≡ true

-- a pair: numbers in range, two present guests that differ
pub record PairWf (here : List Bool) (q : ℕ) : Type 0 where
  pub live_tag : pair_tag_in q ≡ 1
  pub left : left_in q < guests
  pub right : right_in q < guests
  pub page : page_in q < pages
  pub access : access_in q ≡ 0
  pub differ : left_in q ≡ right_in q → ⊥
  pub left_present : get_or here (left_in q) false ≡ true
  pub right_present : get_or here (right_in q) false ≡ true

-- the map's entry for the guest and guest page of a TLB entry
abbrev pub home_of : List ℕ → ℕ → ℕ
home_of map y = find W (has_key (key_of 0 (guest_in y) (gpage_in y))) map

-- how many places each table has
pub record Sized (m : Tables) : Type 0 where
  pub map : length m.map ≡ map_room
  pub tlb : length m.tlb ≡ tlb_room
  pub io_map : length m.io_map ≡ map_room
  pub io_tlb : length m.io_tlb ≡ tlb_room
  pub pairs : length m.pairs ≡ pair_room
  pub holder : length m.holder ≡ pages
  pub dma : length m.dma ≡ pages
  pub region : length m.region ≡ pages
  pub present : length m.present ≡ guests
  pub running : length m.running ≡ units

-- a page, its CPU holder h and its DMA holder d
pub record PageWf (here : List Bool) (h d : ℕ) (shared : Bool) : Type 0 where
  -- a guest that holds it is present
  pub ownership_wf : (g : ℕ) → h ≡ guest g → get_or here g false ≡ true
  pub iommu_ownership_wf : (g : ℕ) → d ≡ guest g → get_or here g false ≡ true
  pub no_hypervisor_dma : d ≡ hypervisor → ⊥
  -- held by a guest for CPU and by a guest for DMA, it has one guest for both; no guest holds a page of the region
  pub one_guest : (g k : ℕ) → h ≡ guest g → d ≡ guest k → g ≡ k
  pub region_not_owned : (g : ℕ) → h ≡ guest g → shared ≡ false
  pub region_not_iommu_owned : (g : ℕ) → d ≡ guest g → shared ≡ false

-- a CPU that runs h: a guest that is present, or nobody
pub record CpuWf (here : List Bool) (h : ℕ) : Type 0 where
  pub active_vm_wf : (g : ℕ) → h ≡ guest g → get_or here g false ≡ true
  pub no_hypervisor_runs : h ≡ hypervisor → ⊥

-- a map and its TLB: at Cpu the source's `translation_wf` and `tlb_safe`, at Iommu its `iommu_translation_wf` and `iommu_tlb_safe`
pub record WalkWf (here : List Bool) (may : ℕ → ℕ → Bool) (map tlb : List ℕ) : Type 0 where
  pub translation_wf : Each W (MapRowWf here may) map
  pub map_keys : Uniq W same_entry map
  pub tlb_safe : Each W (λ y. home_of map y ≡ at_unit 0 y) tlb
  pub tlb_range : Each W EntryWf tlb
  pub tlb_keys : Uniq W same_entry tlb

pub record Wf (m : Tables) : Type 0 where
  pub sizes : Sized m
  pub pages_wf : (p : ℕ) → PageWf m.present (holder_of m p) (dma_of m p) (in_region m p)
  pub cpus_wf : (u : ℕ) → CpuWf m.present (running_on m u)
  pub sharing_wf : Each W (PairWf m.present) m.pairs
  pub pair_keys : Uniq W same_pair m.pairs
  pub walks_wf : (d : Side) → WalkWf m.present (may_reach d m) (map_of d m) (tlb_of d m)

-- ══ the test ══
-- nobody, or a guest that is present
unfoldable pub vm_ok : List Bool → ℕ → Bool
vm_ok present h = eqb h nobody or a_guest h and get_or present (guest_of h) false

-- a page's CPU holder h and DMA holder d, and whether it is in the region
unfoldable pub page_ok : List Bool → ℕ → ℕ → Bool → Bool
page_ok present h d shared =
    (eqb h hypervisor or vm_ok present h)
    and vm_ok present d
    and isnt (shared and (a_guest h or a_guest d))
    and (isnt (a_guest h and a_guest d) or eqb h d)

unfoldable pub entry_ok : ℕ → Bool
entry_ok w =
    eqb (tag_in w) 1
    and ltb (unit_in w) units
    and ltb (guest_in w) guests
    and ltb (gpage_in w) gpages
    and ltb (page_in w) pages
    and ltb (access_in w) accesses

unfoldable pub map_row_ok : Side → List Bool → List ℕ → List ℕ → List Bool → ℕ → Bool
map_row_ok d present held pairs region x =
    entry_ok x
    and eqb (unit_in x) 0
    and get_or present (guest_in x) false
    and reach d held pairs region (guest_in x) (page_in x)

unfoldable pub pair_ok : List Bool → ℕ → Bool
pair_ok present q =
    eqb (pair_tag_in q) 1
    and ltb (left_in q) guests
    and ltb (right_in q) guests
    and ltb (page_in q) pages
    and eqb (access_in q) 0
    and isnt (eqb (left_in q) (right_in q))
    and get_or present (left_in q) false
    and get_or present (right_in q) false

unfoldable pub cached : List ℕ → ℕ → Bool
cached map y = eqb (home_of map y) (at_unit 0 y)

-- each page, and each CPU
abbrev pub page_at : List Bool → List ℕ → List ℕ → List Bool → ℕ → Bool
page_at present holder dma region p = page_ok present (get_or holder p nobody) (get_or dma p nobody) (get_or region p false)

unfoldable pub pages_ok : List Bool → List ℕ → List ℕ → List Bool → Bool
pages_ok present holder dma region = upto pages (page_at present holder dma region)

abbrev pub cpu_at : List Bool → List ℕ → ℕ → Bool
cpu_at present running u = vm_ok present (get_or running u nobody)

unfoldable pub cpus_ok : List Bool → List ℕ → Bool
cpus_ok present running = upto units (cpu_at present running)

unfoldable pub walk_ok : Side → List ℕ → List ℕ → List Bool → List ℕ → List ℕ → List Bool → Bool
walk_ok d map tlb present held pairs region =
    each W (map_row_ok d present held pairs region) map
    and uniq W same_entry map
    and each W entry_ok tlb
    and uniq W same_entry tlb
    and each W (cached map) tlb

unfoldable pub sized : Tables → Bool
sized m =
    eqb (length m.map) map_room
    and eqb (length m.tlb) tlb_room
    and eqb (length m.io_map) map_room
    and eqb (length m.io_tlb) tlb_room
    and eqb (length m.pairs) pair_room
    and eqb (length m.holder) pages
    and eqb (length m.dma) pages
    and eqb (length m.region) pages
    and eqb (length m.present) guests
    and eqb (length m.running) units

unfoldable pub in_order : Tables → Bool
in_order m =
    pages_ok m.present m.holder m.dma m.region
    and cpus_ok m.present m.running
    and each W (pair_ok m.present) m.pairs
    and uniq W same_pair m.pairs
    and walk_ok Cpu m.map m.tlb m.present m.holder m.pairs m.region
    and walk_ok Iommu m.io_map m.io_tlb m.present m.dma m.pairs m.region

-- 2: tables not well formed
unfoldable pub wf : Tables → Bool
wf m = sized m and in_order m
