-- Boot gives good order, whatever the masks; so do empty tables.
use mathlib.Core.Path.{◌≡◌}
use mathlib.Core.Bool.{Bool, true, false}
use mathlib.Core.List.{List}
use Prim.Native.Nat.{ℕ, zero, suc, ◌<◌}
use native.Mathlib.Omega.{arith}
use lib.Dec.{ltb}
use lib.ListN.{get_or, length, replicate, length-replicate, get_or-replicate}
use borrow.Author.Tests.{ltb-true, ltb-false}
use Rattle.numbers.specs.Sizes.{pages, units, map_room, tlb_room, pair_room}
use Rattle.numbers.proofs.Bools.{split, clash, isnt-no}
use Rattle.tables.specs.Table.{Shape, Each, Uniq}
use Rattle.tables.specs.Wants.{W}
use Rattle.tables.specs.State.{nobody, bit, pool, tabulate, bare, empty, boot, holder_of, dma_of, in_region, running_on}
use Rattle.tables.specs.Wf.{Wf, PageWf, WalkWf, Sized, wf}
use Rattle.tables.specs.declared.state.Tables.{Tables}
use Rattle.tables.specs.declared.state.Side.TheVariants.{Cpu, Iommu}
use Rattle.tables.proofs.WantLaws.{zero-free}
use Rattle.tables.proofs.LoopLaws.{get_d_past, Filled, length-tabulate, tabulate-at}
use Rattle.tables.proofs.WfLaws.{vm-agrees, no-guest-page, nobody-runs}
use Rattle.tables.proofs.WfAgrees.{wf-complete}

-- ── an empty table ──
module _ {A : Type 0} (K : Shape A) (dead : K.free K.zero ≡ true) where
  each-empty : {P : A → Type 0} (n : ℕ) → Each K P (replicate n K.zero)
  each-empty zero = Each.none
  each-empty (suc n) = Each.more (λ l. clash l (isnt-no dead)) (each-empty n)

  uniq-empty : {s : A → A → Bool} (n : ℕ) → Uniq K s (replicate n K.zero)
  uniq-empty zero = Uniq.none
  uniq-empty (suc n) = Uniq.more (λ l. clash l (isnt-no dead)) (uniq-empty n)

walk-empty : {here : List Bool} {may : ℕ → ℕ → Bool} → WalkWf here may (replicate map_room 0) (replicate tlb_room 0)
walk-empty = record {
  translation_wf = each-empty W zero-free map_room;
  map_keys = uniq-empty W zero-free map_room;
  tlb_safe = each-empty W zero-free tlb_room;
  tlb_range = each-empty W zero-free tlb_room;
  tlb_keys = uniq-empty W zero-free tlb_room;
}

-- a list of nobodies, also past its end
replicate-nobody : (n p : ℕ) → get_or (replicate n nobody) p nobody ≡ nobody
replicate-nobody n p = split (ltb p n)
    (λ t. get_or-replicate n p nobody nobody (ltb-true p n t))
    (λ t. get_d_past (replicate n nobody) nobody n p (length-replicate n nobody) (ltb-false p n t))

-- ── tables with nothing in them but holders that are no guests ──
module _
    (holders : List ℕ) (region : List Bool)
    (lh : length holders ≡ pages) (lr : length region ≡ pages)
    (none : (p : ℕ) → get_or holders p nobody < 2)
  where
    abbrev nothing : Tables
    nothing = bare holders region

    sized-bare : Sized nothing
    unfolding bare
    sized-bare = record {
      map = length-replicate _ _;
      tlb = length-replicate _ _;
      io_map = length-replicate _ _;
      io_tlb = length-replicate _ _;
      pairs = length-replicate _ _;
      holder = lh;
      dma = length-replicate _ _;
      region = lr;
      present = length-replicate _ _;
      running = length-replicate _ _;
    }

    page : (p : ℕ) → PageWf nothing.present (holder_of nothing p) (dma_of nothing p) (in_region nothing p)
    unfolding bare
    page p = rw (replicate-nobody pages p) (no-guest-page _ _ _ (none p))

    idle : (u : ℕ) → running_on nothing u ≡ nobody
    unfolding bare
    idle u = replicate-nobody units u

    pub bare-wf : Wf (bare holders region)
    unfolding bare
    bare-wf = record {
      sizes = sized-bare;
      pages_wf = page;
      cpus_wf = λ u. rw (idle u) ((vm-agrees _ nobody).0 (nobody-runs _));
      sharing_wf = each-empty W zero-free pair_room;
      pair_keys = uniq-empty W zero-free pair_room;
      walks_wf = elim [ Cpu ↦ walk-empty | Iommu ↦ walk-empty ];
    }

-- ── boot ──
pool-below : (mask p : ℕ) → pool mask p < 2
pool-below mask p = split (bit mask p) (λ e. rw e (omega arith)) (λ e. rw e (omega arith))

pool-no-guest : (mask p : ℕ) → get_or (tabulate pages (pool mask)) p nobody < 2
unfolding Filled
pool-no-guest mask p = split (ltb p pages)
    (λ t. rw (tabulate-at pages (pool mask) nobody p (ltb-true _ _ t)) (pool-below mask p))
    (λ t. rw (get_d_past (tabulate pages (pool mask)) nobody pages p (length-tabulate pages _) (ltb-false _ _ t)) (omega arith))

pub boot-wf : (hv rg : ℕ) → Wf (boot hv rg)
unfolding boot
boot-wf hv rg = bare-wf (tabulate pages (pool hv)) (tabulate pages (bit rg)) (length-tabulate pages _) (length-tabulate pages _) (pool-no-guest hv)

pub empty-wf : Wf empty
unfolding empty
empty-wf = bare-wf (replicate pages nobody) (replicate pages false) (length-replicate _ _) (length-replicate _ _) (λ p. rw (replicate-nobody pages p) (omega arith))

-- the test says so too
pub wf-boot : (hv rg : ℕ) → wf (boot hv rg) ≡ true
wf-boot hv rg = wf-complete (boot hv rg) (boot-wf hv rg)
