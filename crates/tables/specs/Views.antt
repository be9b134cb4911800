-- The source's state, read off these tables and a memory under its own names, and its `wf` clause by clause. A guest, a page, a
-- guest page and a unit are numbers. A set is a test. A map gives the entry of a key, or 0 where it has none; only numbers in range
-- are keys.
use Rattle.std.specs.Prelude.{ℕ, ◌≡◌, Bool, true, cond, List, ◌⊎◌, eqb, ltb}
use Rattle.numbers.specs.Sizes.{guests, units, gpages}
use Rattle.numbers.specs.Tests.{◌and◌, ◌or◌}
use Rattle.numbers.specs.Entries.{key_of, page_in, at_unit}
use Rattle.tables.specs.Table.{live, find, has}
use Rattle.tables.specs.Wants.{W, has_key, shared_by}
use Rattle.tables.specs.State.{hypervisor, guest, is_present, in_region, holder_of, dma_of, running_on, map_of, tlb_of}
use Rattle.tables.specs.declared.state.Tables.{Tables}
use Rattle.tables.specs.declared.state.Side.{Side}
use Rattle.tables.specs.declared.state.Side.TheVariants.{Cpu, Iommu}

-- `s2_map` at Cpu is the source's `s2_map` and its `hw_s2map`, at Iommu its `iommu_s2_map` and its `iommu_hw_s2map`: one stored map
-- each, so that `sync` and `iommu_sync` have nothing left to say. `tlb` at Cpu is its `tlb`, at Iommu its `iommu_tlb`. A guest that
-- owns nothing has the empty set: `vm_owned` and `iommu_owned` have their domain by themselves. `active_vm` gives who runs as a holder's
-- number, nobody where the source's map has no key.
pub record MachineState : Type 0 where
  pub all_vms : ℕ → Bool
  pub hypervisor_owned : ℕ → Bool
  pub vm_owned : ℕ → ℕ → Bool
  pub shared_pages : ℕ → ℕ → ℕ → Bool
  pub s2_map : Side → ℕ → ℕ → ℕ
  pub iommu_owned : ℕ → ℕ → Bool
  pub iommu_shared : ℕ → Bool
  pub tlb : Side → ℕ → ℕ → ℕ → ℕ
  pub active_vm : ℕ → ℕ
  pub memory : List ℕ

-- the entry under a key
unfoldable pub entry_at : List ℕ → ℕ → ℕ → ℕ → ℕ
entry_at t u g v = cond (ltb u units and ltb g guests and ltb v gpages) (find W (has_key (key_of u g v)) t) 0

abbrev pub view : Tables → List ℕ → MachineState
view m ws = record {
  all_vms = λ g. is_present m g;
  hypervisor_owned = λ p. eqb (holder_of m p) hypervisor;
  vm_owned = λ g p. eqb (holder_of m p) (guest g);
  -- both directions of a pair
  shared_pages = λ l r p. has W (shared_by l r p) m.pairs;
  s2_map = λ d g v. entry_at (map_of d m) 0 g v;
  iommu_owned = λ g p. eqb (dma_of m p) (guest g);
  iommu_shared = λ p. in_region m p;
  tlb = λ d u g v. entry_at (tlb_of d m) u g v;
  active_vm = λ u. running_on m u;
  memory = ws;
}

-- ── tests of the state ──
abbrev pub InS2Map : Side → MachineState → ℕ → ℕ → Type 0
InS2Map d s g v = live W (s.s2_map d g v) ≡ true

abbrev pub InTlb : Side → MachineState → ℕ → ℕ → ℕ → Type 0
InTlb d s u g v = live W (s.tlb d u g v) ≡ true

abbrev pub CpuRuns : MachineState → ℕ → ℕ → Type 0
CpuRuns s u g = s.active_vm u ≡ guest g

-- some edge on the page has the guest as an end
pub record SharedWith (s : MachineState) (g p : ℕ) : Type 0 where
  pub other : ℕ
  pub edge : (s.shared_pages g other p or s.shared_pages other g p) ≡ true

abbrev pub OwnedOrShared : MachineState → ℕ → ℕ → Type 0
OwnedOrShared s g p = (s.vm_owned g p ≡ true) ⊎ SharedWith s g p

-- where a guest's entries may lead: `translation_wf` at Cpu, `iommu_translation_wf` at Iommu
abbrev pub Entitled : Side → MachineState → ℕ → ℕ → Type 0
Entitled Cpu s g p = OwnedOrShared s g p
Entitled Iommu s g p = (s.iommu_owned g p ≡ true) ⊎ (s.iommu_shared p ≡ true)

-- ── `wf`: each function's clauses in their order ──
pub record SourceWf (s : MachineState) : Type 0 where
  pub ownership_1 : (g p : ℕ) → s.vm_owned g p ≡ true → s.all_vms g ≡ true
  pub ownership_2 : (g h p : ℕ) → (g ≡ h → ⊥) → s.vm_owned g p ≡ true → s.vm_owned h p ≡ true → ⊥
  pub ownership_3 : (g p : ℕ) → s.vm_owned g p ≡ true → s.hypervisor_owned p ≡ true → ⊥
  pub sharing_1 : (l r p : ℕ) → s.shared_pages l r p ≡ true → l ≡ r → ⊥
  pub sharing_2 : (l r p : ℕ) → s.shared_pages l r p ≡ true → s.all_vms l ≡ true
  pub sharing_3 : (l r p : ℕ) → s.shared_pages l r p ≡ true → s.all_vms r ≡ true
  pub sharing_4 : (l r p : ℕ) → s.shared_pages l r p ≡ true → s.shared_pages r l p ≡ true
  pub translation_1 : (d : Side) (g v : ℕ) → InS2Map d s g v → s.all_vms g ≡ true
  pub translation_2 : (d : Side) (g v : ℕ) → InS2Map d s g v → Entitled d s g (page_in (s.s2_map d g v))
  pub iommu_ownership_1 : (g p : ℕ) → s.iommu_owned g p ≡ true → s.all_vms g ≡ true
  pub iommu_ownership_2 : (g h p : ℕ) → (g ≡ h → ⊥) → s.iommu_owned g p ≡ true → s.iommu_owned h p ≡ true → ⊥
  pub iommu_ownership_3 : (g h p : ℕ) → (g ≡ h → ⊥) → s.iommu_owned g p ≡ true → s.vm_owned h p ≡ true → ⊥
  pub iommu_ownership_4 : (g p : ℕ) → s.iommu_owned g p ≡ true → s.iommu_shared p ≡ true → ⊥
  pub iommu_ownership_5 : (g p : ℕ) → s.vm_owned g p ≡ true → s.iommu_shared p ≡ true → ⊥
  pub active_vm_1 : (u g : ℕ) → CpuRuns s u g → s.all_vms g ≡ true
  pub tlb_safe_1 : (d : Side) (u g v : ℕ) → InTlb d s u g v → InS2Map d s g v
  pub tlb_safe_2 : (d : Side) (u g v : ℕ) → InTlb d s u g v → at_unit 0 (s.tlb d u g v) ≡ s.s2_map d g v
