-- The source's steps (step.rs), each predicate under its own name, in camel case, and clause by clause, over the source's state as it is
-- read off these tables (`Views` of crate `tables`). A step is what it asks of the state before (its guards) and what it says of the state
-- after (its effects). Left out of every step: `s2.wf()`, which here follows from the guards (`wf-kept`). Left out of the two steps
-- that give a page away: `same_memory_as`, which cannot hold where the page is wiped; what memory then is stands in its place. One
-- map stands for the software's and the hardware's, so that a clause on `hw_s2map` is its neighbour on `s2_map`.
use Rattle.std.specs.Prelude.{ℕ, ◌<◌, ◌≡◌, Bool, true, false, cond, List, [], ◌∷◌, ◌⊎◌, eqb, ltb, length, get_or, set}
use Rattle.std.proofs.Math.Option.{Option, IsSome}
use Rattle.std.proofs.Math.Option.Option.{none, some}
use Rattle.numbers.specs.Sizes.{guests, units, pages, gpages, accesses}
use Rattle.numbers.specs.Tests.{◌and◌, ◌or◌}
use Rattle.numbers.specs.Addresses.{page_of, offset_of, word_of}
use Rattle.numbers.specs.Entries.{key_of, entry, at_unit, page_in, readable, writable}
use Rattle.tables.specs.Table.{live, no_room}
use Rattle.tables.specs.Wants.{W, has_key, shared_by}
use Rattle.tables.specs.State.{nobody, guest, in_region, dma_of}
use Rattle.tables.specs.Views.{MachineState, view, SourceWf, InS2Map, InTlb, CpuRuns, Entitled}
use Rattle.tables.specs.declared.state.Tables.{Tables}
use Rattle.tables.specs.declared.state.Side.{Side}
use Rattle.tables.specs.declared.state.Side.TheVariants.{Cpu, Iommu}
use Rattle.rules.specs.Actions.{Op, another, refusals, clear_page, accepted, acted}
use Rattle.rules.specs.Calls.{Machine}

-- ══ sets and maps ══
-- a map with another value at a key; a set is the map of its test
abbrev pub update : {A : Type 0} → ℕ → A → (ℕ → A) → ℕ → A
update k x f j = cond (eqb k j) x (f j)

abbrev pub insert : ℕ → (ℕ → Bool) → ℕ → Bool
insert x s = update x true s

abbrev pub remove : ℕ → (ℕ → Bool) → ℕ → Bool
remove x s = update x false s

abbrev pub empty_set : ℕ → Bool
empty_set y = false

-- the same at a guest and a guest page
abbrev pub update_key : ℕ → ℕ → ℕ → (ℕ → ℕ → ℕ) → ℕ → ℕ → ℕ
update_key g v x f h w = cond (eqb g h and eqb v w) x (f h w)

-- a TLB without the keys of a guest and a guest page, on every unit: `remove_keys(invalidation_targets(vm, gpa))`
abbrev pub remove_targets : ℕ → ℕ → (ℕ → ℕ → ℕ → ℕ) → ℕ → ℕ → ℕ → ℕ
remove_targets g v f u h w = cond (eqb g h and eqb v w) 0 (f u h w)

-- an edge or its reverse
abbrev pub edge : ℕ → ℕ → ℕ → ℕ → ℕ → ℕ → Bool
edge l r p x y q = eqb q p and (eqb x l and eqb y r or eqb x r and eqb y l)

-- both of them in the set, or neither
abbrev pub with_edge : ℕ → ℕ → ℕ → Bool → (ℕ → ℕ → ℕ → Bool) → ℕ → ℕ → ℕ → Bool
with_edge l r p b s x y q = cond (edge l r p x y q) b (s x y q)

abbrev pub other : Side → Side
other Cpu = Iommu
other Iommu = Cpu

-- ══ functions of the state (state.rs) that steps use ══
abbrev pub SameIdentityAs : MachineState → MachineState → Type 0
SameIdentityAs s t = s.all_vms ≡ t.all_vms

pub record SameOwnershipAs (s t : MachineState) : Type 0 where
  pub hypervisor_owned : s.hypervisor_owned ≡ t.hypervisor_owned
  pub vm_owned : s.vm_owned ≡ t.vm_owned
  pub shared_pages : s.shared_pages ≡ t.shared_pages
  pub iommu_owned : s.iommu_owned ≡ t.iommu_owned
  pub iommu_shared : s.iommu_shared ≡ t.iommu_shared

pub record SameTranslationAs (s t : MachineState) : Type 0 where
  pub s2_map : s.s2_map ≡ t.s2_map
  pub tlb : s.tlb ≡ t.tlb
  pub active_vm : s.active_vm ≡ t.active_vm

abbrev pub SameMemoryAs : MachineState → MachineState → Type 0
SameMemoryAs s t = s.memory ≡ t.memory

-- a cached entry as the map would have it, else the map's; 0 where there is none
abbrev pub effective_entry : Side → MachineState → ℕ → ℕ → ℕ → ℕ
effective_entry d s u g v = cond (live W (s.tlb d u g v)) (at_unit 0 (s.tlb d u g v)) (s.s2_map d g v)

abbrev pub translated_word : MachineState → ℕ → ℕ → ℕ → Option ℕ
translated_word s u g a =
    let e = effective_entry Cpu s u g (page_of a) in
    cond (live W e) (some (word_of (page_in e) (offset_of a))) none

abbrev pub can_read : MachineState → ℕ → ℕ → ℕ → Bool
can_read s u g a = let e = effective_entry Cpu s u g (page_of a) in live W e and readable e

abbrev pub can_write : MachineState → ℕ → ℕ → ℕ → Bool
can_write s u g a = let e = effective_entry Cpu s u g (page_of a) in live W e and writable e

-- the word at the address, where there is an address, it may be read, and memory has it
abbrev pub observation : Bool → List ℕ → Option ℕ → Option ℕ
observation allowed ws none = none
observation allowed ws (some at) = cond (allowed and ltb at (length ws)) (some (get_or ws at 0)) none

abbrev pub read_observation : MachineState → ℕ → ℕ → ℕ → Option ℕ
read_observation s u g a = observation (can_read s u g a) s.memory (translated_word s u g a)

abbrev pub PageIsQuiescent : MachineState → ℕ → Type 0
PageIsQuiescent s p =
    ((g v : ℕ) → InS2Map Cpu s g v → page_in (s.s2_map Cpu g v) ≡ p → ⊥)
    × ((u g v : ℕ) → InTlb Cpu s u g v → page_in (s.tlb Cpu u g v) ≡ p → ⊥)
    × ((l r q : ℕ) → s.shared_pages l r q ≡ true → q ≡ p → ⊥)

abbrev pub IommuPageIsQuiescent : MachineState → ℕ → Type 0
IommuPageIsQuiescent s p =
    ((g v : ℕ) → InS2Map Iommu s g v → page_in (s.s2_map Iommu g v) ≡ p → ⊥)
    × ((u g v : ℕ) → InTlb Iommu s u g v → page_in (s.tlb Iommu u g v) ≡ p → ⊥)

-- ══ what may be asked (types.rs) ══
pub data VmMemOp : Type 0 where
  Read : (cpu gva : ℕ) → VmMemOp
  Write : (cpu gva value : ℕ) → VmMemOp
  HyperCall : (cpu req : ℕ) → VmMemOp

-- an entry is its page and its access
pub data HypervisorOp : Type 0 where
  Map : (vm gpa page access : ℕ) → HypervisorOp
  Unmap : (vm gpa : ℕ) → HypervisorOp
  AssignPage : (vm page : ℕ) → HypervisorOp
  ReclaimPage : (vm page : ℕ) → HypervisorOp
  SharePage : (left right page : ℕ) → HypervisorOp
  UnsharePage : (left right page : ℕ) → HypervisorOp
  ContextSwitch : (cpu vm : ℕ) → HypervisorOp
  AddVm : (vm : ℕ) → HypervisorOp
  RemoveVm : (vm : ℕ) → HypervisorOp
  IommuMap : (vm gpa page access : ℕ) → HypervisorOp
  IommuUnmap : (vm gpa : ℕ) → HypervisorOp
  IommuAssignPage : (vm page : ℕ) → HypervisorOp
  IommuReclaimPage : (vm page : ℕ) → HypervisorOp

pub data MachineAction : Type 0 where
  Vm : ℕ → VmMemOp → MachineAction
  Hypervisor : HypervisorOp → MachineAction

-- ══ guards: what a step asks of the state before it ══
pub record VmReadGuards (s : MachineState) (vm cpu gva : ℕ) : Type 0 where
  pub wf : SourceWf s
  pub runs : CpuRuns s cpu vm
  pub observed : IsSome (read_observation s cpu vm gva)

pub record VmWriteGuards (s : MachineState) (vm cpu gva : ℕ) : Type 0 where
  pub wf : SourceWf s
  pub runs : CpuRuns s cpu vm
  pub translated : IsSome (translated_word s cpu vm gva)
  pub allowed : can_write s cpu vm gva ≡ true

pub record VmHypercallGuards (s : MachineState) (vm cpu : ℕ) : Type 0 where
  pub wf : SourceWf s
  pub runs : CpuRuns s cpu vm

-- at Cpu `hv_map_step`, whose page is owned or shared; at Iommu `hv_iommu_map_step`, whose page is DMA-owned or in the region
pub record MapGuards (d : Side) (s : MachineState) (vm page : ℕ) : Type 0 where
  pub wf : SourceWf s
  pub present : s.all_vms vm ≡ true
  pub entitled : Entitled d s vm page

pub record UnmapGuards (d : Side) (s : MachineState) (vm gpa : ℕ) : Type 0 where
  pub wf : SourceWf s
  pub mapped : InS2Map d s vm gpa

pub record HvIommuAssignPageGuards (s : MachineState) (vm page : ℕ) : Type 0 where
  pub wf : SourceWf s
  pub present : s.all_vms vm ≡ true
  pub not_shared : s.iommu_shared page ≡ false
  pub not_iommu_owned : (v2 : ℕ) → s.all_vms v2 ≡ true → (v2 ≡ vm → ⊥) → s.iommu_owned v2 page ≡ false
  pub not_owned : (v2 : ℕ) → s.all_vms v2 ≡ true → (v2 ≡ vm → ⊥) → s.vm_owned v2 page ≡ false

pub record HvIommuReclaimPageGuards (s : MachineState) (vm page : ℕ) : Type 0 where
  pub wf : SourceWf s
  pub present : s.all_vms vm ≡ true
  pub owned : s.iommu_owned vm page ≡ true
  pub quiescent : IommuPageIsQuiescent s page

pub record HvAssignPageGuards (s : MachineState) (vm page : ℕ) : Type 0 where
  pub wf : SourceWf s
  pub present : s.all_vms vm ≡ true
  pub pooled : s.hypervisor_owned page ≡ true

pub record HvReclaimPageGuards (s : MachineState) (vm page : ℕ) : Type 0 where
  pub wf : SourceWf s
  pub present : s.all_vms vm ≡ true
  pub owned : s.vm_owned vm page ≡ true
  pub quiescent : PageIsQuiescent s page

pub record HvSharePageGuards (s : MachineState) (left right page : ℕ) : Type 0 where
  pub wf : SourceWf s
  pub differ : left ≡ right → ⊥
  pub left_present : s.all_vms left ≡ true
  pub right_present : s.all_vms right ≡ true
  pub owned : s.vm_owned left page ≡ true

pub record HvUnsharePageGuards (s : MachineState) (left right page : ℕ) : Type 0 where
  pub wf : SourceWf s
  pub shared : s.shared_pages left right page ≡ true
  pub reverse : s.shared_pages right left page ≡ true
  -- no dangling translation: an end that maps the page owns it
  pub no_dangling : (g v : ℕ) → InS2Map Cpu s g v → (g ≡ left) ⊎ (g ≡ right) → page_in (s.s2_map Cpu g v) ≡ page → s.vm_owned g page ≡ true

pub record HvContextSwitchGuards (s : MachineState) (vm : ℕ) : Type 0 where
  pub wf : SourceWf s
  pub present : s.all_vms vm ≡ true

pub record HvAddVmGuards (s : MachineState) (vm : ℕ) : Type 0 where
  pub wf : SourceWf s
  pub absent : s.all_vms vm ≡ false

pub record HvRemoveVmGuards (s : MachineState) (vm : ℕ) : Type 0 where
  pub wf : SourceWf s
  pub present : s.all_vms vm ≡ true
  pub owns_nothing : s.vm_owned vm ≡ empty_set
  pub iommu_owns_nothing : s.iommu_owned vm ≡ empty_set
  -- over both sides: `s2_map` and `iommu_s2_map`, `tlb` and `iommu_tlb`
  pub maps_nothing : (d : Side) (g v : ℕ) → InS2Map d s g v → g ≡ vm → ⊥
  pub caches_nothing : (d : Side) (u g v : ℕ) → InTlb d s u g v → g ≡ vm → ⊥
  pub shares_nothing : (l r p : ℕ) → s.shared_pages l r p ≡ true → (l ≡ vm → ⊥) × (r ≡ vm → ⊥)
  pub runs_nowhere : (cpu : ℕ) → CpuRuns s cpu vm → ⊥

-- ══ effects: what a step says of the state s after it, t being the one before ══
-- read and hypercall
pub record Unchanged (s t : MachineState) : Type 0 where
  pub same_identity : SameIdentityAs s t
  pub same_ownership : SameOwnershipAs s t
  pub same_translation : SameTranslationAs s t
  pub same_memory : SameMemoryAs s t

-- memory with a word at a translated address
abbrev pub inserted : Option ℕ → ℕ → List ℕ → List ℕ
inserted none value ws = ws
inserted (some at) value ws = set ws at value

pub record VmWriteEffects (s t : MachineState) (vm cpu gva value : ℕ) : Type 0 where
  pub same_identity : SameIdentityAs s t
  pub same_ownership : SameOwnershipAs s t
  pub same_translation : SameTranslationAs s t
  pub memory : s.memory ≡ inserted (translated_word t cpu vm gva) value t.memory

-- map and unmap on a side: `mapped` is what the key then has, an entry or 0
pub record MappingEffects (d : Side) (s t : MachineState) (vm gpa mapped : ℕ) : Type 0 where
  pub same_identity : SameIdentityAs s t
  pub same_ownership : SameOwnershipAs s t
  pub same_memory : SameMemoryAs s t
  pub active_vm : s.active_vm ≡ t.active_vm
  pub s2_map : s.s2_map d ≡ update_key vm gpa mapped (t.s2_map d)
  pub tlb : s.tlb d ≡ remove_targets vm gpa (t.tlb d)
  pub other_s2_map : s.s2_map (other d) ≡ t.s2_map (other d)
  pub other_tlb : s.tlb (other d) ≡ t.tlb (other d)

-- a page for devices, given or taken: `owned` is what the guest then has
pub record IommuPageEffects (s t : MachineState) (vm : ℕ) (owned : ℕ → Bool) : Type 0 where
  pub same_identity : SameIdentityAs s t
  pub same_translation : SameTranslationAs s t
  pub hypervisor_owned : s.hypervisor_owned ≡ t.hypervisor_owned
  pub vm_owned : s.vm_owned ≡ t.vm_owned
  pub shared_pages : s.shared_pages ≡ t.shared_pages
  pub iommu_shared : s.iommu_shared ≡ t.iommu_shared
  pub iommu_owned : s.iommu_owned ≡ update vm owned t.iommu_owned

-- a page for CPU, given or taken: `pool` is what the hypervisor then has, `owned` what the guest
pub record PageEffects (s t : MachineState) (vm : ℕ) (pool owned : ℕ → Bool) : Type 0 where
  pub same_identity : SameIdentityAs s t
  pub same_translation : SameTranslationAs s t
  pub hypervisor_owned : s.hypervisor_owned ≡ pool
  pub shared_pages : s.shared_pages ≡ t.shared_pages
  pub iommu_owned : s.iommu_owned ≡ t.iommu_owned
  pub iommu_shared : s.iommu_shared ≡ t.iommu_shared
  pub vm_owned : s.vm_owned ≡ update vm owned t.vm_owned

-- a share made or ended
pub record SharingEffects (s t : MachineState) (edges : ℕ → ℕ → ℕ → Bool) : Type 0 where
  pub same_identity : SameIdentityAs s t
  pub hypervisor_owned : s.hypervisor_owned ≡ t.hypervisor_owned
  pub vm_owned : s.vm_owned ≡ t.vm_owned
  pub iommu_owned : s.iommu_owned ≡ t.iommu_owned
  pub iommu_shared : s.iommu_shared ≡ t.iommu_shared
  pub same_translation : SameTranslationAs s t
  pub same_memory : SameMemoryAs s t
  pub shared_pages : s.shared_pages ≡ edges

pub record HvContextSwitchEffects (s t : MachineState) (cpu vm : ℕ) : Type 0 where
  pub same_identity : SameIdentityAs s t
  pub same_ownership : SameOwnershipAs s t
  pub same_memory : SameMemoryAs s t
  pub s2_map : s.s2_map ≡ t.s2_map
  pub tlb : s.tlb ≡ t.tlb
  pub active_vm : s.active_vm ≡ update cpu (guest vm) t.active_vm

-- a guest comes or goes: `vms` are those then present
pub record PopulationEffects (s t : MachineState) (vm : ℕ) (vms : ℕ → Bool) : Type 0 where
  pub all_vms : s.all_vms ≡ vms
  pub hypervisor_owned : s.hypervisor_owned ≡ t.hypervisor_owned
  -- with the guest's set empty: `insert(vm, Set::empty())` and `remove(vm)` alike
  pub vm_owned : s.vm_owned ≡ update vm empty_set t.vm_owned
  pub iommu_owned : s.iommu_owned ≡ update vm empty_set t.iommu_owned
  pub iommu_shared : s.iommu_shared ≡ t.iommu_shared
  pub shared_pages : s.shared_pages ≡ t.shared_pages
  pub same_translation : SameTranslationAs s t
  pub same_memory : SameMemoryAs s t

-- ══ the steps: s₁ before, s₂ after ══
abbrev pub VmReadStep : MachineState → MachineState → ℕ → ℕ → ℕ → Type 0
VmReadStep s₁ s₂ vm cpu gva = VmReadGuards s₁ vm cpu gva × Unchanged s₂ s₁

abbrev pub VmWriteStep : MachineState → MachineState → ℕ → ℕ → ℕ → ℕ → Type 0
VmWriteStep s₁ s₂ vm cpu gva value = VmWriteGuards s₁ vm cpu gva × VmWriteEffects s₂ s₁ vm cpu gva value

abbrev pub VmHypercallStep : MachineState → MachineState → ℕ → ℕ → Type 0
VmHypercallStep s₁ s₂ vm cpu = VmHypercallGuards s₁ vm cpu × Unchanged s₂ s₁

abbrev pub VmStep : MachineState → MachineState → ℕ → VmMemOp → Type 0
VmStep s₁ s₂ vm (Read cpu gva) = (s₁.all_vms vm ≡ true) × VmReadStep s₁ s₂ vm cpu gva
VmStep s₁ s₂ vm (Write cpu gva value) = (s₁.all_vms vm ≡ true) × VmWriteStep s₁ s₂ vm cpu gva value
VmStep s₁ s₂ vm (HyperCall cpu req) = (s₁.all_vms vm ≡ true) × VmHypercallStep s₁ s₂ vm cpu

abbrev pub HvMapStep : MachineState → MachineState → ℕ → ℕ → ℕ → ℕ → Type 0
HvMapStep s₁ s₂ vm gpa page access = MapGuards Cpu s₁ vm page × MappingEffects Cpu s₂ s₁ vm gpa (entry 0 vm gpa page access)

abbrev pub HvUnmapStep : MachineState → MachineState → ℕ → ℕ → Type 0
HvUnmapStep s₁ s₂ vm gpa = UnmapGuards Cpu s₁ vm gpa × MappingEffects Cpu s₂ s₁ vm gpa 0

abbrev pub HvIommuMapStep : MachineState → MachineState → ℕ → ℕ → ℕ → ℕ → Type 0
HvIommuMapStep s₁ s₂ vm gpa page access = MapGuards Iommu s₁ vm page × MappingEffects Iommu s₂ s₁ vm gpa (entry 0 vm gpa page access)

abbrev pub HvIommuUnmapStep : MachineState → MachineState → ℕ → ℕ → Type 0
HvIommuUnmapStep s₁ s₂ vm gpa = UnmapGuards Iommu s₁ vm gpa × MappingEffects Iommu s₂ s₁ vm gpa 0

-- the page is wiped, unless the guest has it for DMA already or holds it for CPU
abbrev pub HvIommuAssignPageStep : MachineState → MachineState → ℕ → ℕ → Type 0
HvIommuAssignPageStep s₁ s₂ vm page =
    HvIommuAssignPageGuards s₁ vm page
    × IommuPageEffects s₂ s₁ vm (insert page (s₁.iommu_owned vm))
    × (s₂.memory ≡ cond (s₁.iommu_owned vm page or s₁.vm_owned vm page) s₁.memory (clear_page page s₁.memory))

abbrev pub HvIommuReclaimPageStep : MachineState → MachineState → ℕ → ℕ → Type 0
HvIommuReclaimPageStep s₁ s₂ vm page =
    HvIommuReclaimPageGuards s₁ vm page
    × IommuPageEffects s₂ s₁ vm (remove page (s₁.iommu_owned vm))
    × SameMemoryAs s₂ s₁

-- the page is wiped
abbrev pub HvAssignPageStep : MachineState → MachineState → ℕ → ℕ → Type 0
HvAssignPageStep s₁ s₂ vm page =
    HvAssignPageGuards s₁ vm page
    × PageEffects s₂ s₁ vm (remove page s₁.hypervisor_owned) (insert page (s₁.vm_owned vm))
    × (s₂.memory ≡ clear_page page s₁.memory)

abbrev pub HvReclaimPageStep : MachineState → MachineState → ℕ → ℕ → Type 0
HvReclaimPageStep s₁ s₂ vm page =
    HvReclaimPageGuards s₁ vm page
    × PageEffects s₂ s₁ vm (insert page s₁.hypervisor_owned) (remove page (s₁.vm_owned vm))
    × SameMemoryAs s₂ s₁

abbrev pub HvSharePageStep : MachineState → MachineState → ℕ → ℕ → ℕ → Type 0
HvSharePageStep s₁ s₂ left right page =
    HvSharePageGuards s₁ left right page × SharingEffects s₂ s₁ (with_edge left right page true s₁.shared_pages)

abbrev pub HvUnsharePageStep : MachineState → MachineState → ℕ → ℕ → ℕ → Type 0
HvUnsharePageStep s₁ s₂ left right page =
    HvUnsharePageGuards s₁ left right page × SharingEffects s₂ s₁ (with_edge left right page false s₁.shared_pages)

abbrev pub HvContextSwitchStep : MachineState → MachineState → ℕ → ℕ → Type 0
HvContextSwitchStep s₁ s₂ cpu vm = HvContextSwitchGuards s₁ vm × HvContextSwitchEffects s₂ s₁ cpu vm

abbrev pub HvAddVmStep : MachineState → MachineState → ℕ → Type 0
HvAddVmStep s₁ s₂ vm = HvAddVmGuards s₁ vm × PopulationEffects s₂ s₁ vm (insert vm s₁.all_vms)

abbrev pub HvRemoveVmStep : MachineState → MachineState → ℕ → Type 0
HvRemoveVmStep s₁ s₂ vm = HvRemoveVmGuards s₁ vm × PopulationEffects s₂ s₁ vm (remove vm s₁.all_vms)

abbrev pub HypervisorStep : MachineState → MachineState → HypervisorOp → Type 0
HypervisorStep s₁ s₂ (Map vm gpa page access) = HvMapStep s₁ s₂ vm gpa page access
HypervisorStep s₁ s₂ (Unmap vm gpa) = HvUnmapStep s₁ s₂ vm gpa
HypervisorStep s₁ s₂ (AssignPage vm page) = HvAssignPageStep s₁ s₂ vm page
HypervisorStep s₁ s₂ (ReclaimPage vm page) = HvReclaimPageStep s₁ s₂ vm page
HypervisorStep s₁ s₂ (SharePage left right page) = HvSharePageStep s₁ s₂ left right page
HypervisorStep s₁ s₂ (UnsharePage left right page) = HvUnsharePageStep s₁ s₂ left right page
HypervisorStep s₁ s₂ (ContextSwitch cpu vm) = HvContextSwitchStep s₁ s₂ cpu vm
HypervisorStep s₁ s₂ (AddVm vm) = HvAddVmStep s₁ s₂ vm
HypervisorStep s₁ s₂ (RemoveVm vm) = HvRemoveVmStep s₁ s₂ vm
HypervisorStep s₁ s₂ (IommuMap vm gpa page access) = HvIommuMapStep s₁ s₂ vm gpa page access
HypervisorStep s₁ s₂ (IommuUnmap vm gpa) = HvIommuUnmapStep s₁ s₂ vm gpa
HypervisorStep s₁ s₂ (IommuAssignPage vm page) = HvIommuAssignPageStep s₁ s₂ vm page
HypervisorStep s₁ s₂ (IommuReclaimPage vm page) = HvIommuReclaimPageStep s₁ s₂ vm page

abbrev pub Step : MachineState → MachineState → MachineAction → Type 0
Step s₁ s₂ (Vm vm op) = VmStep s₁ s₂ vm op
Step s₁ s₂ (Hypervisor op) = HypervisorStep s₁ s₂ op

-- ══ runs ══
-- all clauses of `Init` but one: a boot with a region has it from the start
pub record InitEmpty (s : MachineState) : Type 0 where
  pub all_vms : s.all_vms ≡ empty_set
  pub vm_owned : s.vm_owned ≡ (λ vm. empty_set)
  pub shared_pages : s.shared_pages ≡ (λ left right. empty_set)
  pub s2_map : s.s2_map ≡ (λ d vm gpa. 0)
  pub tlb : s.tlb ≡ (λ d unit vm gpa. 0)
  pub iommu_owned : s.iommu_owned ≡ (λ vm. empty_set)
  pub active_vm : s.active_vm ≡ (λ cpu. nobody)

abbrev pub Init : MachineState → Type 0
Init s = InitEmpty s × (s.iommu_shared ≡ empty_set)

-- visited states, one more than the actions that drive them
pub data IsExecution : List MachineState → List MachineAction → Type 0 where
  here : {s : MachineState} → IsExecution (s ∷ []) []
  more : {s t : MachineState} {a : MachineAction} {trace : List MachineState} {acts : List MachineAction} →
      Step s t a → IsExecution (t ∷ trace) acts → IsExecution (s ∷ t ∷ trace) (a ∷ acts)

abbrev pub last : MachineState → List MachineState → MachineState
last s [] = s
last s (t ∷ trace) = last t trace

pub record Reachable (s : MachineState) : Type 0 where
  pub start : MachineState
  pub trace : List MachineState
  pub acts : List MachineAction
  pub run : IsExecution (start ∷ trace) acts
  pub starts : Init start
  pub ends : last start trace ≡ s

-- ══ held against the machine here ══
-- the action that asks for it
abbrev pub asked : MachineAction → Op
asked (Vm vm (Read cpu gva)) = Op.Read Cpu vm cpu gva
asked (Vm vm (Write cpu gva value)) = Op.Write Cpu vm cpu gva value
asked (Vm vm (HyperCall cpu req)) = Op.HyperCall vm cpu req
asked (Hypervisor (Map vm gpa page access)) = Op.Map Cpu vm gpa page access
asked (Hypervisor (Unmap vm gpa)) = Op.Unmap Cpu vm gpa
asked (Hypervisor (AssignPage vm page)) = Op.AssignPage vm page
asked (Hypervisor (ReclaimPage vm page)) = Op.ReclaimPage vm page
asked (Hypervisor (SharePage left right page)) = Op.SharePage left right page
asked (Hypervisor (UnsharePage left right page)) = Op.UnsharePage left right page
asked (Hypervisor (ContextSwitch cpu vm)) = Op.ContextSwitch vm cpu
asked (Hypervisor (AddVm vm)) = Op.AddVm vm
asked (Hypervisor (RemoveVm vm)) = Op.RemoveVm vm
asked (Hypervisor (IommuMap vm gpa page access)) = Op.Map Iommu vm gpa page access
asked (Hypervisor (IommuUnmap vm gpa)) = Op.Unmap Iommu vm gpa
asked (Hypervisor (IommuAssignPage vm page)) = Op.IommuAssignPage vm page
asked (Hypervisor (IommuReclaimPage vm page)) = Op.IommuReclaimPage vm page

-- what 01 asks besides the source's guards: numbers in range, where no guard says so already; room; and of AssignPage its correction
abbrev pub Besides : Tables → MachineAction → Type 0
Besides m (Hypervisor (Map vm gpa page access)) = (gpa < gpages) × (access < accesses) × (no_room W (has_key (key_of 0 vm gpa)) m.map ≡ false)
Besides m (Hypervisor (IommuMap vm gpa page access)) = (gpa < gpages) × (access < accesses) × (no_room W (has_key (key_of 0 vm gpa)) m.io_map ≡ false)
Besides m (Hypervisor (AssignPage vm page)) = (in_region m page ≡ false) × (another vm (dma_of m page) ≡ false)
Besides m (Hypervisor (SharePage left right page)) = no_room W (shared_by left right page) m.pairs ≡ false
Besides m (Hypervisor (ContextSwitch cpu vm)) = cpu < units
Besides m (Hypervisor (AddVm vm)) = vm < guests
Besides m (Hypervisor (IommuAssignPage vm page)) = page < pages
Besides m (Hypervisor (Unmap vm gpa)) = Unit {0}
Besides m (Hypervisor (ReclaimPage vm page)) = Unit {0}
Besides m (Hypervisor (UnsharePage left right page)) = Unit {0}
Besides m (Hypervisor (RemoveVm vm)) = Unit {0}
Besides m (Hypervisor (IommuUnmap vm gpa)) = Unit {0}
Besides m (Hypervisor (IommuReclaimPage vm page)) = Unit {0}
Besides m (Vm vm op) = Unit {0}

-- the state after it, accepted or not
abbrev pub viewed_after : Tables → MachineAction → List ℕ → MachineState
viewed_after m a ws = view (acted m (asked a) ws).tables (acted m (asked a) ws).memory

-- ══ a list of them, asked one after the other ══
abbrev pub seen : Machine → MachineState
seen s = view s.tables s.memory

abbrev pub taken_up : Machine → MachineAction → Bool
taken_up s a = accepted (refusals s.tables (asked a))

unfoldable pub moved : Machine → MachineAction → Machine
moved s a = record {
  tables = (acted s.tables (asked a) s.memory).tables;
  memory = (acted s.tables (asked a) s.memory).memory;
}

unfoldable pub moved_by : Machine → List MachineAction → Machine
moved_by s [] = s
moved_by s (a ∷ acts) = moved_by (moved s a) acts

-- those that are accepted, and the states after them
unfoldable pub accepted_acts : Machine → List MachineAction → List MachineAction
accepted_acts s [] = []
accepted_acts s (a ∷ acts) = cond (taken_up s a) (a ∷ accepted_acts (moved s a) acts) (accepted_acts s acts)

unfoldable pub visited : Machine → List MachineAction → List MachineState
visited s [] = []
visited s (a ∷ acts) = cond (taken_up s a) (seen (moved s a) ∷ visited (moved s a) acts) (visited s acts)
