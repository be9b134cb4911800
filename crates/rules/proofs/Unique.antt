-- A step of the source fixes the state after it: two states that it allows are one.
use mathlib.Core.Path.{◌≡◌, sym, ◌∙◌, fun_ext}
use mathlib.Core.Bool.{Bool}
use mathlib.Core.List.{List}
use Prim.Native.Nat.{ℕ}
use Rattle.tables.specs.Views.{MachineState}
use Rattle.tables.specs.declared.state.Side.{Side}
use Rattle.tables.specs.declared.state.Side.TheVariants.{Cpu, Iommu}
use Rattle.rules.specs.Source.{other, Unchanged, VmWriteEffects, MappingEffects, IommuPageEffects, PageEffects, SharingEffects, HvContextSwitchEffects, PopulationEffects, MachineAction, Step}
use Rattle.rules.specs.Source.VmMemOp.{Read, Write, HyperCall}
use Rattle.rules.specs.Source.HypervisorOp.{Map, Unmap, AssignPage, ReclaimPage, SharePage, UnsharePage, ContextSwitch, AddVm, RemoveVm, IommuMap, IommuUnmap, IommuAssignPage, IommuReclaimPage}
use Rattle.rules.specs.Source.MachineAction.{Vm, Hypervisor}

-- states by their fields
pub record Equal (s t : MachineState) : Type 0 where
  pub all_vms : s.all_vms ≡ t.all_vms
  pub hypervisor_owned : s.hypervisor_owned ≡ t.hypervisor_owned
  pub vm_owned : s.vm_owned ≡ t.vm_owned
  pub shared_pages : s.shared_pages ≡ t.shared_pages
  pub s2_map : s.s2_map ≡ t.s2_map
  pub iommu_owned : s.iommu_owned ≡ t.iommu_owned
  pub iommu_shared : s.iommu_shared ≡ t.iommu_shared
  pub tlb : s.tlb ≡ t.tlb
  pub active_vm : s.active_vm ≡ t.active_vm
  pub memory : s.memory ≡ t.memory

pub state-ext : {s t : MachineState} → Equal s t → s ≡ t
state-ext e = λ i. record {
  all_vms = e.all_vms i;
  hypervisor_owned = e.hypervisor_owned i;
  vm_owned = e.vm_owned i;
  shared_pages = e.shared_pages i;
  s2_map = e.s2_map i;
  iommu_owned = e.iommu_owned i;
  iommu_shared = e.iommu_shared i;
  tlb = e.tlb i;
  active_vm = e.active_vm i;
  memory = e.memory i;
}

-- both are what the third is
both : {A : Type 0} {x y z : A} → x ≡ z → y ≡ z → x ≡ y
both p q = p ∙ sym q

-- what a side has, and what the other has
sides : {A : Type 0} (d : Side) (f g : Side → A) → f d ≡ g d → f (other d) ≡ g (other d) → f ≡ g
sides Cpu f g p q = fun_ext (elim [ Cpu ↦ p | Iommu ↦ q ])
sides Iommu f g p q = fun_ext (elim [ Cpu ↦ q | Iommu ↦ p ])

module _ {s r t : MachineState} where
  unchanged-one : Unchanged s t → Unchanged r t → s ≡ r
  unchanged-one a b = state-ext (search both)

  write-one : {vm cpu gva value : ℕ} → VmWriteEffects s t vm cpu gva value → VmWriteEffects r t vm cpu gva value → s ≡ r
  write-one a b = state-ext (search both)

  mapping-one : {d : Side} {vm gpa mapped : ℕ} → MappingEffects d s t vm gpa mapped → MappingEffects d r t vm gpa mapped → s ≡ r
  mapping-one {d} a b = state-ext (search (both, sides {A = ℕ → ℕ → ℕ} d, sides {A = ℕ → ℕ → ℕ → ℕ} d))

  iommu-page-one : {vm : ℕ} {owned : ℕ → Bool} {ws : List ℕ} →
      IommuPageEffects s t vm owned → s.memory ≡ ws → IommuPageEffects r t vm owned → r.memory ≡ ws → s ≡ r
  iommu-page-one a m b n = state-ext (search both)

  page-one : {vm : ℕ} {pool owned : ℕ → Bool} {ws : List ℕ} →
      PageEffects s t vm pool owned → s.memory ≡ ws → PageEffects r t vm pool owned → r.memory ≡ ws → s ≡ r
  page-one a m b n = state-ext (search both)

  sharing-one : {edges : ℕ → ℕ → ℕ → Bool} → SharingEffects s t edges → SharingEffects r t edges → s ≡ r
  sharing-one a b = state-ext (search both)

  switch-one : {cpu vm : ℕ} → HvContextSwitchEffects s t cpu vm → HvContextSwitchEffects r t cpu vm → s ≡ r
  switch-one a b = state-ext (search both)

  population-one : {vm : ℕ} {vms : ℕ → Bool} → PopulationEffects s t vm vms → PopulationEffects r t vm vms → s ≡ r
  population-one a b = state-ext (search both)

-- ── every step ──
pub step-unique : (t s r : MachineState) (a : MachineAction) → Step t s a → Step t r a → s ≡ r
step-unique t s r (Vm vm (Read cpu gva)) a b = unchanged-one a.1.1 b.1.1
step-unique t s r (Vm vm (Write cpu gva value)) a b = write-one a.1.1 b.1.1
step-unique t s r (Vm vm (HyperCall cpu req)) a b = unchanged-one a.1.1 b.1.1
step-unique t s r (Hypervisor (Map vm gpa page access)) a b = mapping-one a.1 b.1
step-unique t s r (Hypervisor (Unmap vm gpa)) a b = mapping-one a.1 b.1
step-unique t s r (Hypervisor (AssignPage vm page)) a b = page-one a.1 a.2 b.1 b.2
step-unique t s r (Hypervisor (ReclaimPage vm page)) a b = page-one a.1 a.2 b.1 b.2
step-unique t s r (Hypervisor (SharePage left right page)) a b = sharing-one a.1 b.1
step-unique t s r (Hypervisor (UnsharePage left right page)) a b = sharing-one a.1 b.1
step-unique t s r (Hypervisor (ContextSwitch cpu vm)) a b = switch-one a.1 b.1
step-unique t s r (Hypervisor (AddVm vm)) a b = population-one a.1 b.1
step-unique t s r (Hypervisor (RemoveVm vm)) a b = population-one a.1 b.1
step-unique t s r (Hypervisor (IommuMap vm gpa page access)) a b = mapping-one a.1 b.1
step-unique t s r (Hypervisor (IommuUnmap vm gpa)) a b = mapping-one a.1 b.1
step-unique t s r (Hypervisor (IommuAssignPage vm page)) a b = iommu-page-one a.1 a.2 b.1 b.2
step-unique t s r (Hypervisor (IommuReclaimPage vm page)) a b = iommu-page-one a.1 a.2 b.1 b.2
