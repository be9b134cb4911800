-- What the source's security.rs defines, and the private pages of its state.rs, over this machine. A state is a `Machine`;
-- `seen` reads the source's state off it. A run is a list of actions of all 23 kinds, refused ones too: `after f k s` is the state that it visits at k.
use Rattle.std.specs.Prelude.{ℕ, ◌≡◌, Bool, true, false, List, eqb}
use Rattle.std.proofs.Math.Option.{Option}
use Rattle.std.proofs.Math.Option.Option.{none, some}
use Rattle.numbers.specs.Tests.{◌and◌}
use Rattle.numbers.specs.Addresses.{page_of}
use Rattle.numbers.specs.declared.frames.Action.{Action}
use Rattle.tables.specs.State.{boot}
use Rattle.tables.specs.Wf.{wf}
use Rattle.tables.specs.Views.{MachineState}
use Rattle.rules.specs.Actions.{Op, accepted}
use Rattle.rules.specs.Actions.Op.{Read, Write, HyperCall, AddVm, RemoveVm, AssignPage, ReclaimPage, SharePage, UnsharePage, Map, Unmap, ContextSwitch, Idle, Fill, Drop, IommuAssignPage, IommuReclaimPage}
use Rattle.rules.specs.Calls.{op_of, action_rules, taken, Machine, after}
use Rattle.rules.specs.Source.{translated_word, read_observation}
use Rattle.isolation.specs.Marks.{Alike}

-- ══ state.rs: private pages ══
-- owned, and on no edge
pub record PrivatePage (s : MachineState) (vm page : ℕ) : Type 0 where
  pub owned : s.vm_owned vm page ≡ true
  pub unshared : (left right p : ℕ) → s.shared_pages left right p ≡ true → p ≡ page → ⊥

abbrev pub PrivatePa : MachineState → ℕ → ℕ → Type 0
PrivatePa s vm pa = PrivatePage s vm (page_of pa)

-- ══ the environment ══
-- the guest that acts, by itself or by one of its devices; nobody where the hypervisor does
abbrev pub actor : Op → Option ℕ
actor (Read d g u a) = some g
actor (Write d g u a w) = some g
actor (HyperCall g u w) = some g
actor (AddVm g) = none
actor (RemoveVm g) = none
actor (AssignPage g p) = none
actor (ReclaimPage g p) = none
actor (SharePage l r p) = none
actor (UnsharePage l r p) = none
actor (Map d g v p x) = none
actor (Unmap d g v) = none
actor (ContextSwitch g u) = none
actor (Idle u) = none
actor (Fill d g u v) = none
actor (Drop d g u v) = none
actor (IommuAssignPage g p) = none
actor (IommuReclaimPage g p) = none

-- the state after one more action
abbrev pub stepped : Machine → Action → Machine
stepped s a = record { tables = (taken s.tables a s.memory).tables; memory = (taken s.tables a s.memory).memory }

-- one accepted action of a guest other than the subject, or of a device of that guest
pub record EnvReachable (s₁ s₂ : Machine) (subject : ℕ) : Type 0 where
  pub well_formed : wf s₁.tables ≡ true
  pub vm : ℕ
  pub action : Action
  pub acts : actor (op_of action) ≡ some vm
  pub other : vm ≡ subject → ⊥
  pub accepted : accepted (action_rules s₁.tables action) ≡ true
  pub moves : s₂ ≡ stepped s₁ action

-- ══ what may end a page's privacy ══
abbrev pub declassifies : Op → ℕ → ℕ → Bool
declassifies (SharePage l r p) subject page = eqb p page
declassifies (ReclaimPage vm p) subject page = eqb vm subject and eqb p page
declassifies (RemoveVm vm) subject page = eqb vm subject
declassifies (Read d g u a) subject page = false
declassifies (Write d g u a w) subject page = false
declassifies (HyperCall g u w) subject page = false
declassifies (AddVm g) subject page = false
declassifies (AssignPage g p) subject page = false
declassifies (UnsharePage l r p) subject page = false
declassifies (Map d g v p x) subject page = false
declassifies (Unmap d g v) subject page = false
declassifies (ContextSwitch g u) subject page = false
declassifies (Idle u) subject page = false
declassifies (Fill d g u v) subject page = false
declassifies (Drop d g u v) subject page = false
declassifies (IommuAssignPage g p) subject page = false
declassifies (IommuReclaimPage g p) subject page = false

-- the action, if it is accepted, does not
abbrev pub StaysPrivate : Machine → Action → ℕ → ℕ → Type 0
StaysPrivate s a subject page = (accepted (action_rules s.tables a) and declassifies (op_of a) subject page) ≡ false

-- ══ what is said of a page that another guest cannot read ══
-- the state with other words in its memory
abbrev pub with_memory : MachineState → List ℕ → MachineState
with_memory s ws = record {
  all_vms = s.all_vms;
  hypervisor_owned = s.hypervisor_owned;
  vm_owned = s.vm_owned;
  shared_pages = s.shared_pages;
  s2_map = s.s2_map;
  iommu_owned = s.iommu_owned;
  iommu_shared = s.iommu_shared;
  tlb = s.tlb;
  active_vm = s.active_vm;
  memory = ws;
}

pub record Unreadable (s : MachineState) (page cpu vm gva : ℕ) : Type 0 where
  -- the source's: the address is on another page
  pub elsewhere : (pa : ℕ) → translated_word s cpu vm gva ≡ some pa → page_of pa ≡ page → ⊥
  -- and more: whatever words the page has, the guest observes the same
  pub same_word : (ws : List ℕ) → Alike (eqb page) s.memory ws → read_observation (with_memory s ws) cpu vm gva ≡ read_observation s cpu vm gva

-- ══ from boot ══
-- after some actions from a boot with this region, whatever the hypervisor's mask and the lent words
pub record Reachable (region : ℕ) (s : Machine) : Type 0 where
  pub mask : ℕ
  pub words : List ℕ
  pub acts : ℕ → Action
  pub count : ℕ
  pub ends : after acts count (record { tables = boot mask region; memory = words }) ≡ s
