-- The source, held against the machine: an action of the source is accepted exactly when its step is possible and 01 has nothing
-- besides against it, and the state after is the one that the step fixes. Runs of accepted actions are executions of the source.
use mathlib.Core.Path.{◌≡◌, refl, sym, ◌∙◌, ap, subst}
use mathlib.Core.Bool.{true}
use mathlib.Core.List.{List}
use mathlib.Core.Option.Option.{some}
use mathlib.Core.Logic.{◌↔◌}
use Prim.Native.Nat.{ℕ}
use lib.ListN.{length, get_or}
use Rattle.numbers.specs.Sizes.{memory_words}
use Rattle.numbers.specs.Tests.{◌and◌}
use Rattle.numbers.specs.Addresses.{page_of, offset_of, word_of}
use Rattle.numbers.specs.Entries.{page_in, readable}
use Rattle.numbers.proofs.Bools.{isnt-false}
use Rattle.tables.specs.Table.{live}
use Rattle.tables.specs.Wants.{W}
use Rattle.tables.specs.Wf.{Wf}
use Rattle.tables.specs.Views.{MachineState, view}
use Rattle.tables.specs.declared.state.Tables.{Tables}
use Rattle.tables.specs.declared.state.Side.TheVariants.{Cpu, Iommu}
use Rattle.rules.specs.Actions.{refusals, accepted, next, does, acted}
use Rattle.rules.specs.Source.{MachineAction, Step, asked, Besides, viewed_after, effective_entry, read_observation}
use Rattle.rules.specs.Source.VmMemOp.{Read, Write, HyperCall}
use Rattle.rules.specs.Source.HypervisorOp.{Map, Unmap, AssignPage, ReclaimPage, SharePage, UnsharePage, ContextSwitch, AddVm, RemoveVm, IommuMap, IommuUnmap, IommuAssignPage, IommuReclaimPage}
use Rattle.rules.specs.Source.MachineAction.{Vm, Hypervisor}
use Rattle.rules.proofs.Lowest.{Clear, accepted-clear}
use Rattle.rules.proofs.Guards.{observed-word, read-accepted, write-accepted, hypercall-accepted, map-accepted, unmap-accepted, assign-accepted, reclaim-accepted, share-accepted, unshare-accepted, context-switch-accepted, add-accepted, remove-accepted, iommu-assign-accepted, iommu-reclaim-accepted}
use Rattle.rules.proofs.Accesses.{access-keyed, entries-alike, nothing_is, word-at-is}
use Rattle.rules.proofs.Effects.{viewed, read-does, write-does, hypercall-does, map-does, unmap-does, assign-does, reclaim-does, share-does, unshare-does, context-switch-does, add-does, remove-does, iommu-assign-does, iommu-assign-memory, iommu-reclaim-does}
use Rattle.rules.proofs.Unique.{step-unique}

module _ {m : Tables} (h : Wf m) (ws : List ℕ) (lw : length ws ≡ memory_words) where
  -- ── an accepted action is a step ──
  moves : (a : MachineAction) → accepted (refusals m (asked a)) ≡ true → Clear (refusals m (asked a)) →
      Step (view m ws) (viewed m (asked a) ws) a × Besides m a
  moves (Vm g (Read u a)) e c = let q = (read-accepted h ws lw g u a).0 e in ((q.0, (q.1, read-does m ws Cpu g u a)), tt)
  moves (Vm g (Write u a w)) e c = let q = (write-accepted h ws lw g u a w).0 e in ((q.0, (q.1, write-does h ws g u a w c)), tt)
  moves (Vm g (HyperCall u w)) e c = let q = (hypercall-accepted h ws lw g u w).0 e in ((q.0, (q.1, hypercall-does m ws g u w)), tt)
  moves (Hypervisor (Map g v p x)) e c = let q = (map-accepted h ws lw Cpu g v p x).0 e in ((q.0, map-does h ws Cpu g v p x c), (q.1, q.2, q.3))
  moves (Hypervisor (Unmap g v)) e c = (((unmap-accepted h ws lw Cpu g v).0 e, unmap-does h ws Cpu g v c), tt)
  moves (Hypervisor (AssignPage g p)) e c = let q = (assign-accepted h ws lw g p).0 e in ((q.0, assign-does h ws g p c, refl), (q.1, q.2))
  moves (Hypervisor (ReclaimPage g p)) e c = (((reclaim-accepted h ws lw g p).0 e, reclaim-does h ws g p c, refl), tt)
  moves (Hypervisor (SharePage l r p)) e c = let q = (share-accepted h ws lw l r p).0 e in ((q.0, share-does h ws l r p c), q.1)
  moves (Hypervisor (UnsharePage l r p)) e c = (((unshare-accepted h ws lw l r p).0 e, unshare-does h ws l r p), tt)
  moves (Hypervisor (ContextSwitch u g)) e c = let q = (context-switch-accepted h ws lw g u).0 e in ((q.0, context-switch-does h ws g u c), q.1)
  moves (Hypervisor (AddVm g)) e c = let q = (add-accepted h ws lw g).0 e in ((q.0, add-does h ws g c), q.1)
  moves (Hypervisor (RemoveVm g)) e c = (((remove-accepted h ws lw g).0 e, remove-does h ws g c), tt)
  moves (Hypervisor (IommuMap g v p x)) e c = let q = (map-accepted h ws lw Iommu g v p x).0 e in ((q.0, map-does h ws Iommu g v p x c), (q.1, q.2, q.3))
  moves (Hypervisor (IommuUnmap g v)) e c = (((unmap-accepted h ws lw Iommu g v).0 e, unmap-does h ws Iommu g v c), tt)
  moves (Hypervisor (IommuAssignPage g p)) e c = let q = (iommu-assign-accepted h ws lw g p).0 e in
      ((q.0, iommu-assign-does h ws g p c, iommu-assign-memory h ws g p), q.1)
  moves (Hypervisor (IommuReclaimPage g p)) e c = (((iommu-reclaim-accepted h ws lw g p).0 e, iommu-reclaim-does h ws g p c, refl), tt)

  -- ── a possible step is accepted ──
  possible : (a : MachineAction) (s : MachineState) → Step (view m ws) s a → Besides m a → accepted (refusals m (asked a)) ≡ true
  possible (Vm g (Read u a)) s q b = (read-accepted h ws lw g u a).1 (q.0, q.1.0)
  possible (Vm g (Write u a w)) s q b = (write-accepted h ws lw g u a w).1 (q.0, q.1.0)
  possible (Vm g (HyperCall u w)) s q b = (hypercall-accepted h ws lw g u w).1 (q.0, q.1.0)
  possible (Hypervisor (Map g v p x)) s q b = (map-accepted h ws lw Cpu g v p x).1 (q.0, b.0, b.1, b.2)
  possible (Hypervisor (Unmap g v)) s q b = (unmap-accepted h ws lw Cpu g v).1 q.0
  possible (Hypervisor (AssignPage g p)) s q b = (assign-accepted h ws lw g p).1 (q.0, b.0, b.1)
  possible (Hypervisor (ReclaimPage g p)) s q b = (reclaim-accepted h ws lw g p).1 q.0
  possible (Hypervisor (SharePage l r p)) s q b = (share-accepted h ws lw l r p).1 (q.0, b)
  possible (Hypervisor (UnsharePage l r p)) s q b = (unshare-accepted h ws lw l r p).1 q.0
  possible (Hypervisor (ContextSwitch u g)) s q b = (context-switch-accepted h ws lw g u).1 (q.0, b)
  possible (Hypervisor (AddVm g)) s q b = (add-accepted h ws lw g).1 (q.0, b)
  possible (Hypervisor (RemoveVm g)) s q b = (remove-accepted h ws lw g).1 q.0
  possible (Hypervisor (IommuMap g v p x)) s q b = (map-accepted h ws lw Iommu g v p x).1 (q.0, b.0, b.1, b.2)
  possible (Hypervisor (IommuUnmap g v)) s q b = (unmap-accepted h ws lw Iommu g v).1 q.0
  possible (Hypervisor (IommuAssignPage g p)) s q b = (iommu-assign-accepted h ws lw g p).1 (q.0, b)
  possible (Hypervisor (IommuReclaimPage g p)) s q b = (iommu-reclaim-accepted h ws lw g p).1 q.0

  after-accepted : (a : MachineAction) → accepted (refusals m (asked a)) ≡ true → viewed_after m a ws ≡ viewed m (asked a) ws
  unfolding next does
  after-accepted a e = rw e

  -- ── and the state after it is the one that the step fixes ──
  pub step-exactly : (a : MachineAction) (s : MachineState) →
      (Step (view m ws) s a × Besides m a) ↔ ((accepted (refusals m (asked a)) ≡ true) × (s ≡ viewed_after m a ws))
  step-exactly a s = (
    λ q.
        let e = possible a s q.0 q.1 in let mine = moves a e (accepted-clear m (asked a) e) in
        (e, step-unique (view m ws) s (viewed m (asked a) ws) a q.0 mine.0 ∙ sym (after-accepted a e)),
    λ q.
        let mine = moves a q.0 (accepted-clear m (asked a) q.0) in
        (subst (λ (t : MachineState). Step (view m ws) t a) (sym (q.1 ∙ after-accepted a q.0)) mine.0, mine.1),
  )

  -- ── what a read hands back is what the source lets the guest observe ──
  pub read_word : (g u a : ℕ) → accepted (refusals m (asked (Vm g (Read u a)))) ≡ true →
      read_observation (view m ws) u g a ≡ some (acted m (asked (Vm g (Read u a))) ws).seen.word
  unfolding does
  read_word g u a q =
      let c = accepted-clear m (asked (Vm g (Read u a))) q in
      let e = Rattle.tables.specs.State.effective_entry m.map m.tlb u g (page_of a) in
      let f = effective_entry Cpu (view m ws) u g (page_of a) in
      let al = entries-alike Cpu m ws u g (page_of a) (access-keyed g u a (c 4)) in
      let l : live W e ≡ true = isnt-false _ (sym (nothing_is e) ∙ c 9) in
      rw q (observed-word (live W f) (live W f and readable f) (word_of (page_in f) (offset_of a)) ws ((read-accepted h ws lw g u a).0 q).1.observed
      ∙ ap (λ (n : ℕ). some (get_or ws n 0)) (ap (λ (n : ℕ). word_of n (offset_of a)) (sym al.page) ∙ sym (word-at-is e a l)))
