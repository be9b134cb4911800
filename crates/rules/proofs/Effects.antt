-- An accepted action does what the source's step says, clause by clause: over the source's view of the state before and after.
use mathlib.Core.Path.{◌≡◌, refl, sym, ◌∙◌, ap, subst, fun_ext}
use mathlib.Core.Bool.{Bool, true, false, cond}
use mathlib.Core.List.{List}
use Prim.Native.Nat.{ℕ, ◌<◌}
use native.Mathlib.Omega.{arith}
use lib.Dec.{eqb}
use lib.ListN.{length, get_or, set}
use borrow.Author.Tests.{eqb-true, eq-eqb, ne_eqb}
use Rattle.numbers.specs.Sizes.{guests, pages}
use Rattle.numbers.specs.Tests.{◌or◌}
use Rattle.numbers.specs.Addresses.{page_of, offset_of, word_of}
use Rattle.numbers.specs.Entries.{entry}
use Rattle.numbers.proofs.Bools.{split, clash, cond-true, cond-false, and_l, and_i, or_l, or_r, isnt-false, not-true}
use Rattle.numbers.proofs.EntryLaws.{entry-live}
use Rattle.tables.specs.Table.{live}
use Rattle.tables.specs.Wants.{W, invalidated}
use Rattle.tables.specs.State.{nobody, hypervisor, guest, holder_of, dma_of, map_of, tlb_of, effective_entry}
use Rattle.tables.specs.Wf.{Wf}
use Rattle.tables.specs.Views.{MachineState, view, entry_at}
use Rattle.tables.specs.declared.state.Tables.{Tables}
use Rattle.tables.specs.declared.state.Side.{Side}
use Rattle.tables.specs.declared.state.Side.TheVariants.{Cpu, Iommu}
use Rattle.tables.proofs.WantLaws.{live_pos, has-key-agrees}
use Rattle.tables.proofs.ViewLaws.{Keyed}
use Rattle.rules.specs.Actions.{Op, refusals, effect, touch, touched, holds, dma_holds, clear_page}
use Rattle.rules.specs.Actions.Op.{Read, Write, HyperCall, AddVm, RemoveVm, AssignPage, ReclaimPage, SharePage, UnsharePage, Map, Unmap, ContextSwitch, IommuAssignPage, IommuReclaimPage}
use Rattle.rules.specs.Parts.{with_present, with_pairs, with_held, with_walk}
use Rattle.rules.specs.Source.{update, update_key, insert, remove, empty_set, with_edge, SameOwnershipAs, SameTranslationAs, Unchanged, VmWriteEffects, MappingEffects, IommuPageEffects, PageEffects, SharingEffects, HvContextSwitchEffects, PopulationEffects, inserted}
use Rattle.rules.proofs.Lowest.{Clear}
use Rattle.rules.proofs.Ranges.{below}
use Rattle.rules.proofs.PartLaws.{map_with, tlb-with, other-map-with, other-tlb-with}
use Rattle.rules.proofs.Places.{named-agrees, another-agrees}
use Rattle.rules.proofs.Accesses.{access-keyed, entries-alike, can-write-is, word-at-is}
use Rattle.rules.proofs.Walks.{some-unit, made-key}
use Rattle.rules.proofs.Updates.{list-updated, test-updated, owned-updated, put-updated, unmap-updated, tlb-updated, share-updated, unshare-updated}

-- the state after an accepted action
abbrev pub viewed : Tables → Op → List ℕ → MachineState
viewed m o ws = view (effect m o) (touched (touch m o) ws)

module _ (m : Tables) (ws : List ℕ) where
  -- nothing that a side's maps or the holders say
  same-own : SameOwnershipAs (view m ws) (view m ws)
  same-own = record { hypervisor_owned = refl; vm_owned = refl; shared_pages = refl; iommu_owned = refl; iommu_shared = refl }

  same_trans : SameTranslationAs (view m ws) (view m ws)
  same_trans = record { s2_map = refl; tlb = refl; active_vm = refl }

  pub read-does : (d : Side) (g u a : ℕ) → Unchanged (viewed m (Read d g u a) ws) (view m ws)
  read-does d g u a = record { same_identity = refl; same_ownership = same-own; same_translation = same_trans; same_memory = refl }

  pub hypercall-does : (g u w : ℕ) → Unchanged (viewed m (HyperCall g u w) ws) (view m ws)
  hypercall-does g u w = record { same_identity = refl; same_ownership = same-own; same_translation = same_trans; same_memory = refl }

module _ {m : Tables} (h : Wf m) (ws : List ℕ) where
  -- ── map and unmap, on either side ──
  -- the map has the key's entry or nothing, the TLB loses the key everywhere
  mapped : (d : Side) (g v x : ℕ) (map : List ℕ) → (λ k w. entry_at map 0 k w) ≡ update_key g v x (λ k w. entry_at (map_of d m) 0 k w) →
      MappingEffects d (view (with_walk d m map (invalidated g v (tlb_of d m))) ws) (view m ws) g v x
  mapped d g v x map e =
      let tlb = invalidated g v (tlb_of d m) in record {
        same_identity = refl;
        same_ownership = record { hypervisor_owned = refl; vm_owned = refl; shared_pages = refl; iommu_owned = refl; iommu_shared = refl };
        same_memory = refl;
        active_vm = refl;
        s2_map = ap (λ (t : List ℕ). λ k w. entry_at t 0 k w) (map_with m map tlb d) ∙ e;
        tlb = ap (λ (t : List ℕ). λ u k w. entry_at t u k w) (tlb-with m map tlb d) ∙ tlb-updated g v (tlb_of d m);
        other_s2_map = ap (λ (t : List ℕ). λ k w. entry_at t 0 k w) (other-map-with m map tlb d);
        other_tlb = ap (λ (t : List ℕ). λ u k w. entry_at t u k w) (other-tlb-with m map tlb d);
      }

  pub map-does : (d : Side) (g v p x : ℕ) → Clear (refusals m (Map d g v p x)) →
      MappingEffects d (viewed m (Map d g v p x) ws) (view m ws) g v (entry 0 g v p x)
  map-does d g v p x c = mapped d g v (entry 0 g v p x) _ (put-updated g v (entry 0 g v p x) (map_of d m) k
      (and_i (live_pos _ (entry-live 0 g v p x)) ((has-key-agrees _ _).1 (sym (made-key 0 g v p x k
      (below _ _ (or_l _ _ (or_r _ _ (or_r _ _ (c 4))))) (below _ _ (or_r _ _ (or_r _ _ (or_r _ _ (c 4))))))))) (c 15))
    where
      k : Keyed 0 g v
      k = record { unit = some-unit; guest = below _ _ (or_l _ _ (c 4)); gpage = below _ _ (or_l _ _ (or_r _ _ (c 4))) }

  pub unmap-does : (d : Side) (g v : ℕ) → Clear (refusals m (Unmap d g v)) → MappingEffects d (viewed m (Unmap d g v) ws) (view m ws) g v 0
  unmap-does d g v c = mapped d g v 0 _ (unmap-updated g v (map_of d m)
      (record { unit = some-unit; guest = below _ _ (or_l _ _ (c 4)); gpage = below _ _ (or_r _ _ (c 4)) }))

  -- ── pages change hands ──
  -- a guest's number is no other guest's, nor the hypervisor's
  guests-differ : (n g k : ℕ) → n ≡ guest g → (g ≡ k → ⊥) → eqb n (guest k) ≡ false
  guests-differ n g k e f = ne_eqb n (guest k) (λ (t : n ≡ guest k). f (omega arith))

  no-guest : (n k : ℕ) → n < 2 → eqb n (guest k) ≡ false
  no-guest n k l = ne_eqb n (guest k) (λ (t : n ≡ guest k). omega arith)

  module _ (p : ℕ) (inside : p < pages) where
    in-holder : p < length m.holder
    in-holder = rw h.sizes.holder inside

    in-dma : p < length m.dma
    in-dma = rw h.sizes.dma inside

    -- the CPU holder of p becomes x
    pages-held : (g x : ℕ) (pooled owned : Bool) (vs : List ℕ) → eqb x hypervisor ≡ pooled → eqb x (guest g) ≡ owned →
        ((k : ℕ) → (g ≡ k → ⊥) → eqb x (guest k) ≡ eqb (holder_of m p) (guest k)) →
        PageEffects (view (with_held Cpu m (set m.holder p x)) vs) (view m ws) g
        (update p pooled (view m ws).hypervisor_owned) (update p owned ((view m ws).vm_owned g))
    pages-held g x pooled owned vs pool mine others = record {
      same_identity = refl;
      same_translation = record { s2_map = refl; tlb = refl; active_vm = refl };
      hypervisor_owned = test-updated (λ n. eqb n hypervisor) m.holder p x 0 in-holder ∙ ap (λ b. update p b (view m ws).hypervisor_owned) pool;
      shared_pages = refl;
      iommu_owned = refl;
      iommu_shared = refl;
      vm_owned = owned-updated m.holder p x g owned in-holder mine others;
    }

    -- its DMA holder does
    dma-held : (g x : ℕ) (owned : Bool) (vs : List ℕ) → eqb x (guest g) ≡ owned →
        ((k : ℕ) → (g ≡ k → ⊥) → eqb x (guest k) ≡ eqb (dma_of m p) (guest k)) →
        IommuPageEffects (view (with_held Iommu m (set m.dma p x)) vs) (view m ws) g (update p owned ((view m ws).iommu_owned g))
    dma-held g x owned vs mine others = record {
      same_identity = refl;
      same_translation = record { s2_map = refl; tlb = refl; active_vm = refl };
      hypervisor_owned = refl;
      vm_owned = refl;
      shared_pages = refl;
      iommu_shared = refl;
      iommu_owned = owned-updated m.dma p x g owned in-dma mine others;
    }

  pub assign-does : (g p : ℕ) → Clear (refusals m (AssignPage g p)) →
      PageEffects (viewed m (AssignPage g p) ws) (view m ws) g (remove p (view m ws).hypervisor_owned) (insert p ((view m ws).vm_owned g))
  assign-does g p c =
      let held : holder_of m p ≡ hypervisor = eqb-true _ _ (isnt-false _ (c 11)) in
      pages-held p (below _ _ (or_r _ _ (c 4))) g (guest g) false true _
      (ne_eqb (guest g) hypervisor (λ (t : guest g ≡ 1). omega arith)) (eq-eqb (guest g) (guest g) refl)
      (λ k n. guests-differ (guest g) g k refl n ∙ sym (no-guest (holder_of m p) k (omega arith)))

  pub reclaim-does : (g p : ℕ) → Clear (refusals m (ReclaimPage g p)) →
      PageEffects (viewed m (ReclaimPage g p) ws) (view m ws) g (insert p (view m ws).hypervisor_owned) (remove p ((view m ws).vm_owned g))
  reclaim-does g p c = pages-held p (below _ _ (or_r _ _ (c 4))) g hypervisor true false _
      refl (no-guest hypervisor g (omega arith))
      (λ k n. no-guest hypervisor k (omega arith) ∙ sym (guests-differ (holder_of m p) g k (eqb-true _ _ (isnt-false _ (c 11))) n))

  pub iommu-assign-does : (g p : ℕ) → Clear (refusals m (IommuAssignPage g p)) →
      IommuPageEffects (viewed m (IommuAssignPage g p) ws) (view m ws) g (insert p ((view m ws).iommu_owned g))
  iommu-assign-does g p c = dma-held p (below _ _ (or_r _ _ (c 4))) g (guest g) true _
      (eq-eqb (guest g) (guest g) refl)
      (λ k n. guests-differ (guest g) g k refl n
      ∙ sym (not-true _ (λ t. n (sym ((another-agrees g (dma_of m p)).0 (or_l _ _ (or_r _ _ (c 12))) k (eqb-true _ _ t))))))

  -- the memory of it: wiped, unless the guest has the page already
  pub iommu-assign-memory : (g p : ℕ) → (viewed m (IommuAssignPage g p) ws).memory ≡ cond (dma_holds m g p or holds m g p) ws (clear_page p ws)
  iommu-assign-memory g p = split (dma_holds m g p or holds m g p) (λ e. rw e) (λ e. rw e)

  pub iommu-reclaim-does : (g p : ℕ) → Clear (refusals m (IommuReclaimPage g p)) →
      IommuPageEffects (viewed m (IommuReclaimPage g p) ws) (view m ws) g (remove p ((view m ws).iommu_owned g))
  iommu-reclaim-does g p c = dma-held p (below _ _ (or_r _ _ (c 4))) g nobody false _
      (no-guest nobody g (omega arith))
      (λ k n. no-guest nobody k (omega arith) ∙ sym (guests-differ (dma_of m p) g k (eqb-true _ _ (isnt-false _ (c 11))) n))

  -- ── pairs ──
  shared : (ps : List ℕ) (edges : ℕ → ℕ → ℕ → Bool) → (view (with_pairs m ps) ws).shared_pages ≡ edges →
      SharingEffects (view (with_pairs m ps) ws) (view m ws) edges
  shared ps edges e = record {
    same_identity = refl;
    hypervisor_owned = refl;
    vm_owned = refl;
    iommu_owned = refl;
    iommu_shared = refl;
    same_translation = record { s2_map = refl; tlb = refl; active_vm = refl };
    same_memory = refl;
    shared_pages = e;
  }

  pub share-does : (l r p : ℕ) → Clear (refusals m (SharePage l r p)) →
      SharingEffects (viewed m (SharePage l r p) ws) (view m ws) (with_edge l r p true (view m ws).shared_pages)
  share-does l r p c = shared _ _ (share-updated l r p m.pairs
      (record { left = below _ _ (or_l _ _ (c 4)); right = below _ _ (or_l _ _ (or_r _ _ (c 4))); page = below _ _ (or_r _ _ (or_r _ _ (c 4))) }) (c 15))

  pub unshare-does : (l r p : ℕ) → SharingEffects (viewed m (UnsharePage l r p) ws) (view m ws) (with_edge l r p false (view m ws).shared_pages)
  unshare-does l r p = shared _ _ (unshare-updated l r p m.pairs)

  -- ── CPUs and guests ──
  pub context-switch-does : (g u : ℕ) → Clear (refusals m (ContextSwitch g u)) → HvContextSwitchEffects (viewed m (ContextSwitch g u) ws) (view m ws) u g
  context-switch-does g u c = record {
    same_identity = refl;
    same_ownership = record { hypervisor_owned = refl; vm_owned = refl; shared_pages = refl; iommu_owned = refl; iommu_shared = refl };
    same_memory = refl;
    s2_map = refl;
    tlb = refl;
    active_vm = list-updated m.running u (guest g) 0 (rw h.sizes.running (below _ _ (or_r _ _ (c 4))));
  }

  -- a guest that no holder is has the empty set
  unowned : (l : List ℕ) (g : ℕ) → ((q : ℕ) → get_or l q 0 ≡ guest g → ⊥) →
      (λ k q. eqb (get_or l q 0) (guest k)) ≡ update g empty_set (λ k q. eqb (get_or l q 0) (guest k))
  unowned l g f = fun_ext (λ k. split (eqb g k)
      (λ e. subst (λ (n : ℕ). (λ q. eqb (get_or l q 0) (guest n)) ≡ empty_set) (eqb-true g k e) (fun_ext (λ q. ne_eqb _ _ (f q))) ∙ sym (cond-true e _ _))
      (λ e. sym (cond-false e _ _)))

  peopled : (g : ℕ) (b : Bool) → g < guests → ((p : ℕ) → holder_of m p ≡ guest g → ⊥) → ((p : ℕ) → dma_of m p ≡ guest g → ⊥) →
      PopulationEffects (view (with_present m (set m.present g b)) ws) (view m ws) g (update g b (view m ws).all_vms)
  peopled g b inside held dma = record {
    all_vms = list-updated m.present g b false (rw h.sizes.present inside);
    hypervisor_owned = refl;
    vm_owned = unowned m.holder g held;
    iommu_owned = unowned m.dma g dma;
    iommu_shared = refl;
    shared_pages = refl;
    same_translation = record { s2_map = refl; tlb = refl; active_vm = refl };
    same_memory = refl;
  }

  pub add-does : (g : ℕ) → Clear (refusals m (AddVm g)) → PopulationEffects (viewed m (AddVm g) ws) (view m ws) g (insert g (view m ws).all_vms)
  add-does g c = peopled g true (below _ _ (c 4))
      (λ p e. clash ((h.pages_wf p).ownership_wf g e) (c 7))
      (λ p e. clash ((h.pages_wf p).iommu_ownership_wf g e) (c 7))

  pub remove-does : (g : ℕ) → Clear (refusals m (RemoveVm g)) → PopulationEffects (viewed m (RemoveVm g) ws) (view m ws) g (remove g (view m ws).all_vms)
  remove-does g c = peopled g false (below _ _ (c 4))
      ((named-agrees g m.holder).0 (or_l _ _ (c 13)))
      ((named-agrees g m.dma).0 (or_l _ _ (or_r _ _ (c 13))))

  -- ── a write ──
  pub write-does : (g u a w : ℕ) → Clear (refusals m (Write Cpu g u a w)) → VmWriteEffects (viewed m (Write Cpu g u a w) ws) (view m ws) g u a w
  write-does g u a w c =
      let e = effective_entry m.map m.tlb u g (page_of a) in
      let al = entries-alike Cpu m ws u g (page_of a) (access-keyed g u a (c 4)) in
      let l : live W e ≡ true = and_l _ _ (sym (can-write-is e) ∙ isnt-false _ (c 10)) in
      record {
        same_identity = refl;
        same_ownership = record { hypervisor_owned = refl; vm_owned = refl; shared_pages = refl; iommu_owned = refl; iommu_shared = refl };
        same_translation = record { s2_map = refl; tlb = refl; active_vm = refl };
        memory = ap (λ (n : ℕ). set ws n w) (word-at-is e a l ∙ ap (λ (n : ℕ). word_of n (offset_of a)) al.page)
            ∙ sym (ap (λ o. inserted o w ws) (cond-true (sym al.alive ∙ l) _ _));
      }
