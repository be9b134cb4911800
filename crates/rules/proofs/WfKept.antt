-- An accepted action keeps good order: every kind, by the part of the tables that it replaces. Nothing is asked of the next state; it
-- follows from the refusals that did not apply.
use mathlib.Core.Path.{◌≡◌, refl, sym, ◌∙◌, subst}
use mathlib.Core.Bool.{Bool, true, false}
use mathlib.Core.List.{List}
use mathlib.Core.Logic.{⊎_elim}
use Prim.Native.Nat.{ℕ}
use native.Mathlib.Omega.{arith}
use lib.Dec.{eqb}
use lib.ListN.{get_or}
use borrow.Author.Tests.{eqb-true, eqb-false}
use Rattle.numbers.specs.Sizes.{guests, units, gpages}
use Rattle.numbers.specs.Tests.{◌or◌}
use Rattle.numbers.specs.Entries.{guest_in, page_in, pair}
use Rattle.numbers.specs.Frames.{off}
use Rattle.numbers.proofs.Bools.{split, clash, and_l, and_r, and_i, or_l, or_r, or-il, or-ir, isnt-true, isnt-false, isnt-i, not-true, not-false}
use Rattle.tables.specs.Table.{has, place, wipe, Each}
use Rattle.tables.specs.Wants.{W, of_guest, to_page, maps, ends_at, shared_by, shared_with}
use Rattle.tables.specs.State.{nobody, hypervisor, guest, holder_of, dma_of, map_of, held_on, reach}
use Rattle.tables.specs.Wf.{CpuWf, Wf}
use Rattle.tables.specs.declared.state.Tables.{Tables}
use Rattle.tables.specs.declared.state.Side.{Side}
use Rattle.tables.specs.declared.state.Side.TheVariants.{Cpu, Iommu}
use Rattle.tables.proofs.TableLaws.{each_all, each_map, each_both, each-place, uniq-place, uniq-wipe, length-put, length-place, length-wipe, none_each, has-place, has-wipe-other, has-ext}
use Rattle.tables.proofs.WantLaws.{zero-free, of_guest-agrees, to_page-agrees, ends-at-agrees, joins-agrees, same_pair-is}
use Rattle.tables.proofs.ViewLaws.{Keyed}
use Rattle.rules.specs.Actions.{Op, refusals, effect, holds, leans, accepted}
use Rattle.rules.specs.Actions.Op.{Read, Write, HyperCall, AddVm, RemoveVm, AssignPage, ReclaimPage, SharePage, UnsharePage, Map, Unmap, ContextSwitch, Idle, Fill, Drop, IommuAssignPage, IommuReclaimPage}
use Rattle.rules.proofs.Lowest.{Clear, accepted-clear}
use Rattle.rules.proofs.Places.{named-agrees, another-agrees}
use Rattle.rules.proofs.Ranges.{below}
use Rattle.rules.proofs.Pairs.{Paired, pair-wf, pair-test}
use Rattle.rules.proofs.Walks.{some-unit, kept, walk-map, walk-unmap, walk-fill, walk-drop}
use Rattle.rules.proofs.WfFrames.{keeps-walk, keeps-held, keeps-pairs, keeps-present, keeps-running}

-- a guest page of a map
keyed : (g v : ℕ) → off g guests ≡ false → off v gpages ≡ false → Keyed 0 g v
keyed g v a b = record { unit = some-unit; guest = below g guests a; gpage = below v gpages b }

keyed-at : (u g v : ℕ) → (off g guests or off u units or off v gpages) ≡ false → Keyed u g v
keyed-at u g v e = record { unit = below _ _ (or_l _ _ (or_r _ _ e)); guest = below _ _ (or_l _ _ e); gpage = below _ _ (or_r _ _ (or_r _ _ e)) }

-- a guest that is present may run
runs : (here : List Bool) (g : ℕ) → get_or here g false ≡ true → CpuWf here (guest g)
runs here g e = record {
  active_vm_wf = λ i s. let k : g ≡ i = omega arith in subst (λ (n : ℕ). get_or here n false ≡ true) k e;
  no_hypervisor_runs = λ s. omega arith;
}

idles : (here : List Bool) → CpuWf here nobody
idles here = record { active_vm_wf = λ i s. absurd (omega arith); no_hypervisor_runs = λ s. omega arith }

module _ {m : Tables} (h : Wf m) where
  -- ── pages change hands ──
  -- no entry of a quiescent page's side leads to it
  no_rows : (d : Side) (p x : ℕ) → has W (to_page p) (map_of d m) ≡ false →
      Each W (λ r. page_in r ≡ p → get_or (held_on d m) p nobody ≡ guest (guest_in r) → x ≡ guest (guest_in r)) (map_of d m)
  no_rows d p x n = each_map W (λ r l k e s. clash ((to_page-agrees p r).1 (sym e)) k) (none_each W (to_page p) (map_of d m) n)

  keeps-AssignPage : (g p : ℕ) → Clear (refusals m (AssignPage g p)) → Wf (effect m (AssignPage g p))
  keeps-AssignPage g p c = keeps-held h Cpu p (guest g)
      (record {
        ownership_wf = (runs m.present g (isnt-false _ (c 6))).active_vm_wf;
        iommu_ownership_wf = (h.pages_wf p).iommu_ownership_wf;
        no_hypervisor_dma = (h.pages_wf p).no_hypervisor_dma;
        one_guest = λ i k s t. let z : k ≡ g = (another-agrees g (dma_of m p)).0 (or_r _ _ (c 12)) k t in omega arith;
        region_not_owned = λ i s. or_l _ _ (c 12);
        region_not_iommu_owned = λ i s. or_l _ _ (c 12);
      })
      (each_all W m.map (λ r l e s. let z : holder_of m p ≡ hypervisor = eqb-true _ _ (isnt-false _ (c 11)) in absurd (omega arith)))

  keeps-ReclaimPage : (g p : ℕ) → Clear (refusals m (ReclaimPage g p)) → Wf (effect m (ReclaimPage g p))
  keeps-ReclaimPage g p c = keeps-held h Cpu p hypervisor
      (record {
        ownership_wf = λ i s. absurd (omega arith);
        iommu_ownership_wf = (h.pages_wf p).iommu_ownership_wf;
        no_hypervisor_dma = (h.pages_wf p).no_hypervisor_dma;
        one_guest = λ i k s t. absurd (omega arith);
        region_not_owned = λ i s. absurd (omega arith);
        region_not_iommu_owned = (h.pages_wf p).region_not_iommu_owned;
      })
      (no_rows Cpu p hypervisor (isnt-true _ (and_l _ _ (and_l _ _ (isnt-false _ (c 13))))))

  keeps-IommuAssignPage : (g p : ℕ) → Clear (refusals m (IommuAssignPage g p)) → Wf (effect m (IommuAssignPage g p))
  keeps-IommuAssignPage g p c = keeps-held h Iommu p (guest g)
      (record {
        ownership_wf = (h.pages_wf p).ownership_wf;
        iommu_ownership_wf = (runs m.present g (isnt-false _ (c 6))).active_vm_wf;
        no_hypervisor_dma = λ s. omega arith;
        one_guest = λ i k s t. let z : i ≡ g = (another-agrees g (holder_of m p)).0 (or_r _ _ (or_r _ _ (c 12))) i s in omega arith;
        region_not_owned = λ i s. or_l _ _ (c 12);
        region_not_iommu_owned = λ i s. or_l _ _ (c 12);
      })
      (each_all W m.io_map (λ r l e s.
      let z : guest_in r ≡ g = (another-agrees g (dma_of m p)).0 (or_l _ _ (or_r _ _ (c 12))) (guest_in r) s in omega arith))

  keeps-IommuReclaimPage : (g p : ℕ) → Clear (refusals m (IommuReclaimPage g p)) → Wf (effect m (IommuReclaimPage g p))
  keeps-IommuReclaimPage g p c = keeps-held h Iommu p nobody
      (record {
        ownership_wf = (h.pages_wf p).ownership_wf;
        iommu_ownership_wf = λ i s. absurd (omega arith);
        no_hypervisor_dma = λ s. omega arith;
        one_guest = λ i k s t. absurd (omega arith);
        region_not_owned = (h.pages_wf p).region_not_owned;
        region_not_iommu_owned = λ i s. absurd (omega arith);
      })
      (no_rows Iommu p nobody (isnt-true _ (and_l _ _ (isnt-false _ (c 13)))))

  -- ── pairs ──
  -- an end that maps the page is its CPU holder
  end-holds : (g p : ℕ) → leans m g p ≡ false → Each W (λ x. g ≡ guest_in x → p ≡ page_in x → holds m g p ≡ true) m.map
  unfolding leans
  end-holds g p e = split (has W (maps g p) m.map)
      (λ t. each_all W m.map (λ x l a b. not-false (holds m g p) (λ n. clash (and_i t (isnt-i n)) e)))
      (λ t. each_map W (λ x l n a b. clash (and_i ((of_guest-agrees g x).1 a) ((to_page-agrees p x).1 b)) n) (none_each W (maps g p) m.map t))

  -- the pair goes: another page's pairs stay, and so do those of other guests
  other-pair : (l r p g q : ℕ) → (p ≡ q → (l ≡ g → ⊥) × (r ≡ g → ⊥)) → (x : ℕ) → shared_with g q x ≡ true → shared_by l r p x ≡ false
  other-pair l r p g q f x e = not-true _ (λ t.
      let n = f ((to_page-agrees p x).0 (and_l _ _ t) ∙ sym ((to_page-agrees q x).0 (and_l _ _ e))) in
      ⊎_elim
      (λ a. ⊎_elim (λ b. n.0 (b.0 ∙ sym a)) (λ b. n.1 (b.1 ∙ sym a)) ((joins-agrees l r x).0 (and_r _ _ t)))
      (λ a. ⊎_elim (λ b. n.1 (b.1 ∙ sym a)) (λ b. n.0 (b.0 ∙ sym a)) ((joins-agrees l r x).0 (and_r _ _ t)))
      ((ends-at-agrees g x).0 (and_r _ _ e)))

  keeps-UnsharePage : (l r p : ℕ) → Clear (refusals m (UnsharePage l r p)) → Wf (effect m (UnsharePage l r p))
  unfolding reach
  keeps-UnsharePage l r p c = keeps-pairs h (wipe W (shared_by l r p) m.pairs) (length-wipe W _ m.pairs)
      (kept _ h.sharing_wf) (uniq-wipe W zero-free same_pair-is _ h.pair_keys)
      (each_map W (λ x _ e s. rests x e.0 e.1 s) (each_both W (end-holds l p (or_l _ _ free)) (end-holds r p (or_r _ _ free))))
    where
      free : (leans m l p or leans m r p) ≡ false
      free = not-true _ (λ t. clash (and_i (isnt-false _ (c 14)) t) (c 13))

      rests : (x : ℕ) → (l ≡ guest_in x → p ≡ page_in x → holds m l p ≡ true) → (r ≡ guest_in x → p ≡ page_in x → holds m r p ≡ true) →
          has W (shared_with (guest_in x) (page_in x)) m.pairs ≡ true →
          reach Cpu m.holder (wipe W (shared_by l r p) m.pairs) m.region (guest_in x) (page_in x) ≡ true
      rests x a b s = split (eqb p (page_in x))
          (λ e. split (eqb l (guest_in x))
          (λ f. or-il _ (rw (← eqb-true l (guest_in x) f, ← eqb-true p (page_in x) e) (a (eqb-true _ _ f) (eqb-true _ _ e))))
          (λ f. split (eqb r (guest_in x))
          (λ k. or-il _ (rw (← eqb-true r (guest_in x) k, ← eqb-true p (page_in x) e) (b (eqb-true _ _ k) (eqb-true _ _ e))))
          (λ k. or-ir _ (stays (λ _. (eqb-false _ _ f, eqb-false _ _ k))))))
          (λ e. or-ir _ (stays (λ q. absurd (eqb-false _ _ e q))))
        where
          stays : (p ≡ page_in x → (l ≡ guest_in x → ⊥) × (r ≡ guest_in x → ⊥)) →
              has W (shared_with (guest_in x) (page_in x)) (wipe W (shared_by l r p) m.pairs) ≡ true
          stays f = has-wipe-other W zero-free _ (shared_by l r p) m.pairs (other-pair l r p (guest_in x) (page_in x) f) ∙ s

  keeps-SharePage : (l r p : ℕ) → Clear (refusals m (SharePage l r p)) → Wf (effect m (SharePage l r p))
  unfolding reach
  keeps-SharePage l r p c = split (has W (shared_by l r p) m.pairs)
      (λ e. rw e h)
      (λ e. rw e (keeps-pairs h (place W (pair l r p 0) m.pairs) (length-place W _ m.pairs)
      (each-place W (pair l r p 0) (pair-wf l r p k (eqb-false _ _ (c 5)) (isnt-false _ (or_l _ _ (c 6))) (isnt-false _ (or_r _ _ (c 6)))) h.sharing_wf)
      (uniq-place W zero-free same_pair-is (pair l r p 0) (has-ext W _ _ (each_all W m.pairs (λ x _. pair-test l r p k x)) ∙ e) h.pair_keys)
      (each_all W m.map (λ x _ s. or-ir _ (has-place W zero-free _ (pair l r p 0) m.pairs s)))))
    where
      k : Paired l r p
      k = record { left = below _ _ (or_l _ _ (c 4)); right = below _ _ (or_l _ _ (or_r _ _ (c 4))); page = below _ _ (or_r _ _ (or_r _ _ (c 4))) }

  -- ── guests come and go ──
  keeps-RemoveVm : (g : ℕ) → Clear (refusals m (RemoveVm g)) → Wf (effect m (RemoveVm g))
  keeps-RemoveVm g c =
      let t₁ = or_r _ _ (c 13) in let t₂ = or_r _ _ t₁ in let t₃ = or_r _ _ t₂ in let t₇ = or_r _ _ (or_r _ _ (or_r _ _ t₃)) in
      keeps-present h g false
      (λ p e. absurd ((named-agrees g m.holder).0 (or_l _ _ (c 13)) p e))
      (λ p e. absurd ((named-agrees g m.dma).0 (or_l _ _ t₁) p e))
      (λ u e. absurd ((named-agrees g m.running).0 (or_r _ _ t₇) u e))
      (each_map W (λ q _ n e. clash e n) (none_each W (ends_at g) m.pairs (or_l _ _ t₇)))
      (elim [
        | Cpu ↦ each_map W (λ x _ n e. clash e n) (none_each W (of_guest g) m.map (or_l _ _ t₂))
        | Iommu ↦ each_map W (λ x _ n e. clash e n) (none_each W (of_guest g) m.io_map (or_l _ _ t₃))
      ])

  -- ── every action ──
  keeps : (o : Op) → Clear (refusals m o) → Wf (effect m o)
  keeps (Read d g u a) c = h
  keeps (Write d g u a w) c = h
  keeps (HyperCall g u w) c = h
  keeps (AddVm g) c = keeps-present h g true (λ p e. refl) (λ p e. refl) (λ u e. refl)
      (each_all W m.pairs (λ q l e. refl)) (λ d. each_all W (map_of d m) (λ x l e. refl))
  keeps (RemoveVm g) c = keeps-RemoveVm g c
  keeps (AssignPage g p) c = keeps-AssignPage g p c
  keeps (ReclaimPage g p) c = keeps-ReclaimPage g p c
  keeps (SharePage l r p) c = keeps-SharePage l r p c
  keeps (UnsharePage l r p) c = keeps-UnsharePage l r p c
  keeps (Map d g v p x) c = keeps-walk h d _ _ (length-put W _ _ _) (length-wipe W _ _) (walk-map (h.walks_wf d) g v p x
      (keyed g v (or_l _ _ (c 4)) (or_l _ _ (or_r _ _ (c 4))))
      (below _ _ (or_l _ _ (or_r _ _ (or_r _ _ (c 4))))) (below _ _ (or_r _ _ (or_r _ _ (or_r _ _ (c 4)))))
      (isnt-false _ (c 6)) (isnt-false _ (c 11)))
  keeps (Unmap d g v) c = keeps-walk h d _ _ (length-wipe W _ _) (length-wipe W _ _)
      (walk-unmap (h.walks_wf d) g v (keyed g v (or_l _ _ (c 4)) (or_r _ _ (c 4))))
  keeps (ContextSwitch g u) c = keeps-running h u (guest g) (runs m.present g (isnt-false _ (c 6)))
  keeps (Idle u) c = keeps-running h u nobody (idles m.present)
  keeps (Fill d g u v) c = keeps-walk h d _ _ refl (length-put W _ _ _)
      (walk-fill (h.walks_wf d) u g v (keyed-at u g v (c 4)) (isnt-false _ (c 9)))
  keeps (Drop d g u v) c = keeps-walk h d _ _ refl (length-wipe W _ _) (walk-drop (h.walks_wf d) g u v)
  keeps (IommuAssignPage g p) c = keeps-IommuAssignPage g p c
  keeps (IommuReclaimPage g p) c = keeps-IommuReclaimPage g p c

-- ── an accepted action keeps good order ──
pub wf-kept : (m : Tables) (o : Op) → accepted (refusals m o) ≡ true → Wf m → Wf (effect m o)
wf-kept m o e h = keeps h o (accepted-clear m o e)
