-- The tests of good order, clause by clause.
use mathlib.Core.Path.{◌≡◌, sym, ap, ◌∙◌, subst}
use mathlib.Core.Bool.{Bool, true, false, true≢false}
use mathlib.Core.Logic.{◌↔◌, ⊎_elim}
use mathlib.Core.List.{List}
use Prim.Native.Nat.{ℕ, ◌-◌, ◌<◌, ◌≤◌}
use native.Mathlib.Omega.{arith}
use lib.Dec.{eqb, leb}
use lib.ListN.{get_or}
use borrow.Author.Tests.{ne_eqb, eq-eqb, eqb-true, eqb-false, ltb-true, lt-ltb, leb-true, leb-false, le-leb}
use Rattle.numbers.specs.Tests.{◌and◌, ◌or◌}
use Rattle.numbers.proofs.Bools.{split, clash, not-true, and_l, and_r, and_i, or-e, or-il, or-ir, isnt-true, isnt-i}
use Rattle.tables.specs.Wf.{Sized, EntryWf, MapRowWf, PairWf, PageWf, CpuWf, vm_ok, page_ok, entry_ok, map_row_ok, pair_ok, sized, in_order, wf}
use Rattle.tables.specs.State.{nobody, hypervisor, guest, a_guest, guest_of, held_on, may_reach}
use Rattle.tables.specs.declared.state.Tables.{Tables}
use Rattle.tables.specs.declared.state.Side.{Side}

-- ── sizes ──
pub sized-agrees : (m : Tables) → sized m ≡ true ↔ Sized m
unfolding sized
sized-agrees m = (λ e. search (and_l, and_r, eqb-true) depth 15, λ s. search (and_i, eq-eqb) depth 12)

-- tables of the right sizes are well formed where they are in order
pub wf-sized : (m : Tables) → Sized m → in_order m ≡ wf m
unfolding wf ◌and◌
wf-sized m s = rw ((sized-agrees m).1 s)

-- ── rows ──
pub entry-agrees : (w : ℕ) → entry_ok w ≡ true ↔ EntryWf w
unfolding entry_ok
entry-agrees w = (λ e. search (and_l, and_r, eqb-true, ltb-true) depth 12, λ h. search (and_i, eq-eqb, lt-ltb) depth 12)

pub map-row-agrees : (d : Side) (m : Tables) (x : ℕ) →
    map_row_ok d m.present (held_on d m) m.pairs m.region x ≡ true ↔ MapRowWf m.present (may_reach d m) x
unfolding map_row_ok
map-row-agrees d m x = (
  λ e. record {
    entry = (entry-agrees x).0 (and_l _ _ e);
    no_unit = eqb-true _ _ (and_l _ _ (and_r _ _ e));
    present = and_l _ _ (and_r _ _ (and_r _ _ e));
    entitled = and_r _ _ (and_r _ _ (and_r _ _ e));
  },
  λ h. and_i ((entry-agrees x).1 h.entry) (and_i (eq-eqb _ _ h.no_unit) (and_i h.present h.entitled)),
)

pub pair-agrees : (present : List Bool) (q : ℕ) → pair_ok present q ≡ true ↔ PairWf present q
unfolding pair_ok
pair-agrees present q = (
  λ e. search (and_l, and_r, eqb-true, ltb-true, eqb-false, isnt-true) depth 15,
  λ h. search (and_i, eq-eqb, lt-ltb, ne_eqb, isnt-i) depth 15,
)

-- ── who holds or runs ──
pub vm-agrees : (present : List Bool) (h : ℕ) →
    vm_ok present h ≡ true ↔ CpuWf present h
unfolding vm_ok
vm-agrees present h = (
  λ e. ⊎_elim
      (λ z. let n : h ≡ 0 = eqb-true h 0 z in record { active_vm_wf = λ g q. absurd (omega arith); no_hypervisor_runs = λ q. omega arith })
      (λ z.
      let l : 2 ≤ h = leb-true 2 h (and_l _ _ z) in
      record {
        active_vm_wf = λ g q. let i : h - 2 ≡ g = omega arith in subst (λ (n : ℕ). get_or present n false ≡ true) i (and_r _ _ z);
        no_hypervisor_runs = λ q. omega arith;
      })
      (or-e _ _ e),
  λ f. split (leb 2 h)
      (λ l. let k : 2 ≤ h = leb-true 2 h l in or-ir _ (and_i l (f.active_vm_wf (h - 2) (omega arith))))
      (λ l. let k : h < 2 = leb-false 2 h l in or-il _ (eq-eqb h 0 (let z : h ≡ 1 → ⊥ = f.no_hypervisor_runs in omega arith))),
)

guest-is : (h g : ℕ) → h ≡ guest g → a_guest h ≡ true
guest-is h g e = le-leb 2 h (omega arith)

-- every guest is one by its number
is-guest : (h : ℕ) → a_guest h ≡ true → h ≡ guest (guest_of h)
is-guest h e = omega (arith, leb-true 2 h e)

pub page-agrees : (present : List Bool) (h d : ℕ) (shared : Bool) → page_ok present h d shared ≡ true ↔ PageWf present h d shared
unfolding page_ok
page-agrees present h d shared = (
  λ e.
      let e₁ = and_r _ _ e in let e₂ = and_r _ _ e₁ in
      let apart : (shared and (a_guest h or a_guest d)) ≡ false = isnt-true _ (and_l _ _ e₂) in
      record {
        ownership_wf = λ g q. ⊎_elim
            (λ z. let n : h ≡ 1 = eqb-true h 1 z in absurd (omega arith))
            (λ z. ((vm-agrees present h).0 z).active_vm_wf g q)
            (or-e _ _ (and_l _ _ e));
        iommu_ownership_wf = ((vm-agrees present d).0 (and_l _ _ e₁)).active_vm_wf;
        no_hypervisor_dma = ((vm-agrees present d).0 (and_l _ _ e₁)).no_hypervisor_runs;
        one_guest = λ g k p q.
            let same : h ≡ d = eqb-true h d (⊎_elim
            (λ n. clash (and_i (guest-is h g p) (guest-is d k q)) (isnt-true _ n))
            (λ n. n)
            (or-e _ _ (and_r _ _ e₂))) in
            omega arith;
        region_not_owned = λ g p. not-true _ (λ r. clash (and_i r (or-il _ (guest-is h g p))) apart);
        region_not_iommu_owned = λ g p. not-true _ (λ r. clash (and_i r (or-ir _ (guest-is d g p))) apart);
      },
  λ w. and_i
      (split (eqb h hypervisor) (λ z. or-il _ z) (λ z. or-ir _ ((vm-agrees present h).1
      (record { active_vm_wf = w.ownership_wf; no_hypervisor_runs = eqb-false h hypervisor z }))))
      (and_i ((vm-agrees present d).1 (record { active_vm_wf = w.iommu_ownership_wf; no_hypervisor_runs = w.no_hypervisor_dma }))
      (and_i
      (isnt-i (not-true _ (λ z. ⊎_elim
      (λ o. true≢false (sym (and_l _ _ z) ∙ w.region_not_owned _ (is-guest h o)))
      (λ o. true≢false (sym (and_l _ _ z) ∙ w.region_not_iommu_owned _ (is-guest d o)))
      (or-e _ _ (and_r _ _ z)))))
      (split (a_guest h and a_guest d)
      (λ z.
      let i : guest_of h ≡ guest_of d = w.one_guest _ _ (is-guest h (and_l _ _ z)) (is-guest d (and_r _ _ z)) in
      let p : h ≡ guest (guest_of h) = is-guest h (and_l _ _ z) in
      let q : d ≡ guest (guest_of d) = is-guest d (and_r _ _ z) in
      or-ir _ (eq-eqb h d (p ∙ ap (λ (n : ℕ). guest n) i ∙ sym q)))
      (λ z. or-il _ (isnt-i z))))),
)

-- a page that no guest holds is in order, in the region or not
pub no-guest-page : (present : List Bool) (h : ℕ) (shared : Bool) → h < 2 → PageWf present h nobody shared
no-guest-page present h shared l = record {
  ownership_wf = λ g q. absurd (omega arith);
  iommu_ownership_wf = λ g q. absurd (omega arith);
  no_hypervisor_dma = λ q. omega arith;
  one_guest = λ g k p q. absurd (omega arith);
  region_not_owned = λ g q. absurd (omega arith);
  region_not_iommu_owned = λ g q. absurd (omega arith);
}

pub nobody-runs : (present : List Bool) → vm_ok present nobody ≡ true
nobody-runs present = (vm-agrees present nobody).1 (record { active_vm_wf = λ g q. absurd (omega arith); no_hypervisor_runs = λ q. omega arith })
