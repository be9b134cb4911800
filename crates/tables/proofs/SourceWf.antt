-- Tables in good order meet every clause of the source's `wf`.
use mathlib.Core.Path.{◌≡◌, sym, ap, ◌∙◌, subst}
use mathlib.Core.Bool.{true, true≢false}
use mathlib.Core.List.{List, []}
use mathlib.Core.Logic.{⊎_elim}
use Prim.Native.Nat.{ℕ, ◌<◌}
use native.Mathlib.Omega.{arith}
use borrow.Author.Tests.{eqb-true}
use Rattle.numbers.specs.Sizes.{units}
use Rattle.numbers.specs.Entries.{key_of, guest_in, gpage_in, page_in, at_unit}
use Rattle.numbers.proofs.Bools.{and_r}
use Rattle.numbers.proofs.EntryLaws.{at-unit-live}
use Rattle.tables.specs.Table.{live, find, has}
use Rattle.tables.specs.Wants.{W, has_key, shared_by}
use Rattle.tables.specs.State.{hypervisor, guest, is_present, map_of, tlb_of, may_reach}
use Rattle.tables.specs.Wf.{Wf, PairWf, MapRowWf}
use Rattle.tables.specs.Views.{SourceWf, view, entry_at, InS2Map, InTlb}
use Rattle.tables.specs.declared.state.Tables.{Tables}
use Rattle.tables.specs.declared.state.Side.{Side}
use Rattle.tables.proofs.TableLaws.{find-passes, each-find}
use Rattle.tables.proofs.WantLaws.{Ends, live_pos, joins-agrees}
use Rattle.tables.proofs.ViewLaws.{Keyed, guest-is, gpage-is, entry_in, entry-keyed, entry-there, turned, reach-agrees}

some-unit : 0 < units
unfolding units
some-unit = omega arith

-- one number names one guest, and none that is the hypervisor's
one_guest : (n g h : ℕ) → n ≡ guest g → n ≡ guest h → g ≡ h
one_guest n g h a b = omega arith

no-guest : (n g : ℕ) → n ≡ guest g → n ≡ hypervisor → ⊥
no-guest n g a b = omega arith

module _ (m : Tables) (w : Wf m) where
  -- ── pairs ──
  pair_found : (l r p : ℕ) → has W (shared_by l r p) m.pairs ≡ true →
      PairWf m.present (find W (shared_by l r p) m.pairs) × Ends l r (find W (shared_by l r p) m.pairs)
  pair_found l r p h = (
    each-find W (shared_by l r p) w.sharing_wf h,
    (joins-agrees _ _ _).0 (and_r _ _ (and_r _ _ (find-passes W (shared_by l r p) m.pairs h))),
  )

  ends-differ : (l r p : ℕ) → has W (shared_by l r p) m.pairs ≡ true → l ≡ r → ⊥
  ends-differ l r p h e = let q = pair_found l r p h in
      ⊎_elim (λ z. q.0.differ (sym z.0 ∙ e ∙ z.1)) (λ z. q.0.differ (sym z.1 ∙ sym e ∙ z.0)) q.1

  left_there : (l r p : ℕ) → has W (shared_by l r p) m.pairs ≡ true → is_present m l ≡ true
  left_there l r p h = let q = pair_found l r p h in
      ⊎_elim (λ z. ap (is_present m) z.0 ∙ q.0.left_present) (λ z. ap (is_present m) z.0 ∙ q.0.right_present) q.1

  -- ── maps and TLBs ──
  module _ (d : Side) (g v : ℕ) where
    mapped : InS2Map d (view m []) g v → MapRowWf m.present (may_reach d m) (entry_at (map_of d m) 0 g v) × (guest_in (entry_at (map_of d m) 0 g v) ≡ g)
    mapped h =
        let k = entry-keyed (map_of d m) 0 g v h in let t = entry-there (map_of d m) 0 g v h in
        rw (entry_in (map_of d m) 0 g v k)
        (each-find W _ (w.walks_wf d).translation_wf t, guest-is 0 g v k _ (and_r _ _ (find-passes W _ (map_of d m) t)))

    -- the map's entry is the TLB's at unit 0
    home : (u : ℕ) → InTlb d (view m []) u g v → entry_at (map_of d m) 0 g v ≡ at_unit 0 (entry_at (tlb_of d m) u g v)
    home u h =
        let k = entry-keyed (tlb_of d m) u g v h in let t = entry-there (tlb_of d m) u g v h in
        let z = and_r _ _ (find-passes W (has_key (key_of u g v)) (tlb_of d m) t) in
        let n : Keyed 0 g v = record { unit = some-unit; guest = k.guest; gpage = k.gpage } in
        let y = find W (has_key (key_of u g v)) (tlb_of d m) in
        let e : key_of 0 (guest_in y) (gpage_in y) ≡ key_of 0 g v = rw (guest-is u g v k y z, gpage-is u g v k y z) in
        rw (entry_in (tlb_of d m) u g v k, entry_in (map_of d m) 0 g v n)
        (ap (λ (n : ℕ). find W (has_key n) (map_of d m)) (sym e) ∙ each-find W _ (w.walks_wf d).tlb_safe t)

pub source-wf : (m : Tables) (ws : List ℕ) → Wf m → SourceWf (view m ws)
source-wf m ws w = record {
  ownership_1 = λ g p e. (w.pages_wf p).ownership_wf g (eqb-true _ _ e);
  ownership_2 = λ g h p n a b. n (one_guest _ g h (eqb-true _ _ a) (eqb-true _ _ b));
  ownership_3 = λ g p a b. no-guest _ g (eqb-true _ _ a) (eqb-true _ _ b);
  sharing_1 = ends-differ m w;
  sharing_2 = left_there m w;
  sharing_3 = λ l r p h. left_there m w r l p (turned r l p m.pairs ∙ h);
  sharing_4 = λ l r p h. turned r l p m.pairs ∙ h;
  translation_1 = λ d g v h. ap (is_present m) (sym (mapped m w d g v h).1) ∙ (mapped m w d g v h).0.present;
  translation_2 = λ d g v h. (reach-agrees m ws g _ d).0
      (subst (λ (n : ℕ). may_reach d m n (page_in (entry_at (map_of d m) 0 g v)) ≡ true) (mapped m w d g v h).1 (mapped m w d g v h).0.entitled);
  iommu_ownership_1 = λ g p e. (w.pages_wf p).iommu_ownership_wf g (eqb-true _ _ e);
  iommu_ownership_2 = λ g h p n a b. n (one_guest _ g h (eqb-true _ _ a) (eqb-true _ _ b));
  iommu_ownership_3 = λ g h p n a b. n (sym ((w.pages_wf p).one_guest h g (eqb-true _ _ b) (eqb-true _ _ a)));
  iommu_ownership_4 = λ g p a b. true≢false (sym b ∙ (w.pages_wf p).region_not_iommu_owned g (eqb-true _ _ a));
  iommu_ownership_5 = λ g p a b. true≢false (sym b ∙ (w.pages_wf p).region_not_owned g (eqb-true _ _ a));
  active_vm_1 = λ u. (w.cpus_wf u).active_vm_wf;
  tlb_safe_1 = λ d u g v h. ap (live W) (home m w d g v u h) ∙ live_pos _ (at-unit-live 0 _);
  tlb_safe_2 = λ d u g v h. sym (home m w d g v u h);
}
