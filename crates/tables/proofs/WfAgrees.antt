-- The test `wf` says yes exactly where the record `Wf` holds.
use mathlib.Core.Path.{◌≡◌}
use mathlib.Core.Bool.{Bool, true, false}
use mathlib.Core.List.{List}
use mathlib.Core.Logic.{◌↔◌}
use Prim.Native.Nat.{ℕ, ◌≤◌}
use native.Mathlib.Omega.{arith}
use lib.Dec.{ltb}
use borrow.Author.Tests.{eqb-true, eq-eqb, ltb-true, ltb-false}
use Rattle.numbers.specs.Sizes.{units, pages}
use Rattle.numbers.specs.Search.{upto}
use Rattle.numbers.specs.Entries.{at_unit}
use Rattle.numbers.proofs.Bools.{split, and_l, and_r, and_i}
use Rattle.numbers.proofs.SearchLaws.{upto-at, upto-i}
use Rattle.tables.specs.Table.{Each, each}
use Rattle.tables.specs.Wants.{W, same_entry, same_pair}
use Rattle.tables.specs.State.{nobody, holder_of, dma_of, in_region, running_on, map_of, tlb_of, held_on, may_reach}
use Rattle.tables.specs.Wf.{WalkWf, PageWf, Sized, Wf, home_of, vm_ok, page_ok, pages_ok, cpus_ok, cached, walk_ok, in_order, wf}
use Rattle.tables.specs.declared.state.Tables.{Tables}
use Rattle.tables.specs.declared.state.Side.{Side}
use Rattle.tables.specs.declared.state.Side.TheVariants.{Cpu, Iommu}
use Rattle.tables.proofs.TableLaws.{each_map, each-agrees, uniq-agrees}
use Rattle.tables.proofs.LoopLaws.{get_d_past}
use Rattle.tables.proofs.WfLaws.{sized-agrees, entry-agrees, map-row-agrees, pair-agrees, vm-agrees, page-agrees, no-guest-page, nobody-runs}

-- ── a test and a statement that agree on rows agree on tables ──
rows_agree : (p : ℕ → Bool) (P : ℕ → Type 0) → ((x : ℕ) → p x ≡ true ↔ P x) → (t : List ℕ) → each W p t ≡ true ↔ Each W P t
rows_agree p P f t = (
  λ e. each_map W (λ x l q. (f x).0 q) ((each-agrees W p t).0 e),
  λ h. (each-agrees W p t).1 (each_map W (λ x l q. (f x).1 q) h),
)

-- ── one side ──
cached-agrees : (map : List ℕ) (y : ℕ) → cached map y ≡ true ↔ (home_of map y ≡ at_unit 0 y)
unfolding cached
cached-agrees map y = (eqb-true _ _, eq-eqb _ _)

walk-agrees : (d : Side) (m : Tables) →
    walk_ok d (map_of d m) (tlb_of d m) m.present (held_on d m) m.pairs m.region ≡ true ↔
    WalkWf m.present (may_reach d m) (map_of d m) (tlb_of d m)
unfolding walk_ok
walk-agrees d m = (
  λ e.
      let e₁ = and_r _ _ e in let e₂ = and_r _ _ e₁ in let e₃ = and_r _ _ e₂ in
      record {
        translation_wf = (rows_agree _ _ (map-row-agrees d m) (map_of d m)).0 (and_l _ _ e);
        map_keys = (uniq-agrees W same_entry (map_of d m)).0 (and_l _ _ e₁);
        tlb_range = (rows_agree _ _ entry-agrees (tlb_of d m)).0 (and_l _ _ e₂);
        tlb_keys = (uniq-agrees W same_entry (tlb_of d m)).0 (and_l _ _ e₃);
        tlb_safe = (rows_agree _ _ (cached-agrees (map_of d m)) (tlb_of d m)).0 (and_r _ _ e₃);
      },
  λ h.
      and_i ((rows_agree _ _ (map-row-agrees d m) (map_of d m)).1 h.translation_wf)
      (and_i ((uniq-agrees W same_entry (map_of d m)).1 h.map_keys)
      (and_i ((rows_agree _ _ entry-agrees (tlb_of d m)).1 h.tlb_range)
      (and_i ((uniq-agrees W same_entry (tlb_of d m)).1 h.tlb_keys)
      ((rows_agree _ _ (cached-agrees (map_of d m)) (tlb_of d m)).1 h.tlb_safe)))),
)

-- ── pages and CPUs: what stands past the end is fine ──
everywhere : (n : ℕ) (f : ℕ → Bool) → ((i : ℕ) → n ≤ i → f i ≡ true) → upto n f ≡ true → (i : ℕ) → f i ≡ true
everywhere n f past e i = split (ltb i n) (λ t. upto-at n f e i (ltb-true i n t)) (λ t. past i (ltb-false i n t))

module _ (m : Tables) (s : Sized m) where
  PagesWf : Type 0
  PagesWf = (p : ℕ) → PageWf m.present (holder_of m p) (dma_of m p) (in_region m p)

  pages-agree : pages_ok m.present m.holder m.dma m.region ≡ true ↔ PagesWf
  unfolding pages_ok PagesWf
  pages-agree = (
    λ e p. (page-agrees _ _ _ _).0 (everywhere pages (λ q. page_ok m.present (holder_of m q) (dma_of m q) (in_region m q)) past e p),
    λ h. upto-i pages _ (λ p l. (page-agrees _ _ _ _).1 (h p)),
  )
    where
      past : (p : ℕ) → pages ≤ p → page_ok m.present (holder_of m p) (dma_of m p) (in_region m p) ≡ true
      past p l = (page-agrees _ _ _ _).1 (rw (
        get_d_past m.holder nobody pages p s.holder l,
        get_d_past m.dma nobody pages p s.dma l,
        get_d_past m.region false pages p s.region l,
      ) (no-guest-page m.present nobody false (omega arith)))

  cpus-agree : cpus_ok m.present m.running ≡ true ↔ ((u : ℕ) → vm_ok m.present (running_on m u) ≡ true)
  unfolding cpus_ok
  cpus-agree = (
    λ e. everywhere units (λ u. vm_ok m.present (running_on m u)) past e,
    λ h. upto-i units _ (λ u l. h u),
  )
    where
      past : (u : ℕ) → units ≤ u → vm_ok m.present (running_on m u) ≡ true
      past u l = rw (get_d_past m.running nobody units u s.running l) (nobody-runs m.present)

-- ── the whole ──
pub wf-sound : (m : Tables) → wf m ≡ true → Wf m
unfolding wf in_order PagesWf
wf-sound m e =
    let s = (sized-agrees m).0 (and_l _ _ e) in let e₀ = and_r _ _ e in let e₁ = and_r _ _ e₀ in let e₂ = and_r _ _ e₁ in
    let e₃ = and_r _ _ e₂ in let e₄ = and_r _ _ e₃ in
    record {
      sizes = s;
      pages_wf = (pages-agree m s).0 (and_l _ _ e₀);
      cpus_wf = λ u. (vm-agrees _ _).0 ((cpus-agree m s).0 (and_l _ _ e₁) u);
      sharing_wf = (rows_agree _ _ (pair-agrees m.present) m.pairs).0 (and_l _ _ e₂);
      pair_keys = (uniq-agrees W same_pair m.pairs).0 (and_l _ _ e₃);
      walks_wf = elim [ Cpu ↦ (walk-agrees Cpu m).0 (and_l _ _ e₄) | Iommu ↦ (walk-agrees Iommu m).0 (and_r _ _ e₄) ];
    }

pub wf-complete : (m : Tables) → Wf m → wf m ≡ true
unfolding wf in_order PagesWf
wf-complete m h =
    and_i ((sized-agrees m).1 h.sizes)
    (and_i ((pages-agree m h.sizes).1 h.pages_wf)
    (and_i ((cpus-agree m h.sizes).1 (λ u. (vm-agrees _ _).1 (h.cpus_wf u)))
    (and_i ((rows_agree _ _ (pair-agrees m.present) m.pairs).1 h.sharing_wf)
    (and_i ((uniq-agrees W same_pair m.pairs).1 h.pair_keys)
    (and_i ((walk-agrees Cpu m).1 (h.walks_wf Cpu)) ((walk-agrees Iommu m).1 (h.walks_wf Iommu)))))))

pub wf-agrees : (m : Tables) → wf m ≡ true ↔ Wf m
wf-agrees m = (wf-sound m, wf-complete m)
