-- The source's lemmas of one state (security.rs §1, §4, §7): where a translation leads, and that none of another guest's leads to a
-- private page. They are over any state of the source that meets its `wf`; the machine here comes in with `Environment`.
use mathlib.Core.Path.{◌≡◌, refl, sym, ◌∙◌, ap, subst}
use mathlib.Core.Bool.{Bool, true, false, cond}
use mathlib.Core.List.{List}
use mathlib.Core.Option.{Option}
use mathlib.Core.Option.Option.{none, some}
use mathlib.Core.Logic.{◌⊎◌, inl, ⊎_elim}
use Prim.Native.Nat.{ℕ}
use native.Mathlib.Omega.{arith}
use lib.ListN.{length, get_or}
use borrow.Author.Tests.{ne_eqb}
use Rattle.numbers.specs.Addresses.{page_of, offset_of, word_of}
use Rattle.numbers.specs.Entries.{page_in}
use Rattle.numbers.proofs.Bools.{or-e}
use Rattle.numbers.proofs.AddressLaws.{lemma_page_word_roundtrip, offset-below}
use Rattle.tables.specs.Table.{live}
use Rattle.tables.specs.Wants.{W}
use Rattle.tables.specs.Views.{MachineState, SourceWf, Entitled, OwnedOrShared}
use Rattle.tables.specs.declared.state.Side.{Side}
use Rattle.tables.specs.declared.state.Side.TheVariants.{Cpu, Iommu}
use Rattle.rules.specs.Source.{effective_entry, translated_word, observation}
use Rattle.rules.proofs.Accesses.{translation-is-the-map's}
use Rattle.isolation.specs.Security.{PrivatePage, Unreadable}

-- ── where a translation leads, on either side ──
module _ (d : Side) (s : MachineState) (u g v : ℕ) (h : SourceWf s) where
  -- a TLB shows nothing that the map does not, so the guest is present, and entitled to the page
  pub translation-entitled : live W (effective_entry d s u g v) ≡ true → (s.all_vms g ≡ true) × Entitled d s g (page_in (effective_entry d s u g v))
  translation-entitled l =
      let home = translation-is-the-map's d s u g v h in
      let t : live W (s.s2_map d g v) ≡ true = ap (live W) (sym home) ∙ l in
      (h.translation_1 d g v t, subst (λ (e : ℕ). Entitled d s g (page_in e)) (sym home) (h.translation_2 d g v t))

  -- it does not lead to a page that the guest is not entitled to
  pub leads-elsewhere : {page : ℕ} → (Entitled d s g page → ⊥) → live W (effective_entry d s u g v) ≡ true →
      page_in (effective_entry d s u g v) ≡ page → ⊥
  leads-elsewhere n l e = n (subst (λ (p : ℕ). Entitled d s g p) e (translation-entitled l).1)

-- on the CPU side
pub lemma_translation_targets_owned : (s : MachineState) (cpu vm gpa : ℕ) → SourceWf s → live W (effective_entry Cpu s cpu vm gpa) ≡ true →
    (s.all_vms vm ≡ true) × OwnedOrShared s vm (page_in (effective_entry Cpu s cpu vm gpa))
lemma_translation_targets_owned s cpu vm gpa h l = translation-entitled Cpu s cpu vm gpa h l

-- on the IOMMU side, whatever the region
pub lemma_dma_translation_confined : (s : MachineState) (stream vm gpa : ℕ) → SourceWf s → live W (effective_entry Iommu s stream vm gpa) ≡ true →
    let page = page_in (effective_entry Iommu s stream vm gpa) in
    (s.all_vms vm ≡ true) × ((s.iommu_owned vm page ≡ true) ⊎ (s.iommu_shared page ≡ true))
lemma_dma_translation_confined s stream vm gpa h l = translation-entitled Iommu s stream vm gpa h l

-- ── a page of the subject, and another guest ──
-- the other neither owns nor shares a private page: of `wf` this asks one clause alone, and nobody need be present
pub lemma_private_excludes_other : (s : MachineState) (subject other page : ℕ) →
    ((g k p : ℕ) → (g ≡ k → ⊥) → s.vm_owned g p ≡ true → s.vm_owned k p ≡ true → ⊥) → (other ≡ subject → ⊥) →
    PrivatePage s subject page → OwnedOrShared s other page → ⊥
lemma_private_excludes_other s subject other page apart differ p e = ⊎_elim
    (λ z. apart other subject page differ z p.owned)
    (λ z. ⊎_elim
    (λ x. p.unshared other z.other page x refl)
    (λ x. p.unshared z.other other page x refl)
    (or-e _ _ z.edge))
    e

module _ (s : MachineState) (subject other page : ℕ) (h : SourceWf s) (differ : other ≡ subject → ⊥) where
  -- a device of the other may not reach a page that the subject owns, for CPU or for DMA
  dma-excludes-other : (s.vm_owned subject page ≡ true) ⊎ (s.iommu_owned subject page ≡ true) → Entitled Iommu s other page → ⊥
  dma-excludes-other o e = ⊎_elim
      (λ x. ⊎_elim (λ z. h.iommu_ownership_3 other subject page differ z x) (λ z. h.iommu_ownership_5 subject page x z) e)
      (λ x. ⊎_elim (λ z. h.iommu_ownership_2 other subject page differ z x) (λ z. h.iommu_ownership_4 subject page x z) e)
      o

  -- both sides
  pub private-excludes : (d : Side) → PrivatePage s subject page → Entitled d s other page → ⊥
  private-excludes Cpu p e = lemma_private_excludes_other s subject other page h.ownership_2 differ p e
  private-excludes Iommu p e = dma-excludes-other (inl p.owned) e

  -- no translation of the other's leads to a private page; nobody need be present
  pub lemma_state_translation_confined : (cpu gpa : ℕ) → PrivatePage s subject page → live W (effective_entry Cpu s cpu other gpa) ≡ true →
      page_in (effective_entry Cpu s cpu other gpa) ≡ page → ⊥
  lemma_state_translation_confined cpu gpa p l e = leads-elsewhere Cpu s cpu other gpa h (private-excludes Cpu p) l e

  -- and none of its devices' to a page that is the subject's, with a region or without; nobody need be present
  pub lemma_state_dma_isolation : (stream gpa : ℕ) → (s.vm_owned subject page ≡ true) ⊎ (s.iommu_owned subject page ≡ true) →
      live W (effective_entry Iommu s stream other gpa) ≡ true → page_in (effective_entry Iommu s stream other gpa) ≡ page → ⊥
  lemma_state_dma_isolation stream gpa o l e = leads-elsewhere Iommu s stream other gpa h (dma-excludes-other o) l e

-- ── what a guest observes ──
-- an address that is there
some_is : (b : Bool) (x y : ℕ) → cond b (some x) none ≡ some y → (b ≡ true) × (x ≡ y)
some_is true x y e = (refl, cc)
some_is false x y e = let z : ◌≡◌ {A = ℕ} 0 1 = cc in absurd (omega arith)

-- it is of a translation, and on the page of that
pub translated-page : (s : MachineState) (u g a pa : ℕ) → translated_word s u g a ≡ some pa →
    let e = effective_entry Cpu s u g (page_of a) in (live W e ≡ true) × (page_of pa ≡ page_in e)
translated-page s u g a pa t =
    let e = effective_entry Cpu s u g (page_of a) in
    let z = some_is (live W e) (word_of (page_in e) (offset_of a)) pa t in
    (z.0, ap page_of (sym z.1) ∙ lemma_page_word_roundtrip _ _ (offset-below a))

-- two memories of one length with the same word there give the same observation
pub observed-same : (allowed : Bool) (ws vs : List ℕ) (at : Option ℕ) → length ws ≡ length vs →
    ((i : ℕ) → at ≡ some i → get_or ws i 0 ≡ get_or vs i 0) → observation allowed ws at ≡ observation allowed vs at
observed-same allowed ws vs none l f = refl
observed-same allowed ws vs (some i) l f = rw (l, f i refl)

-- another guest reads elsewhere than from a private page, and more: it observes the same whatever words that has. Nobody need be
-- present, nor anything be observed
pub lemma_state_read_confined : (s : MachineState) (subject page vm cpu gva : ℕ) → SourceWf s → (vm ≡ subject → ⊥) → PrivatePage s subject page →
    Unreadable s page cpu vm gva
lemma_state_read_confined s subject page vm cpu gva h differ p = record {
  elsewhere = away;
  same_word = λ ws k. observed-same _ ws s.memory (translated_word s cpu vm gva) (sym k.long)
      (λ i t. sym (k.equal i (ne_eqb page (page_of i) (λ e. away i t (sym e)))));
}
  where
    away : (pa : ℕ) → translated_word s cpu vm gva ≡ some pa → page_of pa ≡ page → ⊥
    away pa t e = let z = translated-page s cpu vm gva pa t in
        lemma_state_translation_confined s subject vm page h differ cpu (page_of gva) p z.0 (sym z.1 ∙ e)
