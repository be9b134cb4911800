-- Runs, and boot (security.rs §3 to §7): what is private stays so until an accepted action shares or reclaims the page; every state
-- on the way is in good order; so isolation holds at every state of a run, and from boot. A run is a list of actions of all 23 kinds,
-- a device's and refused ones too.
use mathlib.Core.Path.{◌≡◌, refl, sym, ◌∙◌, ap, subst}
use mathlib.Core.Bool.{Bool, true, false}
use mathlib.Core.List.{List, []}
use mathlib.Core.Option.{Option}
use mathlib.Core.Option.Option.{some}
use mathlib.Core.Logic.{◌⊎◌}
use Prim.Native.Nat.{ℕ, zero, suc, ◌≤◌, ◌<◌}
use native.Mathlib.Omega.{arith}
use lib.Dec.{eqb}
use lib.ListN.{get_or, set}
use borrow.Author.Tests.{eqb-true, eq-eqb, eqb-false}
use Rattle.numbers.specs.Addresses.{page_of}
use Rattle.numbers.specs.Entries.{page_in}
use Rattle.numbers.specs.declared.frames.Action.{Action}
use Rattle.numbers.proofs.Bools.{split, clash, cond-true, cond-false, and_l, and_i, isnt-false, isnt-no, not-true}
use Rattle.tables.specs.Table.{live, has}
use Rattle.tables.specs.Wants.{W, shared_by}
use Rattle.tables.specs.State.{hypervisor, guest, holder_of}
use Rattle.tables.specs.Wf.{Wf, wf}
use Rattle.tables.specs.Views.{MachineState, SourceWf, view}
use Rattle.tables.specs.declared.state.Tables.{Tables}
use Rattle.tables.specs.declared.state.Side.{Side}
use Rattle.tables.specs.declared.state.Side.TheVariants.{Cpu, Iommu}
use Rattle.tables.proofs.WantLaws.{zero-free}
use Rattle.tables.proofs.WfAgrees.{wf-sound}
use Rattle.tables.proofs.BootWf.{boot-wf}
use Rattle.tables.proofs.SourceWf.{source-wf}
use Rattle.rules.specs.Actions.{Op, refusals, effect, accepted, next}
use Rattle.rules.specs.Actions.Op.{Read, Write, HyperCall, AddVm, RemoveVm, AssignPage, ReclaimPage, SharePage, UnsharePage, Map, Unmap, ContextSwitch, Idle, Fill, Drop, IommuAssignPage, IommuReclaimPage}
use Rattle.rules.specs.Calls.{op_of, action_rules, Machine, after}
use Rattle.rules.specs.Source.{empty_set, InitEmpty, edge, with_edge, effective_entry, read_observation, seen}
use Rattle.rules.proofs.Lowest.{Clear}
use Rattle.rules.proofs.Lists.{next-wf, after-wf}
use Rattle.rules.proofs.Places.{at_set}
use Rattle.rules.proofs.Accesses.{by_cond}
use Rattle.rules.proofs.Effects.{share-does, unshare-does}
use Rattle.rules.proofs.SourceRuns.{boot-init}
use Rattle.isolation.specs.Security.{PrivatePage, actor, stepped, EnvReachable, declassifies, StaysPrivate, Unreadable, Reachable}
use Rattle.isolation.proofs.Confined.{lemma_state_read_confined, lemma_state_dma_isolation}
use Rattle.isolation.proofs.Environment.{action-clear, guest-keeps-reads, env-tables, env-private, lemma_write_isolation}

-- ── good order along runs ──
-- every state of the source that is as the source's `init` says is in good order: nothing is there that a clause could speak of. Its region may be any
pub lemma_init_wf : (s : MachineState) → InitEmpty s → SourceWf s
lemma_init_wf s i = record {
  ownership_1 = λ g p t. absurd (unowned g p t);
  ownership_2 = λ g k p n t u. unowned g p t;
  ownership_3 = λ g p t u. unowned g p t;
  sharing_1 = λ l r p t e. unshared l r p t;
  sharing_2 = λ l r p t. absurd (unshared l r p t);
  sharing_3 = λ l r p t. absurd (unshared l r p t);
  sharing_4 = λ l r p t. absurd (unshared l r p t);
  translation_1 = λ d g v t. absurd (unmapped d g v t);
  translation_2 = λ d g v t. absurd (unmapped d g v t);
  iommu_ownership_1 = λ g p t. absurd (undriven g p t);
  iommu_ownership_2 = λ g k p n t u. undriven g p t;
  iommu_ownership_3 = λ g k p n t u. undriven g p t;
  iommu_ownership_4 = λ g p t u. undriven g p t;
  iommu_ownership_5 = λ g p t u. unowned g p t;
  active_vm_1 = λ u g t. absurd (idle u g t);
  tlb_safe_1 = λ d u g v t. absurd (uncached d u g v t);
  tlb_safe_2 = λ d u g v t. absurd (uncached d u g v t);
}
  where
    unowned : (g p : ℕ) → s.vm_owned g p ≡ true → ⊥
    unowned g p t = clash t (ap (λ (f : ℕ → ℕ → Bool). f g p) i.vm_owned)

    undriven : (g p : ℕ) → s.iommu_owned g p ≡ true → ⊥
    undriven g p t = clash t (ap (λ (f : ℕ → ℕ → Bool). f g p) i.iommu_owned)

    unshared : (l r p : ℕ) → s.shared_pages l r p ≡ true → ⊥
    unshared l r p t = clash t (ap (λ (f : ℕ → ℕ → ℕ → Bool). f l r p) i.shared_pages)

    unmapped : (d : Side) (g v : ℕ) → live W (s.s2_map d g v) ≡ true → ⊥
    unmapped d g v t = clash t (ap (λ (f : Side → ℕ → ℕ → ℕ). live W (f d g v)) i.s2_map ∙ isnt-no zero-free)

    uncached : (d : Side) (u g v : ℕ) → live W (s.tlb d u g v) ≡ true → ⊥
    uncached d u g v t = clash t (ap (λ (f : Side → ℕ → ℕ → ℕ → ℕ). live W (f d u g v)) i.tlb ∙ isnt-no zero-free)

    idle : (u g : ℕ) → s.active_vm u ≡ guest g → ⊥
    idle u g t = let z : s.active_vm u ≡ 0 = ap (λ (f : ℕ → ℕ). f u) i.active_vm in omega arith

-- so is every state of a run from a start that is: the source asks it of each step, here it is shown
pub lemma_active_vm_wf : (f : ℕ → Action) (s : Machine) (k : ℕ) → wf s.tables ≡ true → SourceWf (seen (after f k s))
lemma_active_vm_wf f s k w = source-wf _ _ (after-wf f k s (wf-sound _ w))

-- ── privacy ──
-- what `PrivatePage` says of the tables: the words of memory have no part in it
abbrev PrivateIn : Tables → ℕ → ℕ → Type 0
PrivateIn m subject page =
    (eqb (holder_of m page) (guest subject) ≡ true) × ((l r p : ℕ) → has W (shared_by l r p) m.pairs ≡ true → p ≡ page → ⊥)

module _ (subject page : ℕ) where
  -- an accepted action
  module _ {m : Tables} (h : Wf m) (p : PrivateIn m subject page) where
    -- the page stays the subject's where another page gets a new holder
    still-owned : (q x : ℕ) → (page ≡ q → holder_of m q ≡ guest subject → ⊥) → eqb (get_or (set m.holder q x) page 0) (guest subject) ≡ true
    still-owned q x f = at_set (λ n. eqb n (guest subject) ≡ true) m.holder q x page 0
        (λ e. absurd (f e (ap (holder_of m) (sym e) ∙ eqb-true _ _ p.0))) p.0

    -- it stays on no edge where an edge on another page comes, or an edge goes
    still-unshared : (l r q : ℕ) (b : Bool) (edges : ℕ → ℕ → ℕ → Bool) → edges ≡ with_edge l r q b (view m []).shared_pages →
        (b ≡ true → q ≡ page → ⊥) → (x y o : ℕ) → edges x y o ≡ true → o ≡ page → ⊥
    still-unshared l r q b edges e f x y o t z =
        let k : with_edge l r q b (view m []).shared_pages x y o ≡ true = ap (λ (s : ℕ → ℕ → ℕ → Bool). s x y o) (sym e) ∙ t in
        split (edge l r q x y o)
        (λ d. f (sym (cond-true d _ _) ∙ k) (sym (eqb-true o q (and_l _ _ d)) ∙ z))
        (λ d. p.1 x y o (sym (cond-false d _ _) ∙ k) z)

    private-after : (o : Op) → Clear (refusals m o) → declassifies o subject page ≡ false → PrivateIn (effect m o) subject page
    -- a page that is given was the hypervisor's
    private-after (AssignPage g q) c n =
        (still-owned q (guest g) (λ e k. let z : holder_of m q ≡ hypervisor = eqb-true _ _ (isnt-false _ (c 11)) in omega arith), p.1)
    -- one that is taken was that guest's
    private-after (ReclaimPage g q) c n = (
      still-owned q hypervisor (λ e k.
          let z : holder_of m q ≡ guest g = eqb-true _ _ (isnt-false _ (c 11)) in
          clash (and_i (eq-eqb g subject (omega arith)) (eq-eqb q page (sym e))) n),
      p.1,
    )
    private-after (SharePage l r q) c n = (p.0, still-unshared l r q true _ (share-does h [] l r q c).shared_pages (λ _. eqb-false q page n))
    private-after (UnsharePage l r q) c n = (p.0, still-unshared l r q false _ (unshare-does h [] l r q).shared_pages (λ t. clash t refl))
    -- all others leave CPU holders and pairs alone; RemoveVm too, so that nothing need be asked of it
    private-after (Read d g u a) c n = p
    private-after (Write d g u a w) c n = p
    private-after (HyperCall g u w) c n = p
    private-after (AddVm g) c n = p
    private-after (RemoveVm g) c n = p
    private-after (Map d g v q x) c n = p
    private-after (Unmap d g v) c n = p
    private-after (ContextSwitch g u) c n = p
    private-after (Idle u) c n = p
    private-after (Fill d g u v) c n = p
    private-after (Drop d g u v) c n = p
    private-after (IommuAssignPage g q) c n = p
    private-after (IommuReclaimPage g q) c n = p

  -- any action, accepted or refused
  private-next : (s : Machine) (a : Action) → Wf s.tables → PrivateIn s.tables subject page → StaysPrivate s a subject page →
      PrivateIn (stepped s a).tables subject page
  unfolding next
  private-next s a h p k = by_cond (λ (m : Tables). PrivateIn m subject page) (accepted (action_rules s.tables a)) _ _
      (λ e. private-after h p (op_of a) (action-clear s.tables a e) (not-true _ (λ t. clash (and_i e t) k)))
      (λ e. p)

  -- any run
  private-on : (f : ℕ → Action) (s : Machine) (k : ℕ) → Wf s.tables → PrivateIn s.tables subject page →
      ((i : ℕ) → i < k → StaysPrivate (after f i s) (f i) subject page) → PrivateIn (after f k s).tables subject page
  unfolding after
  private-on f s zero h p n = p
  private-on f s (suc k) h p n = private-next (after f k s) (f k) (after-wf f k s h) (private-on f s k h p (λ i l. n i (omega arith))) (n k (omega arith))

  -- in good order the owner of a page is present: no lemma here has to ask for it
  with-owner : (s : Machine) → Wf s.tables → PrivateIn s.tables subject page → ((seen s).all_vms subject ≡ true) × PrivatePage (seen s) subject page
  with-owner s h p = ((source-wf s.tables s.memory h).ownership_1 subject page p.0, record { owned = p.0; unshared = p.1 })

  -- one action of any kind, a device's too; a refused one may be a share or a reclaim of the page
  pub lemma_step_preserves_private : (s : Machine) (a : Action) → wf s.tables ≡ true → PrivatePage (seen s) subject page →
      StaysPrivate s a subject page → ((seen (stepped s a)).all_vms subject ≡ true) × PrivatePage (seen (stepped s a)) subject page
  lemma_step_preserves_private s a w p k =
      let h = wf-sound _ w in with-owner (stepped s a) (next-wf s.tables a h) (private-next s a h (p.owned, p.unshared) k)

  -- ── at place k of a run, where no accepted action before it ends the page's privacy; the source asks that of those after it too ──
  module _ (f : ℕ → Action) (s : Machine) (k : ℕ) (w : wf s.tables ≡ true) (p : PrivatePage (seen s) subject page)
      (n : (i : ℕ) → i < k → StaysPrivate (after f i s) (f i) subject page) where
    -- the page is private there
    pub lemma_trace_preserves_private : ((seen (after f k s)).all_vms subject ≡ true) × PrivatePage (seen (after f k s)) subject page
    lemma_trace_preserves_private =
        let h = wf-sound _ w in with-owner (after f k s) (after-wf f k s h) (private-on f s k h (p.owned, p.unshared) n)

    -- nobody else reads it there, nor learns anything of its words; nobody need be present, nor anything be observed
    pub lemma_trace_read_isolation : (vm cpu gva : ℕ) → (vm ≡ subject → ⊥) → Unreadable (seen (after f k s)) page cpu vm gva
    lemma_trace_read_isolation vm cpu gva differ =
        lemma_state_read_confined (seen (after f k s)) subject page vm cpu gva (lemma_active_vm_wf f s k w) differ lemma_trace_preserves_private.1

    -- where the next action is another guest's or its device's, the subject observes there what it did before, or nothing as before
    pub lemma_trace_write_isolation : (cpu gva : ℕ) → EnvReachable (after f k s) (after f (suc k) s) subject →
        page_in (effective_entry Cpu (seen (after f k s)) cpu subject (page_of gva)) ≡ page →
        read_observation (seen (after f (suc k) s)) cpu subject gva ≡ read_observation (seen (after f k s)) cpu subject gva
    lemma_trace_write_isolation cpu gva r e = lemma_write_isolation r cpu gva (rw e lemma_trace_preserves_private.1)

-- ── over a stretch of the environment's actions ──
-- what each place hands to the next, from place m to place n
from_on : (P : ℕ → Type 0) (m n : ℕ) → m ≤ n → P m → ((i : ℕ) → m ≤ i → i < n → P i → P (suc i)) → P n
from_on P m zero l p f = let z : m ≡ 0 = omega arith in rw z at p
from_on P m (suc n) l p f = split (eqb m (suc n))
    (λ e. rw (eqb-true m (suc n) e) at p)
    (λ e.
    let z : m ≡ suc n → ⊥ = eqb-false m (suc n) e in
    f n (omega arith) (omega arith) (from_on P m n (omega arith) p (λ i a b. f i a (omega arith))))

-- the subject's address leads to its private page, and a read there gives o
pub record Reading (s : Machine) (subject page cpu gva : ℕ) (o : Option ℕ) : Type 0 where
  pub present : (seen s).all_vms subject ≡ true
  pub private : PrivatePage (seen s) subject page
  pub leads : page_in (effective_entry Cpu (seen s) cpu subject (page_of gva)) ≡ page
  pub observed : read_observation (seen s) cpu subject gva ≡ o

-- what held at its start holds at its end, and the observation is the same, a word or nothing; the source also asks good order of the
-- run's first state, and that something be observed
pub lemma_trace_write_isolation_stretch : (f : ℕ → Action) (s : Machine) (subject page m n cpu gva : ℕ) → m ≤ n →
    ((i : ℕ) → m ≤ i → i < n → EnvReachable (after f i s) (after f (suc i) s) subject) →
    (seen (after f m s)).all_vms subject ≡ true → PrivatePage (seen (after f m s)) subject page →
    page_in (effective_entry Cpu (seen (after f m s)) cpu subject (page_of gva)) ≡ page →
    Reading (after f n s) subject page cpu gva (read_observation (seen (after f m s)) cpu subject gva)
lemma_trace_write_isolation_stretch f s subject page m n cpu gva l edges here p e =
    let o = read_observation (seen (after f m s)) cpu subject gva in
    from_on (λ i. Reading (after f i s) subject page cpu gva o) m n l
    (record { present = here; private = p; leads = e; observed = refl })
    (λ i a b z. let r = edges i a b in record {
      present = rw (env-tables r) z.present;
      private = env-private r z.private;
      leads = rw (env-tables r) z.leads;
      observed = lemma_write_isolation r cpu gva (rw z.leads z.private) ∙ z.observed;
    })

-- ── from boot, whatever the region ──
module _ {region : ℕ} {s : Machine} (r : Reachable region s) where
  reachable-tables : Wf s.tables
  reachable-tables = subst (λ (t : Machine). Wf t.tables) r.ends (after-wf r.acts r.count _ (boot-wf r.mask region))

  -- the state is in good order
  pub lemma_reachable_wf : SourceWf (seen s)
  lemma_reachable_wf = source-wf s.tables s.memory reachable-tables

  -- nobody else reads a private page, nor learns anything of its words; nobody need be present, nor anything be observed
  pub lemma_reachable_read_isolation : (subject page vm cpu gva : ℕ) → PrivatePage (seen s) subject page → (vm ≡ subject → ⊥) →
      Unreadable (seen s) page cpu vm gva
  lemma_reachable_read_isolation subject page vm cpu gva p differ = lemma_state_read_confined (seen s) subject page vm cpu gva lemma_reachable_wf differ p

  -- no action of another guest changes what the subject observes of one: the source's is accepted and by a CPU, this may be refused, or a device's
  pub lemma_reachable_write_isolation : (a : Action) (vm subject cpu gva : ℕ) → actor (op_of a) ≡ some vm → (vm ≡ subject → ⊥) →
      PrivatePage (seen s) subject (page_in (effective_entry Cpu (seen s) cpu subject (page_of gva))) →
      read_observation (seen (stepped s a)) cpu subject gva ≡ read_observation (seen s) cpu subject gva
  lemma_reachable_write_isolation a vm subject cpu gva acts differ p = guest-keeps-reads s a acts reachable-tables differ cpu gva p

  -- no device of another guest reaches a page that is the subject's; nobody need be present
  pub lemma_reachable_dma_isolation : (subject page vm stream gpa : ℕ) → (vm ≡ subject → ⊥) →
      ((seen s).vm_owned subject page ≡ true) ⊎ ((seen s).iommu_owned subject page ≡ true) →
      live W (effective_entry Iommu (seen s) stream vm gpa) ≡ true → page_in (effective_entry Iommu (seen s) stream vm gpa) ≡ page → ⊥
  lemma_reachable_dma_isolation subject page vm stream gpa differ o l e =
      lemma_state_dma_isolation (seen s) subject vm page lemma_reachable_wf differ stream gpa o l e

-- ── the region ──
-- no action, of any kind, changes it
same-region : (m : Tables) (o : Op) → (effect m o).region ≡ m.region
same-region m (Read d g u a) = refl
same-region m (Write d g u a w) = refl
same-region m (HyperCall g u w) = refl
same-region m (AddVm g) = refl
same-region m (RemoveVm g) = refl
same-region m (AssignPage g p) = refl
same-region m (ReclaimPage g p) = refl
same-region m (SharePage l r p) = refl
same-region m (UnsharePage l r p) = refl
same-region m (Map d g v p x) = refl
same-region m (Unmap d g v) = refl
same-region m (ContextSwitch g u) = refl
same-region m (Idle u) = refl
same-region m (Fill d g u v) = refl
same-region m (Drop d g u v) = refl
same-region m (IommuAssignPage g p) = refl
same-region m (IommuReclaimPage g p) = refl

-- so it is at every state of a run what it was at the start
pub region-kept : (f : ℕ → Action) (s : Machine) (k : ℕ) → (after f k s).tables.region ≡ s.tables.region
unfolding after next
region-kept f s zero = refl
region-kept f s (suc k) =
    let m = (after f k s).tables in
    by_cond (λ (t : Tables). t.region ≡ m.region) (accepted (action_rules m (f k))) _ _ (λ e. same-region m (op_of (f k))) (λ e. refl)
    ∙ region-kept f s k

-- empty where it was; the start need not be in good order
pub lemma_execution_iommu_shared_empty : (f : ℕ → Action) (s : Machine) (k : ℕ) → (seen s).iommu_shared ≡ empty_set →
    (seen (after f k s)).iommu_shared ≡ empty_set
lemma_execution_iommu_shared_empty f s k e = ap (λ (t : List Bool). λ (p : ℕ). get_or t p false) (region-kept f s k) ∙ e

-- from a boot without a region there is none
pub lemma_reachable_iommu_shared_empty : {s : Machine} → Reachable 0 s → (seen s).iommu_shared ≡ empty_set
lemma_reachable_iommu_shared_empty r = subst (λ (t : Machine). (seen t).iommu_shared ≡ empty_set) r.ends
    (lemma_execution_iommu_shared_empty r.acts _ r.count (boot-init r.mask r.words).1)
