-- One action of the environment, a guest other than the subject (security.rs §1 and §2). It changes no table, and no word of a page
-- that is private to the subject, whether the guest acts by itself or by a device. So nobody else reads such a page after it, and the
-- subject reads there what it read before.
use mathlib.Core.Path.{◌≡◌, refl, sym, ◌∙◌, ap}
use mathlib.Core.Bool.{true}
use mathlib.Core.List.{List}
use mathlib.Core.Option.{Option}
use mathlib.Core.Option.Option.{none, some}
use Prim.Native.Nat.{ℕ}
use native.Mathlib.Omega.{arith}
use lib.ListN.{length, get_or}
use lib.Seq.{get_or-set_other}
use Rattle.numbers.specs.Addresses.{page_of}
use Rattle.numbers.specs.Entries.{page_in}
use Rattle.numbers.specs.declared.frames.Action.{Action}
use Rattle.numbers.proofs.Bools.{isnt-false}
use Rattle.tables.specs.Table.{live}
use Rattle.tables.specs.Wants.{W}
use Rattle.tables.specs.State.{map_of, tlb_of}
use Rattle.tables.specs.Wf.{Wf}
use Rattle.tables.specs.Views.{SourceWf, view}
use Rattle.tables.specs.declared.state.Tables.{Tables}
use Rattle.tables.specs.declared.state.Side.{Side}
use Rattle.tables.specs.declared.state.Side.TheVariants.{Cpu}
use Rattle.tables.proofs.WfAgrees.{wf-sound}
use Rattle.tables.proofs.SourceWf.{source-wf}
use Rattle.rules.specs.Actions.{Op, refusals, effect, touch, touched, word_at, accepted, next, does}
use Rattle.rules.specs.Actions.Op.{Read, Write, HyperCall, AddVm, RemoveVm, AssignPage, ReclaimPage, SharePage, UnsharePage, Map, Unmap, ContextSwitch, Idle, Fill, Drop, IommuAssignPage, IommuReclaimPage}
use Rattle.rules.specs.Calls.{op_of, action_rules, Machine}
use Rattle.rules.specs.Source.{effective_entry, read_observation, translated_word, SameIdentityAs, SameOwnershipAs, SameTranslationAs, seen}
use Rattle.rules.proofs.Lowest.{Clear, accepted-clear}
use Rattle.rules.proofs.Lists.{accepted-op}
use Rattle.rules.proofs.Words.{length-touched}
use Rattle.rules.proofs.Accesses.{access-keyed, by_cond, entries-alike, nothing_is, word-at-page}
use Rattle.isolation.specs.Security.{PrivatePage, actor, stepped, EnvReachable, Unreadable}
use Rattle.isolation.proofs.Confined.{leads-elsewhere, private-excludes, translated-page, observed-same, lemma_state_read_confined}

-- ── what a guest may do, by itself or by a device ──
data Acting (vm : ℕ) : Op → Type 0 where
  reads : {d : Side} {u a : ℕ} → Acting vm (Read d vm u a)
  writes : {d : Side} {u a w : ℕ} → Acting vm (Write d vm u a w)
  calls : {u w : ℕ} → Acting vm (HyperCall vm u w)

-- where nobody but the hypervisor acts
no-actor : {P : Type 0} {vm : ℕ} → ◌≡◌ {A = Option ℕ} none (some vm) → P
no-actor e = let z : ◌≡◌ {A = ℕ} 0 1 = cc in absurd (omega arith)

-- an action with an actor is one of these
acting : (o : Op) (vm : ℕ) → actor o ≡ some vm → Acting vm o
acting (Read d g u a) vm e = let z : g ≡ vm = cc in rw z reads
acting (Write d g u a w) vm e = let z : g ≡ vm = cc in rw z writes
acting (HyperCall g u w) vm e = let z : g ≡ vm = cc in rw z calls
acting (AddVm g) vm e = no-actor e
acting (RemoveVm g) vm e = no-actor e
acting (AssignPage g p) vm e = no-actor e
acting (ReclaimPage g p) vm e = no-actor e
acting (SharePage l r p) vm e = no-actor e
acting (UnsharePage l r p) vm e = no-actor e
acting (Map d g v p x) vm e = no-actor e
acting (Unmap d g v) vm e = no-actor e
acting (ContextSwitch g u) vm e = no-actor e
acting (Idle u) vm e = no-actor e
acting (Fill d g u v) vm e = no-actor e
acting (Drop d g u v) vm e = no-actor e
acting (IommuAssignPage g p) vm e = no-actor e
acting (IommuReclaimPage g p) vm e = no-actor e

-- it changes no table
same_tables : (m : Tables) {vm : ℕ} {o : Op} → Acting vm o → effect m o ≡ m
same_tables m reads = refl
same_tables m writes = refl
same_tables m calls = refl

-- ── the words ──
module _ {m : Tables} (h : Wf m) (subject page vm : ℕ) (differ : vm ≡ subject → ⊥) (ws : List ℕ) (p : PrivatePage (view m ws) subject page) where
  -- an access that finds an entry leads elsewhere, on either side
  found-elsewhere : (d : Side) (u a w : ℕ) → Clear (refusals m (Write d vm u a w)) →
      page_of (word_at (Rattle.rules.specs.Actions.seen d m vm u a) a) ≡ page → ⊥
  found-elsewhere d u a w c e =
      let x = Rattle.tables.specs.State.effective_entry (map_of d m) (tlb_of d m) u vm (page_of a) in
      let l : live W x ≡ true = isnt-false _ (sym (nothing_is x) ∙ c 9) in
      let k = entries-alike d m ws u vm (page_of a) (access-keyed vm u a (c 4)) in
      leads-elsewhere d (view m ws) u vm (page_of a) (source-wf m ws h)
      (private-excludes (view m ws) subject vm page (source-wf m ws h) differ d p)
      (sym k.alive ∙ l)
      (sym k.page ∙ sym (word-at-page x a l) ∙ e)

  -- a word of the page stays
  word_kept : {o : Op} → Acting vm o → Clear (refusals m o) → (i : ℕ) → page_of i ≡ page → get_or (touched (touch m o) ws) i 0 ≡ get_or ws i 0
  word_kept reads c i e = refl
  word_kept (writes {d} {u} {a} {w}) c i e = get_or-set_other ws _ i w 0 (λ z. found-elsewhere d u a w c (ap page_of (sym z) ∙ e))
  word_kept calls c i e = refl

-- ── any action of a guest, accepted or refused ──
-- no refusal of its own applies to an accepted action
pub action-clear : (m : Tables) (a : Action) → accepted (action_rules m a) ≡ true → Clear (refusals m (op_of a))
action-clear m a e = accepted-clear m (op_of a) (accepted-op m a e)

-- whatever it is, the length of memory stays
pub same_length : (s : Machine) (a : Action) → length (stepped s a).memory ≡ length s.memory
same_length s a = length-touched (does (action_rules s.tables a) s.tables (op_of a)) s.memory

module _ (s : Machine) (a : Action) {vm : ℕ} (acts : actor (op_of a) ≡ some vm) where
  -- it changes no table
  guest-keeps-tables : (stepped s a).tables ≡ s.tables
  unfolding next
  guest-keeps-tables = by_cond (λ (m : Tables). m ≡ s.tables) (accepted (action_rules s.tables a)) _ _
      (λ e. same_tables s.tables (acting (op_of a) vm acts)) (λ e. refl)

  module _ (h : Wf s.tables) {subject : ℕ} (differ : vm ≡ subject → ⊥) where
    -- nor a word of a page that is private to another
    pub guest-keeps-words : {page : ℕ} → PrivatePage (seen s) subject page →
        (i : ℕ) → page_of i ≡ page → get_or (stepped s a).memory i 0 ≡ get_or s.memory i 0
    unfolding does
    guest-keeps-words {page} p i z = by_cond (λ t. get_or (touched t s.memory) i 0 ≡ get_or s.memory i 0) (accepted (action_rules s.tables a)) _ _
        (λ e. word_kept h subject page vm differ s.memory p (acting (op_of a) vm acts) (action-clear s.tables a e) i z)
        (λ e. refl)

    -- so that one observes there what it did, or nothing as before
    pub guest-keeps-reads : (cpu gva : ℕ) → PrivatePage (seen s) subject (page_in (effective_entry Cpu (seen s) cpu subject (page_of gva))) →
        read_observation (seen (stepped s a)) cpu subject gva ≡ read_observation (seen s) cpu subject gva
    guest-keeps-reads cpu gva p =
        ap (λ (m : Tables). read_observation (view m (stepped s a).memory) cpu subject gva) guest-keeps-tables
        ∙ observed-same _ (stepped s a).memory s.memory (translated_word (seen s) cpu subject gva) (same_length s a)
        (λ i t. guest-keeps-words p i (translated-page (seen s) cpu subject gva i t).1)

-- ── one step of the environment ──
module _ {s₁ s₂ : Machine} {subject : ℕ} (r : EnvReachable s₁ s₂ subject) where
  -- more than the source says: it changes no table
  pub env-tables : s₂.tables ≡ s₁.tables
  env-tables = ap (λ (s : Machine). s.tables) r.moves ∙ guest-keeps-tables s₁ r.action r.acts

  -- so the state after it is in good order, with the guests, the owners and the translations of before; a device's action too
  pub lemma_env_step_facts :
      SourceWf (seen s₂) × SameIdentityAs (seen s₂) (seen s₁) × SameOwnershipAs (seen s₂) (seen s₁) × SameTranslationAs (seen s₂) (seen s₁)
  lemma_env_step_facts = rw env-tables (
    source-wf s₁.tables s₂.memory (wf-sound _ r.well_formed),
    refl,
    record { hypervisor_owned = refl; vm_owned = refl; shared_pages = refl; iommu_owned = refl; iommu_shared = refl },
    record { s2_map = refl; tlb = refl; active_vm = refl },
  )

  -- private before it is private after it
  pub env-private : {page : ℕ} → PrivatePage (seen s₁) subject page → PrivatePage (seen s₂) subject page
  env-private p = rw env-tables (record { owned = p.owned; unshared = p.unshared })

  -- after it no guest but the subject reads a private page, nor learns anything of its words; nobody need be present, nor anything be observed
  pub lemma_read_isolation : (page vm cpu gva : ℕ) → PrivatePage (seen s₁) subject page → (vm ≡ subject → ⊥) → Unreadable (seen s₂) page cpu vm gva
  lemma_read_isolation page vm cpu gva p differ =
      lemma_state_read_confined (seen s₂) subject page vm cpu gva lemma_env_step_facts.0 differ (env-private p)

  -- what the subject observes of a private page stays, where it observes nothing too; it need not be present
  pub lemma_write_isolation : (cpu gva : ℕ) → PrivatePage (seen s₁) subject (page_in (effective_entry Cpu (seen s₁) cpu subject (page_of gva))) →
      read_observation (seen s₂) cpu subject gva ≡ read_observation (seen s₁) cpu subject gva
  lemma_write_isolation cpu gva p = rw r.moves (guest-keeps-reads s₁ r.action r.acts (wf-sound _ r.well_formed) r.other cpu gva p)
