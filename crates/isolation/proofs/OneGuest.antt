-- A group of one is one guest, and its demand 3 is 01's to the letter, as specs/Demands.antt has it: marked are the pages that the guest
-- holds for CPU or DMA and that stand in no pair, as long as no action has zeroed them; every accepted share of such a page gives it away;
-- the hypotheses follow from each other, and so do the conclusions.
use mathlib.Core.Path.{◌≡◌, refl, sym, ◌∙◌, ap, subst}
use mathlib.Core.Bool.{Bool, true, false}
use mathlib.Core.List.{List}
use mathlib.Core.Logic.{◌⊎◌, ◌↔◌, inl, inr, ⊎_elim}
use Prim.Native.Nat.{ℕ, zero, suc, ◌≤◌, ◌<◌}
use native.Mathlib.Omega.{arith}
use lib.Dec.{eqb}
use borrow.Author.Tests.{eqb-true, eqb-false, eq-eqb, leb-true, le-leb}
use Rattle.numbers.specs.Tests.{◌and◌}
use Rattle.numbers.specs.Rules.{Rules}
use Rattle.numbers.specs.Addresses.{page_of}
use Rattle.numbers.specs.Entries.{left_in}
use Rattle.numbers.specs.declared.frames.Action.{Action}
use Rattle.numbers.proofs.Bools.{split, clash, and_l, and_r, and_i, and-no-r, or-e, or-il, or-ir, isnt-true, isnt-i, not-true, bool-ext}
use Rattle.tables.specs.Table.{has}
use Rattle.tables.specs.Wants.{W, to_page}
use Rattle.tables.specs.State.{guest, guest_of, holder_of, dma_of}
use Rattle.tables.specs.Wf.{Wf, PairWf, wf}
use Rattle.tables.specs.declared.state.Tables.{Tables}
use Rattle.tables.proofs.WfAgrees.{wf-sound}
use Rattle.tables.proofs.TableLaws.{has-ext, each_map}
use Rattle.rules.specs.Actions.{Op, Touch, refusals, accepted}
use Rattle.rules.specs.Actions.Op.{Read, Write, HyperCall, AddVm, RemoveVm, AssignPage, ReclaimPage, SharePage, UnsharePage, Map, Unmap, ContextSwitch, Idle, Fill, Drop, IommuAssignPage, IommuReclaimPage}
use Rattle.rules.specs.Actions.Touch.{Keeps, Reads, Writes, Clears}
use Rattle.rules.specs.Calls.{op_of, action_rules, Machine, after, answer, Ran}
use Rattle.rules.proofs.Lowest.{accepted-clear}
use Rattle.rules.proofs.Lists.{accepted-op}
use Rattle.isolation.specs.Marks.{Group, Marks, ours, outward, leads_out, marks, zeroes, left_marked, touch_at, still_marked, lands_in, Same, gives_away, Alike, Twins, to_member, Isolated, SameRan}
use Rattle.isolation.specs.Demands.{Marked, EqualOutside, OtherWord, TwoRuns, AskedBy, NothingLearnt, SameLists}

-- ── marks at the start ──
ours-one : (g h : ℕ) → ours (eqb g) h ≡ true ↔ (h ≡ guest g)
unfolding ours
ours-one g h = (
  λ e. let a : 2 ≤ h = leb-true 2 h (and_l _ _ e) in let b : g ≡ guest_of h = eqb-true g (guest_of h) (and_r _ _ e) in omega arith,
  λ e. and_i (le-leb 2 h (omega arith)) (eq-eqb g (guest_of h) (omega arith)),
)

-- of a pair whose ends differ, one end is another guest
outward-one : (g q : ℕ) {here : List Bool} → PairWf here q → outward (eqb g) q ≡ true
unfolding outward
outward-one g q w = split (eqb g (left_in q))
    (λ l. or-ir _ (isnt-i (not-true _ (λ r. w.differ (sym (eqb-true g _ l) ∙ eqb-true g _ r)))))
    (λ l. or-il _ (isnt-i l))

-- so every pair leads out
out_one : (g : ℕ) (m : Tables) → Wf m → (p : ℕ) → has W (leads_out (eqb g) p) m.pairs ≡ has W (to_page p) m.pairs
out_one g m w p = has-ext W (leads_out (eqb g) p) (to_page p) (each_map W
    (λ q _ k. bool-ext _ _ (λ e. and_l _ _ e) (λ e. and_i e (outward-one g q k))) w.sharing_wf)

pub marks-one : (g : ℕ) (m : Tables) → Wf m → (p : ℕ) →
    marks (eqb g) m p ≡ true ↔ (((holder_of m p ≡ guest g) ⊎ (dma_of m p ≡ guest g)) × (has W (to_page p) m.pairs ≡ false))
unfolding marks
marks-one g m w p = (
  λ e. (
    ⊎_elim (λ h. inl ((ours-one g _).0 h)) (λ d. inr ((ours-one g _).0 d)) (or-e _ _ (and_l _ _ e)),
    sym (out_one g m w p) ∙ isnt-true _ (and_r _ _ e),
  ),
  λ e. and_i
      (⊎_elim (λ h. or-il _ ((ours-one g _).1 h)) (λ d. or-ir _ ((ours-one g _).1 d)) e.0)
      (isnt-i (out_one g m w p ∙ e.1)),
)

-- ── marks on the way ──
cleared_by : (t : Touch) (p : ℕ) → zeroes t p ≡ true → t ≡ Clears p
cleared_by (Clears q) p e = ap Clears (eqb-true q p e)
cleared_by Keeps p e = clash e refl
cleared_by (Reads at) p e = clash e refl
cleared_by (Writes at w) p e = clash e refl

clears-it : (t : Touch) (p : ℕ) → t ≡ Clears p → zeroes t p ≡ true
clears-it t p e = ap (λ (x : Touch). zeroes x p) e ∙ eq-eqb p p refl

-- a mark stands as long as no action has zeroed its page
pub still_one : (k : Marks) (f : ℕ → Action) (s : Machine) (n p : ℕ) →
    still_marked k f s n p ≡ true ↔ ((k p ≡ true) × ((i : ℕ) → i < n → touch_at f s i ≡ Clears p → ⊥))
unfolding still_marked left_marked
still_one k f s zero p = (λ e. (e, λ i l. absurd (omega arith)), λ e. e.0)
still_one k f s (suc n) p = (
  λ e. let z = (still_one k f s n p).0 (and_l _ _ e) in (
    z.0,
    λ i l q. split (eqb i n)
        (λ t. clash (clears-it _ p (subst (λ (j : ℕ). touch_at f s j ≡ Clears p) (eqb-true i n t) q)) (isnt-true _ (and_r _ _ e)))
        (λ t. let d : i ≡ n → ⊥ = eqb-false i n t in z.1 i (omega arith) q),
  ),
  λ e. and_i
      ((still_one k f s n p).1 (e.0, λ i l. e.1 i (omega arith)))
      (isnt-i (not-true _ (λ t. e.1 n (omega arith) (cleared_by _ p t)))),
)

-- ── shares ──
-- of an accepted share one end is another guest
pub gives_away-one : (g : ℕ) (k : Marks) (m : Tables) (l r p : ℕ) → accepted (refusals m (SharePage l r p)) ≡ true → gives_away (eqb g) k (SharePage l r p) ≡ k p
gives_away-one g k m l r p e = bool-ext _ _ (λ t. and_l _ _ t) (λ t. and_i t (split (eqb g l)
    (λ x. or-ir _ (isnt-i (not-true _ (λ y. eqb-false l r (accepted-clear m (SharePage l r p) e 5) (sym (eqb-true g l x) ∙ eqb-true g r y)))))
    (λ x. or-il _ (isnt-i x))))

-- ── what is asked of two runs ──
-- marks as 01 has them
module _ (g : ℕ) (s : Machine) (w : wf s.tables ≡ true) (f : ℕ → Action) (n : ℕ) where
  marked : (p : ℕ) → still_marked (marks (eqb g) s.tables) f s n p ≡ true ↔ Marked g s f n p
  marked p = (
    λ e. let k = (still_one (marks (eqb g) s.tables) f s n p).0 e in let q = (marks-one g s.tables (wf-sound _ w) p).0 k.0 in
        record { held = q.0; unshared = q.1; not_wiped = k.1 },
    λ k. (still_one (marks (eqb g) s.tables) f s n p).1 ((marks-one g s.tables (wf-sound _ w) p).1 (k.held, k.unshared), k.not_wiped),
  )

  outside : {ws vs : List ℕ} → Alike (still_marked (marks (eqb g) s.tables) f s n) ws vs ↔ EqualOutside g s f n ws vs
  outside = (
    λ a. record { long = a.long; equal = λ i k. a.equal i (not-true _ (λ t. k ((marked _).0 t))) },
    λ a. record { long = a.long; equal = λ i k. a.equal i (λ q. clash ((marked _).1 q) k) },
  )

-- a word that is written goes into a marked page
lands : (k : Marks) (t : Touch) → lands_in k t ≡ true ↔ ((at w : ℕ) → t ≡ Writes at w → k (page_of at) ≡ true)
lands k t = (λ l at w e. subst (λ (x : Touch). lands_in k x ≡ true) e l, into t)
  where
    into : (x : Touch) → ((at w : ℕ) → x ≡ Writes at w → k (page_of at) ≡ true) → lands_in k x ≡ true
    into Keeps f = refl
    into (Reads at) f = refl
    into (Writes at w) f = f at w refl
    into (Clears p) f = refl

-- the same action, or a write of the guest's with another word
same-one : (g : ℕ) (k : Marks) (t : Touch) (a b : Action) →
    Same (eqb g) k t a b ↔ ((a ≡ b) ⊎ (OtherWord g a b × ((at w : ℕ) → t ≡ Writes at w → k (page_of at) ≡ true)))
same-one g k t a b = (
  to,
  ⊎_elim
      (λ e. subst (λ (x : Action). Same (eqb g) k t a x) e Same.same)
      (λ q. subst (λ (x : Action). Same (eqb g) k t a x) (sym q.0.same) (Same.wrote
      (⊎_elim (λ e. or-il _ (eq-eqb _ _ e)) (λ e. or-ir _ (eq-eqb _ _ e)) q.0.kind) (eq-eqb g _ (sym q.0.writer)) ((lands k t).1 q.1))),
)
  where
    to : {x : Action} → Same (eqb g) k t a x → (a ≡ x) ⊎ (OtherWord g a x × ((at w : ℕ) → t ≡ Writes at w → k (page_of at) ≡ true))
    to Same.same = inl refl
    to (Same.wrote {w} e i l) = inr (
      record { kind = ⊎_elim (λ z. inl (eqb-true _ _ z)) (λ z. inr (eqb-true _ _ z)) (or-e _ _ e); writer = sym (eqb-true _ _ i); same = refl },
      (lands k t).0 l,
    )

-- no share of a marked page is accepted
keeps-it : (G : Group) (k : Marks) (rules : Rules) (o : Op) → ((l r p : ℕ) → o ≡ SharePage l r p → accepted rules ≡ true → k p ≡ true → ⊥) →
    (accepted rules and gives_away G k o) ≡ false
keeps-it G k rules (SharePage l r p) f = not-true _ (λ t. f l r p refl (and_l _ _ t) (and_l _ _ (and_r _ _ t)))
keeps-it G k rules (Read d g u a) f = and-no-r _ refl
keeps-it G k rules (Write d g u a w) f = and-no-r _ refl
keeps-it G k rules (HyperCall g u w) f = and-no-r _ refl
keeps-it G k rules (AddVm g) f = and-no-r _ refl
keeps-it G k rules (RemoveVm g) f = and-no-r _ refl
keeps-it G k rules (AssignPage g p) f = and-no-r _ refl
keeps-it G k rules (ReclaimPage g p) f = and-no-r _ refl
keeps-it G k rules (UnsharePage l r p) f = and-no-r _ refl
keeps-it G k rules (Map d g v p x) f = and-no-r _ refl
keeps-it G k rules (Unmap d g v) f = and-no-r _ refl
keeps-it G k rules (ContextSwitch g u) f = and-no-r _ refl
keeps-it G k rules (Idle u) f = and-no-r _ refl
keeps-it G k rules (Fill d g u v) f = and-no-r _ refl
keeps-it G k rules (Drop d g u v) f = and-no-r _ refl
keeps-it G k rules (IommuAssignPage g p) f = and-no-r _ refl
keeps-it G k rules (IommuReclaimPage g p) f = and-no-r _ refl

kept-one : (g : ℕ) (k : Marks) (m : Tables) (a : Action) →
    (accepted (action_rules m a) and gives_away (eqb g) k (op_of a)) ≡ false ↔
    ((l r p : ℕ) → op_of a ≡ SharePage l r p → accepted (action_rules m a) ≡ true → k p ≡ true → ⊥)
kept-one g k m a = (
  λ n l r p e t q. clash (and_i t (ap (gives_away (eqb g) k) e
      ∙ gives_away-one g k m l r p (subst (λ (o : Op). accepted (refusals m o) ≡ true) e (accepted-op m a t)) ∙ q)) n,
  keeps-it (eqb g) k (action_rules m a) (op_of a),
)

-- so the hypotheses are 01's, no more and no less
module _ (g : ℕ) (s t : Machine) (f h : ℕ → Action) (n : ℕ) where
  pub two_runs : ((wf s.tables ≡ true) × Twins (eqb g) s t f h n) ↔ TwoRuns g s t f h n
  unfolding still_marked answer
  two_runs = (
    λ q. let w = q.0 in let T = q.1 in record {
      well_formed = w;
      tables = T.tables;
      memory = (outside g s w f 0).0 T.memory;
      actions = λ i l. ⊎_elim (λ e. inl e) (λ z. inr (z.0, λ at x e. (marked g s w f i _).0 (z.1 at x e))) ((same-one g _ _ (f i) (h i)).0 (T.actions i l).same);
      unshared = λ i l a b p e z k. (kept-one g _ (after f i s).tables (f i)).0 (T.actions i l).kept a b p e (eq-eqb _ 0 z) ((marked g s w f i p).1 k);
    },
    λ T. let w = T.well_formed in (
      w,
      record {
        tables = T.tables;
        memory = (outside g s w f 0).1 T.memory;
        actions = λ i l. record {
          same = (same-one g _ _ (f i) (h i)).1 (⊎_elim (λ e. inl e) (λ z. inr (z.0, λ at x e. (marked g s w f i _).1 (z.1 at x e))) (T.actions i l));
          kept = (kept-one g _ (after f i s).tables (f i)).1 (λ a b p e z k. T.unshared i l a b p e (eqb-true _ 0 z) ((marked g s w f i p).0 k));
        };
      },
    ),
  )

-- ── what is equal ──
-- who asks
asked-one : (g : ℕ) (a : Action) → to_member (eqb g) a ≡ false ↔ (AskedBy g a → ⊥)
unfolding to_member
asked-one g a = (
  λ e k. clash (and_i (le-leb _ _ k.from) (and_i (le-leb _ _ k.upto) (eq-eqb _ _ (sym k.asker)))) e,
  λ k. not-true _ (λ t. k (record {
    from = leb-true _ _ (and_l _ _ t);
    upto = leb-true _ _ (and_l _ _ (and_r _ _ t));
    asker = sym (eqb-true _ _ (and_r _ _ (and_r _ _ t)));
  })),
)

-- so the conclusions are 01's too, for a list
pub nothing-learnt : (g : ℕ) (s t : Machine) (f h : ℕ → Action) (n : ℕ) → wf s.tables ≡ true →
    Isolated (eqb g) s t f h n ↔ NothingLearnt g s t f h n
nothing-learnt g s t f h n w = (
  λ i. record {
    numbers = i.numbers;
    words = λ j l k. i.words j l ((asked-one g (f j)).1 k);
    tables = i.tables;
    memory = (outside g s w f n).0 i.memory;
  },
  λ i. record {
    numbers = i.numbers;
    words = λ j l k. i.words j l ((asked-one g (f j)).0 k);
    tables = i.tables;
    memory = (outside g s w f n).1 i.memory;
  },
)

-- and for what two calls with a list leave
pub same_lists : (g : ℕ) (s : Machine) (f : ℕ → Action) (x y : Ran) → wf s.tables ≡ true → SameRan (eqb g) f s x y ↔ SameLists g s f x y
same_lists g s f x y w = (
  λ r. record {
    tally = r.tally;
    memory = (outside g s w f x.handled).0 r.memory;
    words = λ i k. r.words i (λ l. (asked-one g (f i)).1 (k l));
  },
  λ r. record {
    tally = r.tally;
    memory = (outside g s w f x.handled).1 r.memory;
    words = λ i k. r.words i (λ l. (asked-one g (f i)).0 (k l));
  },
)
