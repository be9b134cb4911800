-- The three demands proved, by citing what stands elsewhere. Their statements are in specs/Demands.antt.
use mathlib.Core.Path.{◌≡◌, refl, sym, ◌∙◌, ap, subst}
use mathlib.Core.Bool.{Bool, true, false}
use mathlib.Core.List.{List}
use mathlib.Core.Logic.{◌⊎◌, ◌↔◌, inl, inr, ⊎_elim}
use mathlib.Core.Option.Option.{some}
use Prim.Native.Nat.{ℕ, ◌≤◌, ◌<◌}
use native.Mathlib.Omega.{arith}
use lib.Dec.{eqb}
use lib.ListN.{length}
use borrow.Author.Tests.{eqb-true, eq-eqb}
use Rattle.numbers.specs.Sizes.{frame_bytes, memory_words}
use Rattle.numbers.specs.Rules.{Rules, least}
use Rattle.numbers.specs.Rules.Rules.{accept, ◌⇒◌∣◌}
use Rattle.numbers.specs.Frames.{decode}
use Rattle.numbers.specs.declared.frames.Action.{Action}
use Rattle.tables.specs.Wf.{Wf, wf}
use Rattle.tables.specs.Views.{view}
use Rattle.tables.specs.declared.state.Tables.{Tables}
use Rattle.tables.specs.declared.state.Side.TheVariants.{Cpu, Iommu}
use Rattle.rules.specs.Actions.{Op, refusals, accepted, next, Outcome, acted}
use Rattle.rules.specs.Actions.Op.{Read, Write}
use Rattle.rules.specs.Calls.{act, Machine, answer, run_rules, listed, frame_at, run, action_at, run_actions}
use Rattle.rules.specs.Calls as calls
use Rattle.rules.specs.Source.{asked}
use Rattle.edits.specs.Edits.{after}
use Rattle.edits.specs.declared.out.Out.{Out}
use Rattle.lists.specs.Lists.{ended}
use Rattle.lists.specs.declared.Ran.{Ran}
use Rattle.numbers.proofs.Bools.{clash, cond-true, and_l, and_r, and_i, or-e, or-il, or-ir, or_no, isnt-no}
use Rattle.numbers.proofs.RulesLaws.{Applies}
use Rattle.numbers.proofs.RulesLaws.Applies.{here, later}
use Rattle.tables.proofs.WfAgrees.{wf-sound, wf-complete}
use Rattle.rules.proofs.Lowest.{Lowest}
use Rattle.rules.proofs.Accesses.{by_cond}
use Rattle.rules.proofs.WfKept.{wf-kept}
use Rattle.rules.proofs.SourceSteps.{step-exactly, read_word}
use Rattle.rules.proofs.Devices.{device-read, device-reads, device-write, device-writes}
use Rattle.calls.proofs.FrontLaws.{frame-passed, act-on}
use Rattle.isolation.proofs.Isolation.{isolation}
use Rattle.isolation.proofs.CallsIsolated.{promised, run-isolated, run-actions-isolated}
use Rattle.isolation.proofs.OneGuest.{two_runs, nothing-learnt, same_lists}
use Rattle.lists.proofs.Answered.{Answered, method-answered, take-answered, act-answered, list-answered, each-answered}
use Rattle.isolation.specs.Demands.{applies, Numbered, NumberedList, Demand1, Demand2, TwoRuns, NothingLearnt, alone, SameFrame, Demand3}

-- ── demand 1 ──
-- a number that applies, as the laws of refusals say it
applying : (n : ℕ) (rules : Rules) → applies n rules ≡ true → Applies n rules
unfolding applies
applying n accept e = clash e refl
applying n (true ⇒ k ∣ rules) e = ⊎_elim
    (λ t. subst (λ (j : ℕ). Applies n (true ⇒ j ∣ rules)) (sym (eqb-true k n (and_r _ _ t))) here)
    (λ t. later (applying n rules t))
    (or-e _ _ e)
applying n (false ⇒ k ∣ rules) e = ⊎_elim (λ t. clash (and_l _ _ t) refl) (λ t. later (applying n rules t)) (or-e _ _ e)

applied : {n : ℕ} {rules : Rules} → Applies n rules → applies n rules ≡ true
unfolding applies
applied {n} here = or-il _ (and_i refl (eq-eqb n n refl))
applied (later a) = or-ir _ (applied a)

lowest-given : (rules : Rules) {x : ℕ} → x ≡ least rules → Lowest rules →
    ((x ≡ 0) ⊎ (applies x rules ≡ true)) × ((n : ℕ) → applies n rules ≡ true → (0 < x) × (x ≤ n))
lowest-given rules e l = rw e (
  ⊎_elim (λ z. inl z) (λ a. inr (applied a)) l.given,
  λ n t. l.none_lower n (applying n rules t),
)

numbered : {rules : Rules} {m : Tables} {ws : List ℕ} {r : Out} {vs : List ℕ} → Answered rules m ws r vs → Numbered rules m ws r vs
numbered {rules} a = let z = lowest-given rules a.which a.lowest in record { number = a.numbered; given = z.0; lowest = z.1; refusal = a.refusal }

numbered-list : (odd : Bool) (f : ℕ → Action) (n : ℕ) (s : Machine) (numbers words : List ℕ) (r : Ran) (vs ns xs : List ℕ) →
    ended r vs ns xs ≡ listed odd f n s numbers words → NumberedList odd f n s numbers words (ended r vs ns xs)
numbered-list odd f n s numbers words r vs ns xs e =
    let q = list-answered odd f n s numbers words r vs ns xs e in
    let z = lowest-given (run_rules odd n s numbers words) q.1 q.2 in record {
      number = q.0;
      given = z.0;
      lowest = z.1;
      refusal = q.3;
      goes_through = λ k. e ∙ cond-true (eq-eqb _ 0 (sym q.1 ∙ k)) _ _;
      each = λ i. numbered (each-answered f s i);
    }

pub demand-1 : Demand1
unfolding run run_actions
demand-1 = record {
  method = λ m o ws r vs e. numbered (method-answered m o ws r vs e);
  take = λ m a ws r vs e. numbered (take-answered m ws r vs a e);
  act = λ m bytes ws r vs e. numbered (act-answered m ws r vs bytes e);
  run = λ bytes s numbers words r vs ns xs e. numbered-list _ _ _ s numbers words r vs ns xs e;
  run_actions = λ actions s numbers words r vs ns xs e. numbered-list _ _ _ s numbers words r vs ns xs e;
}

-- ── demand 2 ──
module _ (m : Tables) (ws : List ℕ) (w : wf m ≡ true) (lw : length ws ≡ memory_words) where
  h : Wf m
  h = wf-sound m w

  -- the answer of a method, by what `acted` has
  accepts : (o : Op) (r : Out) (vs : List ℕ) → after r vs ≡ acted m o ws → (r.seen.number ≡ 0) ↔ (accepted (refusals m o) ≡ true)
  accepts o r vs e = let n : r.seen.number ≡ least (refusals m o) = ap (λ (x : Outcome). x.seen.number) e in
      (λ z. eq-eqb _ 0 (sym n ∙ z), λ t. n ∙ eqb-true _ 0 t)

  there : (o : Op) (r : Out) (vs : List ℕ) → after r vs ≡ acted m o ws → view (acted m o ws).tables (acted m o ws).memory ≡ view r.tables vs
  there o r vs e = ap (λ (x : Outcome). view x.tables x.memory) (sym e)

  ordered : (o : Op) → wf (acted m o ws).tables ≡ true
  unfolding next
  ordered o = by_cond (λ (t : Tables). wf t ≡ true) (accepted (refusals m o)) _ _ (λ e. wf-complete _ (wf-kept m o e h)) (λ e. w)

  -- what is left, from what a rule says is left
  left_is : {r : Out} {vs : List ℕ} {x y : Outcome} → after r vs ≡ x → x ≡ y → (r.seen.word ≡ y.seen.word) × (r.tables ≡ y.tables) × (vs ≡ y.memory)
  left_is e q = (ap (λ (z : Outcome). z.seen.word) (e ∙ q), ap (λ (z : Outcome). z.tables) (e ∙ q), ap (λ (z : Outcome). z.memory) (e ∙ q))

  pub demand-2 : Demand2 m ws
  demand-2 = record {
    exactly = λ a r vs e s.
        let k = step-exactly h ws lw a s in let n = accepts (asked a) r vs e in (
          λ p. let q = k.0 p in (n.1 q.0, q.1 ∙ there (asked a) r vs e),
          λ p. k.1 (n.0 p.0, p.1 ∙ sym (there (asked a) r vs e)),
        );
    reads = λ g u a r vs e z. read_word h ws lw g u a ((accepts (Read Cpu g u a) r vs e).0 z) ∙ ap (λ (x : Outcome). some x.seen.word) (sym e);
    dma_reads = λ g u a r vs e.
        let k = device-read h ws lw g u a in let n = accepts (Read Iommu g u a) r vs e in
        ((λ z. k.0 (n.0 z), λ q. n.1 (k.1 q)), λ z. left_is e (device-reads h ws lw g u a (n.0 z)));
    dma_writes = λ g u a x r vs e.
        let k = device-write h ws lw g u a x in let n = accepts (Write Iommu g u a x) r vs e in
        ((λ z. k.0 (n.0 z), λ q. n.1 (k.1 q)), λ z. left_is e (device-writes h ws lw g u a x (n.0 z)));
    order = λ o r vs e. subst (λ (t : Tables). wf t ≡ true) (ap (λ (x : Outcome). x.tables) (sym e)) (ordered o);
    take = λ a z. sym (frame-passed m a ws refl z);
    act = λ bytes l. sym (act-on m bytes ws (or_no (isnt-no (eq-eqb _ _ l)) (isnt-no (eq-eqb _ _ lw))) w);
  }

-- ── demand 3 ──
module _ (g : ℕ) (s t : Machine) where
  learnt : (f h : ℕ → Action) (n : ℕ) → TwoRuns g s t f h n → NothingLearnt g s t f h n
  learnt f h n T = let q = (two_runs g s t f h n).1 T in (nothing-learnt g s t f h n q.0).0 (isolation (eqb g) s t f h n q.0 q.1)

  frames : (bytes others : List ℕ) {r q : Out} {vs us : List ℕ} → length bytes ≡ frame_bytes → length others ≡ frame_bytes →
      length s.memory ≡ memory_words → TwoRuns g s t (alone (decode bytes)) (alone (decode others)) 1 →
      after r vs ≡ act s.tables bytes s.memory → after q us ≡ act t.tables others t.memory →
      SameFrame g s (decode bytes) (after r vs) (after q us)
  unfolding answer calls.after
  frames bytes others l k m T e₁ e₂ =
      let i = learnt (alone (decode bytes)) (alone (decode others)) 1 T in
      promised (SameFrame g s (decode bytes))
      (e₁ ∙ (demand-2 s.tables s.memory T.well_formed m).act bytes l)
      (e₂ ∙ (demand-2 t.tables t.memory (rw (← T.tables) T.well_formed) (sym T.memory.long ∙ m)).act others k)
      (record { number = i.numbers 0 (omega arith); word = i.words 0 (omega arith); tables = i.tables; memory = i.memory })

  pub demand-3 : Demand3 g s t
  demand-3 = record {
    list = learnt;
    act = λ bytes others r q vs us. frames bytes others;
    run = λ bytes others numbers words r q vs us ns ks xs ys l T e₁ e₂.
        let p = (two_runs g s t (frame_at bytes) (frame_at others) _).1 T in
        (same_lists g s (frame_at bytes) _ _ p.0).0 (run-isolated (eqb g) s t numbers words bytes others l p.1 e₁ e₂);
    run_actions = λ actions others numbers words r q vs us ns ks xs ys l T e₁ e₂.
        let p = (two_runs g s t (action_at actions) (action_at others) _).1 T in
        (same_lists g s (action_at actions) _ _ p.0).0 (run-actions-isolated (eqb g) s t numbers words actions others l p.1 e₁ e₂);
  }
