-- Demand 3 at the calls, from their contracts alone: two calls whose inputs differ only in marked words, and in words that a member or its
-- device writes into pages still marked, differ only there and in the words that a member or its device gets. Good order is not asked
-- of the tables where the call tests it: both calls then refuse alike.
use mathlib.Core.Path.{◌≡◌, refl, sym, ◌∙◌, ap, subst}
use mathlib.Core.Bool.{Bool, true, false, cond}
use mathlib.Core.List.{List}
use Prim.Native.Nat.{ℕ, zero, suc, ◌/◌, ◌%◌, ◌<◌}
use native.Mathlib.Omega.{arith}
use lib.Dec.{eqb}
use lib.ListN.{length, get_or, length-set}
use borrow.Author.Tests.{eqb-false}
use Rattle.numbers.specs.Sizes.{frame_bytes, memory_words}
use Rattle.numbers.specs.Tests.{◌or◌, isnt}
use Rattle.numbers.specs.Rules.{Rules, least}
use Rattle.numbers.specs.Frames.{decode}
use Rattle.numbers.specs.declared.frames.Action.{Action}
use Rattle.numbers.proofs.Bools.{split, and_l, and_r, isnt-true, isnt-false}
use Rattle.tables.specs.Wf.{wf}
use Rattle.tables.specs.declared.state.Tables.{Tables}
use Rattle.tables.proofs.WfAgrees.{wf-sound}
use Rattle.rules.specs.Actions.{refusals, accepted, does, outcome}
use Rattle.rules.specs.Calls.{op_of, action_rules, taken, act_rules, act, Machine, answer, accepted_of, written, refused, ran, run_rules, listed, frame_at, run, action_at, run_actions}
use Rattle.rules.proofs.Lowest.{passes, rising-run, refused-changes-nothing}
use Rattle.rules.proofs.Lists.{accepted-op, act-good}
use Rattle.edits.specs.Edits as answers
use Rattle.edits.specs.declared.out.Out.{Out}
use Rattle.lists.specs.Lists.{own_rules, ended}
use Rattle.lists.specs.declared.Ran.{Ran}
use Rattle.isolation.specs.Marks.{Group, marks, still_marked, Matched, Alike, Twins, Isolated, SameAnswer, SameRan}
use Rattle.isolation.proofs.Frames.{same_number}
use Rattle.isolation.proofs.Sealed.{sealed-start}
use Rattle.isolation.proofs.Isolation.{set-alike, tables_after, words-after, word_after, isolation}

-- ── one action ──
module _ (G : Group) (m : Tables) (rules later : Rules) (a b : Action) (ws us : List ℕ) where
  -- by whatever refusals stand in front, where what is accepted is so in good order
  same_answer : least rules ≡ least later → (accepted rules ≡ true → (wf m ≡ true) × (accepted (refusals m (op_of a)) ≡ true)) →
      Alike (marks G m) ws us → Matched G (marks G m) rules m a b →
      SameAnswer G (marks G m) (does rules m (op_of a)) a (outcome rules m (op_of a) ws) (outcome later m (op_of b) us)
  same_answer n good h q = record {
    number = n;
    word = λ out. split (accepted rules)
        (λ t. let w = wf-sound m (good t).0 in
        word_after m rules later n G (marks G m) a b ws us w (sealed-start G m w) h (λ x. (good x).1) q.same out)
        (λ t.
        let r : least rules ≡ 0 → ⊥ = eqb-false _ _ t in
        (refused-changes-nothing rules m (op_of a) ws r).word ∙ sym (refused-changes-nothing later m (op_of b) us (λ z. r (n ∙ z))).word);
    tables = tables_after m rules later n G (marks G m) _ a b q.same;
    memory = words-after m rules later n G (marks G m) a b ws us h q.same;
  }

-- `act`: 1 and 2 are the same, for they look at lengths and at the tables
act-number : (m : Tables) (frame bytes ws us : List ℕ) → length frame ≡ length bytes → length ws ≡ length us →
    least (action_rules m (decode frame)) ≡ least (action_rules m (decode bytes)) → least (act_rules m frame ws) ≡ least (act_rules m bytes us)
unfolding least
act-number m frame bytes ws us e l n =
    ap (λ (j : ℕ). cond (isnt (eqb j frame_bytes) or isnt (eqb (length ws) memory_words)) 1 (cond (isnt (wf m)) 2 (least (action_rules m (decode frame))))) e
    ∙ ap (λ (j : ℕ). cond (isnt (eqb (length bytes) frame_bytes) or isnt (eqb j memory_words)) 1 (cond (isnt (wf m)) 2 (least (action_rules m (decode frame))))) l
    ∙ ap (λ (j : ℕ). cond (isnt (eqb (length bytes) frame_bytes) or isnt (eqb (length us) memory_words)) 1 (cond (isnt (wf m)) 2 j)) n

pub act-alike : (G : Group) (m : Tables) (frame bytes ws us : List ℕ) → length frame ≡ length bytes → Alike (marks G m) ws us →
    Matched G (marks G m) (act_rules m frame ws) m (decode frame) (decode bytes) →
    SameAnswer G (marks G m) (does (act_rules m frame ws) m (op_of (decode frame))) (decode frame) (act m frame ws) (act m bytes us)
unfolding act
act-alike G m frame bytes ws us e h q =
    same_answer G m (act_rules m frame ws) (act_rules m bytes us) (decode frame) (decode bytes) ws us
    (act-number m frame bytes ws us e h.long (same_number m q.same)) (act-good m frame ws) h q

-- `take`, which does not test good order
pub taken-alike : (G : Group) (m : Tables) (a b : Action) (ws us : List ℕ) → wf m ≡ true → Alike (marks G m) ws us →
    Matched G (marks G m) (action_rules m a) m a b → SameAnswer G (marks G m) (does (action_rules m a) m (op_of a)) a (taken m a ws) (taken m b us)
taken-alike G m a b ws us w h q =
    same_answer G m (action_rules m a) (action_rules m b) a b ws us (same_number m q.same) (λ t. (w, accepted-op m a t)) h q

-- ── a list ──
module _ {A : Type 0} where
  written_same : (x y : ℕ → A) (n : ℕ) (places : List A) → ((i : ℕ) → i < n → x i ≡ y i) → written x n places ≡ written y n places
  unfolding written
  written_same x y zero places e = refl
  written_same x y (suc n) places e = rw (written_same x y n places (λ i l. e i (omega arith)), e n (omega arith))

  length-written : (x : ℕ → A) (n : ℕ) (places : List A) → length (written x n places) ≡ length places
  unfolding written
  length-written x zero places = refl
  length-written x (suc n) places = length-set (written x n places) n (x n) ∙ length-written x n places

written-alike : (x y : ℕ → ℕ) (n : ℕ) (places : List ℕ) (i : ℕ) → (i < n → x i ≡ y i) → get_or (written x n places) i 0 ≡ get_or (written y n places) i 0
unfolding written
written-alike x y zero places i e = refl
written-alike x y (suc n) places i e = set-alike (written x n places) (written y n places) n (x n) (y n) i
    (length-written x n places ∙ sym (length-written y n places))
    (λ q. subst (λ (j : ℕ). x j ≡ y j) q (e (omega arith)))
    (written-alike x y n places i (λ l. e (omega arith)))

accepted-same : (f h : ℕ → Action) (s t : Machine) (n : ℕ) → ((i : ℕ) → i < n → (answer f s i).seen.number ≡ (answer h t i).seen.number) → accepted_of f s n ≡ accepted_of h t n
unfolding accepted_of
accepted-same f h s t zero e = refl
accepted-same f h s t (suc n) e = rw (accepted-same f h s t n (λ i l. e i (omega arith)), e n (omega arith))

module _ (G : Group) (s t : Machine) (f h : ℕ → Action) (n : ℕ) (T : Twins G s t f h n) (numbers words : List ℕ) where
  ran-alike : wf s.tables ≡ true → SameRan G f s (ran f n s numbers words) (ran h n t numbers words)
  ran-alike w = let i : Isolated G s t f h n = isolation G s t f h n w T in record {
    tally = record {
      number = refl;
      handled = refl;
      accepted = accepted-same f h s t n i.numbers;
      tables = i.tables;
      numbers = written_same _ _ n numbers i.numbers;
      places = length-written _ n words ∙ sym (length-written _ n words);
    };
    memory = i.memory;
    words = λ j out. written-alike _ _ n words j (λ l. i.words j l (out l));
  }

  refused-alike : (own : ℕ) → SameRan G f s (refused own s numbers words) (refused own t numbers words)
  unfolding still_marked
  refused-alike own = record {
    tally = record { number = refl; handled = refl; accepted = refl; tables = T.tables; numbers = refl; places = refl };
    memory = T.memory;
    words = λ j out. refl;
  }

  -- 1 and 2 are the same, for they look at lengths and at the tables; and what is not refused is in good order
  own_same : (odd : Bool) → least (run_rules odd n s numbers words) ≡ least (run_rules odd n t numbers words)
  own_same odd =
      ap (λ (j : ℕ). least (own_rules odd n s.tables j (length numbers) (length words))) T.memory.long
      ∙ ap (λ (m : Tables). least (own_rules odd n m (length t.memory) (length numbers) (length words))) T.tables

  list-good : (odd : Bool) → accepted (run_rules odd n s numbers words) ≡ true → wf s.tables ≡ true
  list-good odd e = isnt-false _ (isnt-true _ (and_l _ _ (and_r _ _ ((passes 1 (run_rules odd n s numbers words) (rising-run odd n s numbers words)).0 e))))

  pub listed-alike : (odd : Bool) → SameRan G f s (listed odd f n s numbers words) (listed odd h n t numbers words)
  listed-alike odd = subst
      (λ (j : ℕ). SameRan G f s (listed odd f n s numbers words) (cond (eqb j 0) (ran h n t numbers words) (refused j t numbers words)))
      (own_same odd)
      (split (accepted (run_rules odd n s numbers words))
      (λ e. rw e (ran-alike (list-good odd e)))
      (λ e. rw e (refused-alike _)))

-- ── the calls: from what they promise ──
pub promised : {A : Type 0} (P : A → A → Type 0) {x y x₁ y₁ : A} → x₁ ≡ x → y₁ ≡ y → P x y → P x₁ y₁
promised P {y = y} {x₁ = x₁} e₁ e₂ h = subst (λ z. P x₁ z) (sym e₂) (subst (λ z. P z y) (sym e₁) h)

module _ (G : Group) (m : Tables) (ws us : List ℕ) {r q : Out} {vs xs : List ℕ} where
  pub take-isolated : (a b : Action) → wf m ≡ true → Alike (marks G m) ws us → Matched G (marks G m) (action_rules m a) m a b →
      answers.after r vs ≡ taken m a ws → answers.after q xs ≡ taken m b us →
      SameAnswer G (marks G m) (does (action_rules m a) m (op_of a)) a (answers.after r vs) (answers.after q xs)
  take-isolated a b w h p e₁ e₂ = promised (SameAnswer G (marks G m) _ a) e₁ e₂ (taken-alike G m a b ws us w h p)

  pub act-isolated : (frame bytes : List ℕ) → length frame ≡ length bytes → Alike (marks G m) ws us →
      Matched G (marks G m) (act_rules m frame ws) m (decode frame) (decode bytes) →
      answers.after r vs ≡ act m frame ws → answers.after q xs ≡ act m bytes us →
      SameAnswer G (marks G m) (does (act_rules m frame ws) m (op_of (decode frame))) (decode frame) (answers.after r vs) (answers.after q xs)
  act-isolated frame bytes l h p e₁ e₂ = promised (SameAnswer G (marks G m) _ (decode frame)) e₁ e₂ (act-alike G m frame bytes ws us l h p)

module _ (G : Group) (s t : Machine) (numbers words : List ℕ) {r q : Ran} {vs us ns ks xs ys : List ℕ} where
  -- the same number of bytes, so the same number of frames
  pub run-isolated : (bytes others : List ℕ) → length bytes ≡ length others →
      Twins G s t (frame_at bytes) (frame_at others) (length bytes / frame_bytes) →
      ended r vs ns xs ≡ run bytes s numbers words → ended q us ks ys ≡ run others t numbers words →
      SameRan G (frame_at bytes) s (ended r vs ns xs) (ended q us ks ys)
  unfolding run
  run-isolated bytes others l T e₁ e₂ = promised (SameRan G (frame_at bytes) s) e₁
      (e₂ ∙ ap (λ (n : ℕ). listed (isnt (eqb (n % frame_bytes) 0)) (frame_at others) (n / frame_bytes) t numbers words) (sym l))
      (listed-alike G s t (frame_at bytes) (frame_at others) (length bytes / frame_bytes) T numbers words _)

  pub run-actions-isolated : (actions others : List Action) → length actions ≡ length others →
      Twins G s t (action_at actions) (action_at others) (length actions) →
      ended r vs ns xs ≡ run_actions actions s numbers words → ended q us ks ys ≡ run_actions others t numbers words →
      SameRan G (action_at actions) s (ended r vs ns xs) (ended q us ks ys)
  unfolding run_actions
  run-actions-isolated actions others l T e₁ e₂ = promised (SameRan G (action_at actions) s) e₁
      (e₂ ∙ ap (λ (n : ℕ). listed false (action_at others) n t numbers words) (sym l))
      (listed-alike G s t (action_at actions) (action_at others) (length actions) T numbers words false)
