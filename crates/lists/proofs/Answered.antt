-- Demand 1 at the calls, from their contracts alone: the answer is one of 0 to 15, it is the lowest that applies, a refusal hands back
-- 0 and leaves every table entry, word and answer place as it was; and no second answer could satisfy a contract. That each call ends,
-- whatever it is given, is part of its proof: none has a `requires`.
use mathlib.Core.Path.{◌≡◌, refl, sym, ap, ◌∙◌}
use mathlib.Core.Bool.{Bool, true}
use mathlib.Core.List.{List, []}
use Prim.Native.Nat.{ℕ, suc, ◌≤◌}
use lib.Dec.{eqb}
use borrow.Author.Tests.{eqb-true}
use Rattle.numbers.specs.Tests.{◌and◌}
use Rattle.numbers.specs.Rules.{Rules, least}
use Rattle.numbers.specs.Frames.{decode}
use Rattle.numbers.specs.declared.frames.Action.{Action}
use Rattle.numbers.proofs.Bools.{split}
use Rattle.tables.specs.declared.state.Tables.{Tables}
use Rattle.rules.specs.Actions.{Op, refusals, Outcome, outcome, acted}
use Rattle.rules.specs.Calls.{op_of, ◌then◌, action_rules, taken, act_rules, act, Machine, refused, run_rules, listed, answer}
use Rattle.rules.specs.Calls as calls
use Rattle.rules.proofs.Lowest.{at_most, least-at-most, up-to-15, Lowest, lowest, lowest-action, lowest-act, lowest-run, refused-changes-nothing, refused-list-changes-nothing}
use Rattle.edits.specs.Edits.{after}
use Rattle.edits.specs.declared.out.Out.{Out}
use Rattle.lists.specs.Lists.{ended}
use Rattle.lists.specs.declared.Ran.{Ran}

-- ── one action, one frame ──
-- what is left of a call: the answer r, and the memory vs
pub record Answered (rules : Rules) (m : Tables) (ws : List ℕ) (r : Out) (vs : List ℕ) : Type 0 where
  pub numbered : r.seen.number ≤ 15
  -- the lowest that applies, and none otherwise
  pub which : r.seen.number ≡ least rules
  pub lowest : Lowest rules
  -- a refusal leaves all as it was
  pub refusal : (r.seen.number ≡ 0 → ⊥) → (r.seen.word ≡ 0) × (r.tables ≡ m) × (vs ≡ ws)

module _ (m : Tables) (o : Op) (ws : List ℕ) (r : Out) (vs : List ℕ) where
  answered : (rules : Rules) → at_most 15 rules ≡ true → Lowest rules → after r vs ≡ outcome rules m o ws → Answered rules m ws r vs
  answered rules b l e =
      let n : r.seen.number ≡ least rules = ap (λ (x : Outcome). x.seen.number) e in record {
        numbered = rw n (least-at-most 15 rules b);
        which = n;
        lowest = l;
        refusal = λ h.
            let u = refused-changes-nothing rules m o ws (λ z. h (n ∙ z)) in (
              ap (λ (x : Outcome). x.seen.word) e ∙ u.word,
              ap (λ (x : Outcome). x.tables) e ∙ u.tables,
              ap (λ (x : Outcome). x.memory) e ∙ u.memory,
            );
      }

  -- each of the 23 kinds, by its method
  pub method-answered : after r vs ≡ acted m o ws → Answered (refusals m o) m ws r vs
  method-answered e = answered (refusals m o) (up-to-15 m o) (lowest m o) e

module _ (m : Tables) (ws : List ℕ) (r : Out) (vs : List ℕ) where
  -- `take`: a decoded action
  pub take-answered : (a : Action) → after r vs ≡ taken m a ws → Answered (action_rules m a) m ws r vs
  unfolding ◌then◌ ◌and◌
  take-answered a e = answered m (op_of a) ws r vs (action_rules m a) (up-to-15 m (op_of a)) (lowest-action m a) e

  -- `act`: any bytes
  pub act-answered : (frame : List ℕ) → after r vs ≡ act m frame ws → Answered (act_rules m frame ws) m ws r vs
  unfolding act ◌then◌ ◌and◌
  act-answered frame e =
      answered m (op_of (decode frame)) ws r vs (act_rules m frame ws) (up-to-15 m (op_of (decode frame))) (lowest-act m frame ws) e

-- ── a list ──
module _ (odd : Bool) (f : ℕ → Action) (n : ℕ) (s : Machine) (numbers words : List ℕ) where
  -- its own number is the one that its refusals give
  own : (listed odd f n s numbers words).number ≡ least (run_rules odd n s numbers words)
  own = split (eqb (least (run_rules odd n s numbers words)) 0)
      (λ t. rw t (sym (eqb-true _ _ t)))
      (λ t. rw t)

  -- `run` and `run_actions`: 0, 1 or 2, the lowest that applies; a list that is refused whole handles nothing and writes nothing
  pub list-answered : (r : Ran) (vs ns xs : List ℕ) → ended r vs ns xs ≡ listed odd f n s numbers words →
      (r.number ≤ 2) × (r.number ≡ least (run_rules odd n s numbers words)) × Lowest (run_rules odd n s numbers words)
      × ((r.number ≡ 0 → ⊥) → ended r vs ns xs ≡ refused r.number s numbers words)
  unfolding ◌and◌
  list-answered r vs ns xs e =
      let k : r.number ≡ (listed odd f n s numbers words).number = ap (λ (x : calls.Ran). x.number) e in (
        rw (k ∙ own) (least-at-most 2 (run_rules odd n s numbers words) refl),
        k ∙ own,
        lowest-run odd n s numbers words,
        λ h. e ∙ refused-list-changes-nothing odd f n s numbers words (λ z. h (k ∙ z)) ∙ ap (λ (j : ℕ). refused j s numbers words) (sym k),
      )

-- each action of it is answered as `take` answers, and a refused one leaves tables and memory to the next
module _ (f : ℕ → Action) (s : Machine) (i : ℕ) where
  pub each-answered : Answered (action_rules (calls.after f i s).tables (f i)) (calls.after f i s).tables (calls.after f i s).memory
      (record { seen = (answer f s i).seen; tables = (answer f s i).tables }) (answer f s i).memory
  unfolding answer
  each-answered = take-answered _ _ _ _ (f i) refl

  pub each_next : ((calls.after f (suc i) s).tables ≡ (answer f s i).tables) × ((calls.after f (suc i) s).memory ≡ (answer f s i).memory)
  unfolding answer calls.after
  each_next = (refl, refl)

-- ── no second answer ──
module _ {r q : Out} {vs us : List ℕ} where
  pub one_answer : {x : Outcome} → after r vs ≡ x → after q us ≡ x → (r ≡ q) × (vs ≡ us)
  one_answer a b = (
    ap (λ (x : Outcome). record { seen = x.seen; tables = x.tables }) (a ∙ sym b),
    ap (λ (x : Outcome). x.memory) (a ∙ sym b),
  )

-- a method that takes no memory
pub one-method-answer : (m : Tables) (o : Op) {r q : Out} →
    ((ws : List ℕ) → after r ws ≡ acted m o ws) → ((ws : List ℕ) → after q ws ≡ acted m o ws) → r ≡ q
one-method-answer m o a b = (one_answer (a []) (b [])).0

pub one-list-answer : {r q : Ran} {vs us ns ks xs ys : List ℕ} {x : calls.Ran} →
    ended r vs ns xs ≡ x → ended q us ks ys ≡ x → (r ≡ q) × (vs ≡ us) × (ns ≡ ks) × (xs ≡ ys)
one-list-answer a b = (
  ap (λ (x : calls.Ran). record { number = x.number; handled = x.handled; accepted = x.accepted; tables = x.tables }) (a ∙ sym b),
  ap (λ (x : calls.Ran). x.memory) (a ∙ sym b),
  ap (λ (x : calls.Ran). x.numbers) (a ∙ sym b),
  ap (λ (x : calls.Ran). x.words) (a ∙ sym b),
)
