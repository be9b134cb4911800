-- The number given is the lowest that applies; an accepted action passes every test; a refused one changes nothing.
use mathlib.Core.Path.{◌≡◌, refl}
use mathlib.Core.Bool.{Bool, true, false, cond}
use mathlib.Core.List.{List}
use mathlib.Core.Logic.{◌↔◌, ◌⊎◌}
use Prim.Native.Nat.{ℕ, ◌≤◌, ◌<◌}
use native.Mathlib.Omega.{arith}
use lib.Dec.{eqb, leb}
use borrow.Author.Tests.{eqb-true, ne_eqb, ltb-true, leb-true}
use Rattle.numbers.specs.Tests.{◌and◌, isnt}
use Rattle.numbers.specs.Rules.{Rules, least}
use Rattle.numbers.specs.Rules.Rules.{accept, ◌⇒◌∣◌}
use Rattle.numbers.specs.Frames.{decode}
use Rattle.numbers.specs.declared.frames.Action.{Action}
use Rattle.numbers.proofs.Bools.{split, clash, and_l, and_r, and_i, isnt-true, isnt-i, isnt-no}
use Rattle.numbers.proofs.RulesLaws.{Applies, rising, least-applies, least-lowest}
use Rattle.tables.specs.declared.state.Tables.{Tables}
use Rattle.rules.specs.Actions.{Op, refusals, accepted, next, does, Outcome, outcome}
use Rattle.rules.specs.Actions.Op.{Read, Write, HyperCall, AddVm, RemoveVm, AssignPage, ReclaimPage, SharePage, UnsharePage, Map, Unmap, ContextSwitch, Idle, Fill, Drop, IommuAssignPage, IommuReclaimPage}
use Rattle.rules.specs.Calls.{op_of, ◌then◌, action_rules, act_rules, Machine, run_rules, refused, listed}

-- ── refusals stand in rising order, up to 15: the numbers alone say so ──
abbrev pub at_most : ℕ → Rules → Bool
at_most n accept = true
at_most n (bad ⇒ k ∣ later) = leb k n and at_most n later

pub least-at-most : (n : ℕ) (rules : Rules) → at_most n rules ≡ true → least rules ≤ n
unfolding least
least-at-most n accept e = omega arith
least-at-most n (true ⇒ k ∣ later) e = leb-true k n (and_l _ _ e)
least-at-most n (false ⇒ k ∣ later) e = least-at-most n later (and_r _ _ e)

in_order : (m : Tables) (o : Op) → (rising 4 (refusals m o) ≡ true) × (at_most 15 (refusals m o) ≡ true)
unfolding rising ◌and◌
in_order m (Read d g u a) = (refl, refl)
in_order m (Write d g u a w) = (refl, refl)
in_order m (HyperCall g u w) = (refl, refl)
in_order m (AddVm g) = (refl, refl)
in_order m (RemoveVm g) = (refl, refl)
in_order m (AssignPage g p) = (refl, refl)
in_order m (ReclaimPage g p) = (refl, refl)
in_order m (SharePage l r p) = (refl, refl)
in_order m (UnsharePage l r p) = (refl, refl)
in_order m (Map d g v p x) = (refl, refl)
in_order m (Unmap d g v) = (refl, refl)
in_order m (ContextSwitch g u) = (refl, refl)
in_order m (Idle u) = (refl, refl)
in_order m (Fill d g u v) = (refl, refl)
in_order m (Drop d g u v) = (refl, refl)
in_order m (IommuAssignPage g p) = (refl, refl)
in_order m (IommuReclaimPage g p) = (refl, refl)

pub rising-refusals : (m : Tables) (o : Op) → rising 4 (refusals m o) ≡ true
rising-refusals m o = (in_order m o).0

pub up-to-15 : (m : Tables) (o : Op) → at_most 15 (refusals m o) ≡ true
up-to-15 m o = (in_order m o).1

pub rising-action : (m : Tables) (a : Action) → rising 3 (action_rules m a) ≡ true
unfolding rising ◌then◌ ◌and◌
rising-action m a = rising-refusals m (op_of a)

pub rising-act : (m : Tables) (frame ws : List ℕ) → rising 1 (act_rules m frame ws) ≡ true
unfolding rising ◌then◌ ◌and◌
rising-act m frame ws = rising-action m (decode frame)

pub rising-run : (odd : Bool) (n : ℕ) (s : Machine) (numbers words : List ℕ) → rising 1 (run_rules odd n s numbers words) ≡ true
unfolding rising ◌and◌
rising-run odd n s numbers words = refl

-- ── the lowest that applies ──
pub record Lowest (rules : Rules) : Type 0 where
  -- a number that is given applies
  pub given : (least rules ≡ 0) ⊎ Applies (least rules) rules
  -- where a number applies one is given, and none that applies is lower
  pub none_lower : (n : ℕ) → Applies n rules → (0 < least rules) × (least rules ≤ n)

rising-lowest : (n : ℕ) (rules : Rules) → rising n rules ≡ true → Lowest rules
rising-lowest n rules r = record { given = least-applies rules; none_lower = λ k h. least-lowest n rules r h }

-- of an action, of a decoded frame, of a call with one frame, of a call with a list
pub lowest : (m : Tables) (o : Op) → Lowest (refusals m o)
lowest m o = rising-lowest 4 _ (rising-refusals m o)

pub lowest-action : (m : Tables) (a : Action) → Lowest (action_rules m a)
lowest-action m a = rising-lowest 3 _ (rising-action m a)

pub lowest-act : (m : Tables) (frame ws : List ℕ) → Lowest (act_rules m frame ws)
lowest-act m frame ws = rising-lowest 1 _ (rising-act m frame ws)

pub lowest-run : (odd : Bool) (n : ℕ) (s : Machine) (numbers words : List ℕ) → Lowest (run_rules odd n s numbers words)
lowest-run odd n s numbers words = rising-lowest 1 _ (rising-run odd n s numbers words)

-- ── a refused action changes nothing, whatever refused it ──
pub record Unchanged (m : Tables) (ws : List ℕ) (r : Outcome) : Type 0 where
  pub word : r.seen.word ≡ 0
  pub tables : r.tables ≡ m
  pub memory : r.memory ≡ ws

pub refused-changes-nothing : (rules : Rules) (m : Tables) (o : Op) (ws : List ℕ) →
    ((outcome rules m o ws).seen.number ≡ 0 → ⊥) → Unchanged m ws (outcome rules m o ws)
unfolding next does
refused-changes-nothing rules m o ws n = rw (ne_eqb (least rules) 0 n) (record { word = refl; tables = refl; memory = refl })

-- a refused list too: nothing handled, nothing written
pub refused-list-changes-nothing : (odd : Bool) (f : ℕ → Action) (n : ℕ) (s : Machine) (numbers words : List ℕ) →
    ((listed odd f n s numbers words).number ≡ 0 → ⊥) →
    listed odd f n s numbers words ≡ refused (listed odd f n s numbers words).number s numbers words
refused-list-changes-nothing odd f n s numbers words h = split (eqb (least (run_rules odd n s numbers words)) 0)
    (λ e. absurd (h (rw e)))
    (λ e. rw e)

-- ── an accepted action passes every test ──
-- the condition under a number
abbrev pub when : Rules → ℕ → Bool
when accept n = false
when (bad ⇒ k ∣ rules) n = cond (eqb k n) bad (when rules n)

-- no refusal applies: `c 13` says that 13 does not
abbrev pub Clear : Rules → Type 0
Clear rules = (n : ℕ) → when rules n ≡ false

-- and the same as one test, in the order of the rules
abbrev pub all_pass : Rules → Bool
all_pass accept = true
all_pass (bad ⇒ n ∣ rules) = isnt bad and all_pass rules

pub passes : (n : ℕ) (rules : Rules) → rising n rules ≡ true → accepted rules ≡ true ↔ all_pass rules ≡ true
unfolding least rising
passes n accept r = (λ e. refl, λ e. refl)
passes n (true ⇒ k ∣ rules) r = (
  λ e. let l : 0 < k = ltb-true 0 k (and_l _ _ r) in let z : k ≡ 0 = eqb-true k 0 e in absurd (omega arith),
  λ e. clash (and_l _ _ e) (isnt-no refl),
)
passes n (false ⇒ k ∣ rules) r =
    let later = passes k rules (and_r _ _ (and_r _ _ r)) in (λ e. and_i (isnt-i refl) (later.0 e), λ e. later.1 (and_r _ _ e))

pub clear : (rules : Rules) → all_pass rules ≡ true → Clear rules
clear accept e n = refl
clear (bad ⇒ k ∣ rules) e n = split (eqb k n) (λ q. rw q (isnt-true _ (and_l _ _ e))) (λ q. rw q (clear rules (and_r _ _ e) n))

-- accepted, as the tests that it passes
pub accepted-passes : (m : Tables) (o : Op) → accepted (refusals m o) ≡ true ↔ all_pass (refusals m o) ≡ true
accepted-passes m o = passes 4 (refusals m o) (rising-refusals m o)

pub accepted-clear : (m : Tables) (o : Op) → accepted (refusals m o) ≡ true → Clear (refusals m o)
accepted-clear m o e = clear (refusals m o) ((accepted-passes m o).0 e)
