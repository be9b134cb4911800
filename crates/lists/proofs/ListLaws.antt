-- A list of actions, from what is prepared to what it comes to.
use mathlib.Core.Path.{◌≡◌, refl, ap, ◌∙◌}
use mathlib.Core.Bool.{Bool, true, false, cond}
use mathlib.Core.List.{List}
use Prim.Native.Nat.{ℕ, zero, suc, ◌+◌, ◌-◌, ◌*◌, ◌≤◌, ◌<◌, ◌^◌}
use native.Mathlib.Numerals.{add-one}
use native.Mathlib.Omega.{arith}
use lib.Dec.{eqb}
use lib.ListN.{length, take, drop, set, length-set}
use borrow.Author.Tests.{eqb-true, ne_eqb}
use Rattle.numbers.specs.Refusals.{number_of}
use Rattle.numbers.specs.declared.refusals.Refusal.{Refusal}
use Rattle.numbers.proofs.RefusalLaws.{refusal-not-0}
use Rattle.numbers.specs.Sizes.{frame_bytes}
use Rattle.numbers.specs.Rules.{least}
use Rattle.numbers.specs.Frames.{decode}
use Rattle.numbers.specs.declared.answers.Seen.{Seen}
use Rattle.numbers.specs.declared.frames.Action.{Action}
use Rattle.numbers.proofs.Bools.{split}
use Rattle.tables.specs.declared.state.Tables.{Tables}
use Rattle.rules.specs.Actions.{does}
use Rattle.rules.specs.Calls.{op_of, action_rules, frame_at, Machine, taken, after, answer, accepted_of, written, listed}
use Rattle.rules.specs.Calls as calls
use Rattle.rules.proofs.Words.{length-touched}
use Rattle.lists.specs.Lists.{ended, placed, handled, went, own_rules, begun}
use Rattle.lists.specs.declared.Ran.{Ran}

-- ── one action ──
-- what stands after it, where k more are accepted
abbrev more : Ran → ℕ → Tables → Ran
more r k m = record { number = r.number; handled = r.handled; accepted = r.accepted + k; tables = m }

-- what an answer leaves at place i
abbrev Answers : ℕ → Seen → List ℕ → List ℕ → ℕ → List ℕ → List ℕ → Type 0
Answers i s numbers words k numbers' words' =
    (k ≡ cond (eqb s.number 0) 1 0) × (numbers' ≡ set numbers i s.number) × (words' ≡ set words i s.word)

module _ (a : Action) (i : ℕ) (g : Ran) (ws numbers words : List ℕ) where
  -- from what is left of it
  pub handled-by : {s : Seen} {m : Tables} {k : ℕ} {vs numbers' words' : List ℕ} → record { seen = s; tables = m; memory = vs } ≡ taken g.tables a ws →
      Answers i s numbers words k numbers' words' → ended (more g k m) vs numbers' words' ≡ handled a i (ended g ws numbers words)
  unfolding handled
  handled-by e p = rw (p.0, p.1, p.2) (ap (placed i (ended g ws numbers words)) e)

-- ── a list, one action more ──
pub went-none : (f : ℕ → Action) (l : calls.Ran) → l ≡ went f 0 l
unfolding went
went-none f l = refl

pub went-more : (f : ℕ → Action) (i : ℕ) (l : calls.Ran) {x y : calls.Ran} → x ≡ went f i l → y ≡ handled (f i) i x → y ≡ went f (i + 1) l
unfolding went
went-more f i l e h = h ∙ rw (add-one, e)

-- the frame at place i, as a part of the list is counted
pub frame_is : (bytes : List ℕ) (i : ℕ) → decode (take (i * frame_bytes + frame_bytes - i * frame_bytes) (drop (i * frame_bytes) bytes)) ≡ frame_at bytes i
unfolding frame_bytes
frame_is bytes i =
    let e : i * frame_bytes + frame_bytes - i * frame_bytes ≡ frame_bytes = omega arith in ap (λ (n : ℕ). decode (take n (drop (i * frame_bytes) bytes))) e

-- x stands n actions after l: what is lent keeps its length, as many as before will be handled, and no more are accepted than have gone
pub record Along (n : ℕ) (x l : calls.Ran) : Type 0 where
  pub memory : length x.memory ≡ length l.memory
  pub numbers : length x.numbers ≡ length l.numbers
  pub words : length x.words ≡ length l.words
  pub handled : x.handled ≡ l.handled
  pub accepted : x.accepted ≤ l.accepted + n

pub one_at_most : (b : Bool) {k : ℕ} → k ≡ cond b 1 0 → k ≤ 1
one_at_most true e = omega arith
one_at_most false e = omega arith

along-went : (f : ℕ → Action) (n : ℕ) (l : calls.Ran) → Along n (went f n l) l
unfolding went handled
along-went f zero l = record { memory = refl; numbers = refl; words = refl; handled = refl; accepted = omega arith }
along-went f (suc n) l =
    let x = went f n l in
    let y = along-went f n l in
    let o = taken x.tables (f n) x.memory in record {
      memory = length-touched (does (action_rules x.tables (f n)) x.tables (op_of (f n))) x.memory ∙ y.memory;
      numbers = length-set x.numbers n _ ∙ y.numbers;
      words = length-set x.words n _ ∙ y.words;
      handled = y.handled;
      accepted = omega (arith, y.accepted, one_at_most (eqb o.seen.number 0) refl);
    }

pub along : (f : ℕ → Action) (n : ℕ) (l : calls.Ran) {x : calls.Ran} → x ≡ went f n l → Along n x l
along f n l e = rw e (along-went f n l)

-- one action more can be counted
pub fewer : (f : ℕ → Action) (n : ℕ) (l : calls.Ran) {x : calls.Ran} → x ≡ went f n l → l.accepted ≡ 0 → n < l.handled → x.accepted < x.handled
fewer f n l e z h = omega (arith, (along f n l e).accepted, (along f n l e).handled, z, h)

pub one-fits : (f : ℕ → Action) (n : ℕ) (l : calls.Ran) {x : calls.Ran} → x ≡ went f n l → l.accepted ≡ 0 → n + 1 < 2 ^ 64 →
    (b : Bool) {k : ℕ} → k ≡ cond b 1 0 → x.accepted + k < 2 ^ 64
one-fits f n l e z fits b k = omega (arith, (along f n l e).accepted, z, fits, one_at_most b k)

-- ── before and after ──
module _ (odd : Bool) (n : ℕ) (m : Tables) (memory numbers words : ℕ) where
  abbrev first : ℕ → ℕ → Ran
  first number handled = record { number = number; handled = handled; accepted = 0; tables = m }

  pub begun-with : (r : Refusal) → number_of r ≡ least (own_rules odd n m memory numbers words) → first (number_of r) 0 ≡ begun odd n m memory numbers words
  unfolding begun
  begun-with r e = rw (← e, ne_eqb (number_of r) 0 (refusal-not-0 r))

  pub begun-0 : 0 ≡ least (own_rules odd n m memory numbers words) → first 0 n ≡ begun odd n m memory numbers words
  unfolding begun
  begun-0 e = rw (← e)

module _ (odd : Bool) (n : ℕ) (m : Tables) (memory numbers words : ℕ) {r : Ran} (e : r ≡ begun odd n m memory numbers words) where
  pub none-accepted : r.accepted ≡ 0
  unfolding begun
  none-accepted = ap (λ (x : Ran). x.accepted) e

  -- no more are handled than there are
  pub handled-le : r.handled ≤ n
  unfolding begun
  handled-le = rw (ap (λ (x : Ran). x.handled) e) (split (eqb (least (own_rules odd n m memory numbers words)) 0)
      (λ t. rw t (omega arith))
      (λ t. rw t (omega arith)))

-- what stands after n actions, as `rules` says it
went-is : (f : ℕ → Action) (n own all : ℕ) (s : Machine) (numbers words : List ℕ) →
    went f n (ended (record { number = own; handled = all; accepted = 0; tables = s.tables }) s.memory numbers words)
    ≡ ended (record { number = own; handled = all; accepted = accepted_of f s n; tables = (after f n s).tables }) (after f n s).memory
    (written (λ i. (answer f s i).seen.number) n numbers) (written (λ i. (answer f s i).seen.word) n words)
unfolding went handled after answer written accepted_of
went-is f zero own all s numbers words = refl
went-is f (suc n) own all s numbers words = ap (handled (f n) n) (went-is f n own all s numbers words)

pub listed-is : (odd : Bool) (f : ℕ → Action) (n : ℕ) (m : Tables) (ws numbers words : List ℕ) {r : Ran} {x : calls.Ran} →
    r ≡ begun odd n m (length ws) (length numbers) (length words) → x ≡ went f r.handled (ended r ws numbers words) →
    x ≡ listed odd f n (record { tables = m; memory = ws }) numbers words
unfolding begun went
listed-is odd f n m ws numbers words e w =
    let own = least (own_rules odd n m (length ws) (length numbers) (length words)) in
    w ∙ ap (λ (r : Ran). went f r.handled (ended r ws numbers words)) e
    ∙ split (eqb own 0) (λ t. rw (t, went-is f n own n (record { tables = m; memory = ws }) numbers words, eqb-true own 0 t)) (λ t. rw t)
