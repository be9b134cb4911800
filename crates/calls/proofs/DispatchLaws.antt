-- The kind chooses the rule.
use mathlib.Core.Path.{◌≡◌, refl, sym, ap, subst⁻¹, ◌∙◌}
use mathlib.Core.Bool.{Bool, true, false}
use mathlib.Core.List.{List, []}
use Prim.Native.Nat.{ℕ, zero, suc, ◌+◌, ◌≤◌, ◌<◌}
use native.Mathlib.Omega.{arith}
use lib.Dec.{eqb}
use borrow.Author.Tests.{eqb-true, eqb-false, leb-true}
use Rattle.numbers.specs.Answers.{wordless}
use Rattle.numbers.specs.Refusals.{number_of}
use Rattle.numbers.specs.declared.answers.Seen.{Seen}
use Rattle.numbers.specs.declared.refusals.Refusal.{Refusal}
use Rattle.numbers.proofs.RefusalLaws.{refusal-not-0}
use Rattle.numbers.specs.Rules.{least}
use Rattle.numbers.specs.Frames.{row_of, frame_number}
use Rattle.numbers.specs.declared.frames.Action.{Action}
use Rattle.numbers.proofs.Bools.{split, and_l, and_r}
use Rattle.numbers.proofs.FrameLaws.{no_row, Checked, checked as frame-checked}
use Rattle.numbers.proofs.FrameLaws.Checked.{fine, unknown, unused, out_of_range}
use Rattle.tables.specs.declared.state.Tables.{Tables}
use Rattle.rules.specs.Actions.{Op, refusals, effect, does, Outcome, acted}
use Rattle.rules.specs.Calls.{op_of, ◌then◌, action_rules, taken}
use Rattle.access.specs.Lent.{Observed, observed, left, served, guest_op}
use Rattle.access.proofs.Answers.{refused-by, kept}
use Rattle.calls.specs.Dispatch.{keeps_tables, kind_rules, stepped}
use Rattle.calls.proofs.FrontLaws.{same_number, frame_refused, frame-passed}

-- ── an action, its kind known ──
abbrev pub kinded : ℕ → Action → Action
kinded k a = record {
  kind = k;
  guest = a.guest;
  second = a.second;
  access = a.access;
  address = a.address;
  page = a.page;
  word = a.word;
}

-- a frame that passes its check is of a kind with a row
has-row : {a : Action} {n : ℕ} → Checked a n → n ≡ 0 → eqb (row_of a.kind) 0 ≡ false
has-row (fine e s b) z = e
has-row (unknown e) z = absurd (omega arith)
has-row (unused e s) z = e
has-row (out_of_range e s b) z = e

module _ (m : Tables) (a : Action) (ws : List ℕ) where
  -- a kind with a row does what it asks for
  known : eqb (row_of a.kind) 0 ≡ false → acted m (op_of a) ws ≡ stepped m a ws
  unfolding stepped ◌then◌ least
  known e = same_number (refusals m (op_of a)) (kind_rules a then refusals m (op_of a)) m (op_of a) ws (rw e)

  pub by_kind : (k : ℕ) → eqb (row_of k) 0 ≡ false → a.kind ≡ k → {x : Outcome} → x ≡ acted m (op_of (kinded k a)) ws → x ≡ stepped m a ws
  by_kind k row e h = h ∙ sym (ap (λ (i : ℕ). acted m (op_of (kinded i a)) ws) e) ∙ known (rw e row)

  -- one without a row is refused
  pub of-no-kind : eqb (row_of a.kind) 0 ≡ true → record { seen = wordless 3; tables = m; memory = ws } ≡ stepped m a ws
  unfolding stepped ◌then◌ least
  of-no-kind e = refused-by (kind_rules a then refusals m (op_of a)) m (op_of a) ws (rw e) (λ (z : ◌≡◌ {A = ℕ} 3 0). omega arith)

  -- a frame that its check lets through is what its kind asks for
  pub stepped_is : 0 ≡ frame_number a → stepped m a ws ≡ taken m a ws
  stepped_is e = sym (known (has-row (frame-checked a) (sym e))) ∙ frame-passed m a ws e refl

-- ── the last arm of a match: none of n kinds from `from` on, and what was said before them ──
abbrev Others : Type 0 → ℕ → ℕ → ℕ → Type 0
Others said k from zero = said
Others said k from (suc n) = Others said k from n × (k ≡ from + n → ⊥)

before-them : (said : Type 0) (n k from : ℕ) → Others said k from n → said
before-them said zero k from h = h
before-them said (suc n) k from h = before-them said n k from h.0

past : (said : Type 0) (n k from : ℕ) → from ≤ k → Others said k from n → from + n ≤ k
past said zero k from l h = omega arith
past said (suc n) k from l h = let p : from + n ≤ k = past said n k from l h.0 in let q : k ≡ from + n → ⊥ = h.1 in omega arith

pub none-of-them : (k : ℕ) → k < 256 → Others (Others (Others Unit k 0x01 5) k 0x10 12) k 0x20 6 → eqb (row_of k) 0 ≡ true
none-of-them k b h =
    let guests = Others Unit k 0x01 5 in
    let hypervisor = Others guests k 0x10 12 in
    let later : hypervisor = before-them hypervisor 6 k 0x20 h in
    no_row k b
    (λ x y. omega (arith, past Unit 5 k 0x01 x (before-them guests 12 k 0x10 later)))
    (λ x y. omega (arith, past guests 12 k 0x10 x later))
    (λ x y. omega (arith, past hypervisor 6 k 0x20 x h))

-- ── kinds 01 to 05 leave the tables as they are, and look at these parts of them alone ──
guest-kinds : (P : ℕ → Type 0) (k : ℕ) → keeps_tables k ≡ true → P 1 → P 2 → P 3 → P 4 → P 5 → P k
unfolding keeps_tables
guest-kinds P k keeps one two three four five =
    let at : (n : ℕ) → P n → k ≡ n → P k = λ n p e. subst⁻¹ P e p in
    let l : 1 ≤ k = leb-true 1 k (and_l _ _ keeps) in
    let h : k ≤ 5 = leb-true k 5 (and_r _ _ keeps) in
    split (eqb k 1) (λ t. at 1 one (eqb-true k 1 t))
    (λ x. split (eqb k 2) (λ t. at 2 two (eqb-true k 2 t))
    (λ y. split (eqb k 3) (λ t. at 3 three (eqb-true k 3 t))
    (λ z. split (eqb k 4) (λ t. at 4 four (eqb-true k 4 t))
    (λ w. at 5 five (omega (arith, eqb-false k 1 x, eqb-false k 2 y, eqb-false k 3 z, eqb-false k 4 w))))))

-- tables of the parts that these look at; the others are empty
abbrev lent : List Bool → List ℕ → List ℕ → List ℕ → List ℕ → List ℕ → Tables
lent present running map tlb io_map io_tlb = record {
  map = map;
  tlb = tlb;
  io_map = io_map;
  io_tlb = io_tlb;
  pairs = [];
  holder = [];
  dma = [];
  region = [];
  present = present;
  running = running;
}

module _ (a : Action) (keeps : keeps_tables a.kind ≡ true) where
  -- what serves them is their own rule
  guest-op-is : guest_op a ≡ op_of a
  guest-op-is = guest-kinds (λ k. guest_op (kinded k a) ≡ op_of (kinded k a)) a.kind keeps refl refl refl refl refl

  stays : (m : Tables) → effect m (op_of a) ≡ m
  stays m = guest-kinds (λ k. effect m (op_of (kinded k a)) ≡ m) a.kind keeps refl refl refl refl refl

  -- and it looks at no other parts of the tables than these
  served-lent : (m : Tables) (ws : List ℕ) {x : Observed} →
      x ≡ served (lent m.present m.running m.map m.tlb m.io_map m.io_tlb) (guest_op a) ws → x ≡ served m (op_of a) ws
  unfolding served does
  served-lent m ws e =
      let parts = lent m.present m.running m.map m.tlb m.io_map m.io_tlb in
      e ∙ ap (λ (o : Op). served parts o ws) guest-op-is
      ∙ guest-kinds (λ k. served parts (op_of (kinded k a)) ws ≡ served m (op_of (kinded k a)) ws) a.kind keeps refl refl refl refl refl

-- ── an action that moves nothing: what serves it is what the call takes, and the tables stay ──
module _ (m : Tables) (a : Action) (ws : List ℕ) where
  pub refused-still : (r : Refusal) → number_of r ≡ frame_number a →
      (left (wordless (number_of r)) ws ≡ observed (taken m a ws)) × ((taken m a ws).tables ≡ m)
  refused-still r e = let q = frame_refused m a ws e (refusal-not-0 r) in (ap observed q, sym (ap (λ (o : Outcome). o.tables) q))

  module _ (e : 0 ≡ frame_number a) (keeps : keeps_tables a.kind ≡ true) where
    pub served-still : {x : Observed} → x ≡ served m (guest_op a) ws → x ≡ observed (taken m a ws)
    unfolding served
    served-still h = h ∙ ap (λ (o : Op). served m o ws) (guest-op-is a keeps) ∙ ap observed (frame-passed m a ws e refl)

    pub tables-still : (taken m a ws).tables ≡ m
    tables-still = sym (kept (action_rules m a) m (op_of a) (stays a keeps m))

-- and where the tables are, from what is observed of it on what was lent of them
pub in_place : (m : Tables) (a : Action) (ws : List ℕ) {t : Tables} → t ≡ m → {s : Seen} {vs : List ℕ} →
    left s vs ≡ observed (taken t a ws) → (taken t a ws).tables ≡ t → record { seen = s; tables = m; memory = vs } ≡ taken m a ws
in_place m a ws {t} l {s} {vs} p q =
    let o = taken m a ws in
    let seen : left s vs ≡ observed o = rw l at p in
    let stays : o.tables ≡ m = rw l at q in
    ap (λ (x : Observed). record { seen = x.seen; tables = m; memory = x.memory }) seen
    ∙ ap (λ (x : Tables). record { seen = o.seen; tables = x; memory = o.memory }) (sym stays)
