-- What a frame's kind says of its action: that a write of another word is the same action but for that word, and who gets the word that
-- an action hands back.
use mathlib.Core.Path.{◌≡◌, refl, sym, ◌∙◌, ap}
use mathlib.Core.Bool.{Bool, true, false, cond}
use mathlib.Core.Logic.{⊎_elim}
use Prim.Native.Nat.{ℕ}
use lib.Dec.{eqb, leb}
use borrow.Author.Tests.{eqb-true}
use Rattle.numbers.specs.Tests.{◌and◌, ◌or◌, isnt}
use Rattle.numbers.specs.Rules.{least}
use Rattle.numbers.specs.Search.{first}
use Rattle.numbers.specs.Frames.{kinds, row_of, uses, stray, beyond, frame_rules}
use Rattle.numbers.specs.declared.frames.Action.{Action}
use Rattle.numbers.proofs.Bools.{split, clash, and_l, and_r, or-e, isnt-true, implies}
use Rattle.numbers.proofs.RulesLaws.{rising}
use Rattle.tables.specs.declared.state.Tables.{Tables}
use Rattle.tables.specs.declared.state.Side.{Side}
use Rattle.tables.specs.declared.state.Side.TheVariants.{Cpu, Iommu}
use Rattle.rules.specs.Actions.{Op, Touch, refusals}
use Rattle.rules.specs.Actions.Op.{Read, Write, HyperCall, AddVm, RemoveVm, AssignPage, ReclaimPage, SharePage, UnsharePage, Map, Unmap, ContextSwitch, Idle, Fill, Drop, IommuAssignPage, IommuReclaimPage}
use Rattle.rules.specs.Calls.{Arms, chosen, arms, op_of, action_rules}
use Rattle.rules.specs.Calls.Arms.{otherwise, ◌does◌∣◌}
use Rattle.rules.proofs.Lists.{least-then}
use Rattle.isolation.specs.Marks.{Group, Marks, writes, with_word, Same, to_member}

-- ── a write of another word ──
pub record Writing (a : Action) : Type 0 where
  pub side : Side
  pub as_it_is : op_of a ≡ Write side a.guest a.second a.address a.word
  pub with_another : (w : ℕ) → op_of (with_word w a) ≡ Write side a.guest a.second a.address w
  -- the frame check does not look at a word that the kind uses
  pub checked : (w : ℕ) → least (frame_rules a) ≡ least (frame_rules (with_word w a))

pub writing : (a : Action) → writes a ≡ true → Writing a
unfolding row_of kinds first stray beyond uses ◌and◌ ◌or◌ isnt
writing a e = ⊎_elim
    (λ t. let k = eqb-true a.kind 0x02 t in record { side = Cpu; as_it_is = rw k; with_another = λ w. rw k; checked = λ w. rw k })
    (λ t. let k = eqb-true a.kind 0x05 t in record { side = Iommu; as_it_is = rw k; with_another = λ w. rw k; checked = λ w. rw k })
    (or-e _ _ e)

-- 3 and 4 of the frame, else the action's own
action-number : (m : Tables) (a : Action) →
    least (action_rules m a) ≡ cond (eqb (least (frame_rules a)) 0) (least (refusals m (op_of a))) (least (frame_rules a))
unfolding rising ◌and◌
action-number m a = least-then 2 (frame_rules a) (refusals m (op_of a)) refl

-- the number is the same, whatever word is written into a marked page
pub same_number : {G : Group} {k : Marks} {t : Touch} (m : Tables) {a b : Action} → Same G k t a b → least (action_rules m a) ≡ least (action_rules m b)
same_number m Same.same = refl
same_number m (Same.wrote {a} {w} e i l) =
    let q = writing a e in
    let b = with_word w a in
    let own : least (refusals m (op_of a)) ≡ least (refusals m (op_of b))
    = ap (λ (o : Op). least (refusals m o)) q.as_it_is ∙ sym (ap (λ (o : Op). least (refusals m o)) (q.with_another w)) in
    action-number m a
    ∙ ap (λ (n : ℕ). cond (eqb n 0) (least (refusals m (op_of a))) n) (q.checked w)
    ∙ ap (λ (n : ℕ). cond (eqb (least (frame_rules b)) 0) n (least (frame_rules b))) own
    ∙ sym (action-number m b)

-- ── who gets a word ──
-- whose word it is that an action hands back
abbrev pub reader : Group → Op → Bool
reader G (Read d g u a) = G g
reader G (Write d g u a w) = false
reader G (HyperCall g u w) = false
reader G (AddVm g) = false
reader G (RemoveVm g) = false
reader G (AssignPage g p) = false
reader G (ReclaimPage g p) = false
reader G (SharePage l r p) = false
reader G (UnsharePage l r p) = false
reader G (Map d g v p x) = false
reader G (Unmap d g v) = false
reader G (ContextSwitch g u) = false
reader G (Idle u) = false
reader G (Fill d g u v) = false
reader G (Drop d g u v) = false
reader G (IommuAssignPage g p) = false
reader G (IommuReclaimPage g p) = false

-- a word for a member is an answer to a member
each_arm : (G : Group) (g : ℕ) → Arms → Bool
each_arm G g (otherwise o) = isnt (reader G o)
each_arm G g (n does o ∣ later) = (isnt (reader G o) or leb 0x01 n and leb n 0x05 and G g) and each_arm G g later

for-member : (G : Group) (g k : ℕ) (arms : Arms) → each_arm G g arms ≡ true → reader G (chosen k arms) ≡ true → (leb 0x01 k and leb k 0x05 and G g) ≡ true
unfolding each_arm
for-member G g k (otherwise o) e = λ t. clash t (isnt-true _ e)
for-member G g k (n does o ∣ later) e = split (eqb k n)
    (λ q. rw (q, eqb-true k n q) (λ t. implies _ _ (and_l _ _ e) t))
    (λ q. rw q (for-member G g k later (and_r _ _ e)))

pub read-by-member : (G : Group) (a : Action) → reader G (op_of a) ≡ true → to_member G a ≡ true
unfolding to_member each_arm isnt ◌or◌ ◌and◌
read-by-member G a = for-member G a.guest a.kind (arms a) (split (G a.guest) (λ e. rw e) (λ e. rw e))
