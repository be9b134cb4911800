-- Refusals of a frame and of a call in front of an action's; and lists: every state on the way is in good order, and neither a number
-- nor a table depends on a word of memory.
use mathlib.Core.Path.{◌≡◌, refl, ap}
use mathlib.Core.Bool.{true, false, cond}
use lib.ListN.{length}
use mathlib.Core.List.{List}
use Prim.Native.Nat.{ℕ, zero, suc, ◌<◌}
use native.Mathlib.Omega.{arith}
use lib.Dec.{eqb}
use borrow.Author.Tests.{eq-eqb, ne_eqb, ltb-true}
use Rattle.numbers.specs.Rules.{Rules, least}
use Rattle.numbers.specs.Rules.Rules.{accept, ◌⇒◌∣◌}
use Rattle.numbers.specs.Frames.{decode, frame_rules}
use Rattle.numbers.specs.declared.frames.Action.{Action}
use Rattle.numbers.proofs.Bools.{split, and_l, and_r, and_i, isnt-true, isnt-false}
use Rattle.numbers.proofs.RulesLaws.{rising}
use Rattle.tables.specs.Wf.{Wf, wf}
use Rattle.tables.specs.State.{boot}
use Rattle.tables.specs.declared.state.Tables.{Tables}
use Rattle.tables.proofs.WfAgrees.{wf-sound, wf-complete}
use Rattle.tables.proofs.BootWf.{boot-wf}
use Rattle.rules.specs.Actions.{refusals, accepted, next}
use Rattle.rules.specs.Calls.{op_of, ◌then◌, action_rules, act_rules, act, Machine, after, answer}
use Rattle.rules.proofs.Lowest.{all_pass, passes, rising-action, rising-act, accepted-passes}
use Rattle.rules.proofs.WfKept.{wf-kept}

-- ── one list of refusals in front of another ──
pub least-then : (n : ℕ) (rules later : Rules) → rising n rules ≡ true →
    least (rules then later) ≡ cond (eqb (least rules) 0) (least later) (least rules)
unfolding least rising ◌then◌
least-then n accept later r = refl
least-then n (true ⇒ k ∣ rules) later r =
    let l : 0 < k = ltb-true 0 k (and_l _ _ r) in rw (ne_eqb k 0 (λ (e : k ≡ 0). omega arith))
least-then n (false ⇒ k ∣ rules) later r = least-then k rules later (and_r _ _ (and_r _ _ r))

pub passes_then : (rules later : Rules) → all_pass (rules then later) ≡ true → (all_pass rules ≡ true) × (all_pass later ≡ true)
unfolding ◌then◌
passes_then accept later e = (refl, e)
passes_then (bad ⇒ k ∣ rules) later e = let z = passes_then rules later (and_r _ _ e) in (and_i (and_l _ _ e) z.0, z.1)

-- an action that is accepted after its frame is accepted by its own rules
pub accepted-op : (m : Tables) (a : Action) → accepted (action_rules m a) ≡ true → accepted (refusals m (op_of a)) ≡ true
accepted-op m a e = (accepted-passes m (op_of a)).1
    (passes_then (frame_rules a) (refusals m (op_of a)) ((passes 3 (action_rules m a) (rising-action m a)).0 e)).1

-- ── every state is in good order ──
pub next-wf : (m : Tables) (a : Action) → Wf m → Wf (next (action_rules m a) m (op_of a))
unfolding next
next-wf m a h = split (accepted (action_rules m a))
    (λ e. rw e (wf-kept m (op_of a) (accepted-op m a e) h))
    (λ e. rw e h)

-- along a list
pub after-wf : (f : ℕ → Action) (n : ℕ) (s : Machine) → Wf s.tables → Wf (after f n s).tables
unfolding after
after-wf f zero s h = h
after-wf f (suc n) s h = next-wf _ (f n) (after-wf f n s h)

-- and from boot, whatever the masks
pub boot-after-wf : (f : ℕ → Action) (n hv rg : ℕ) (ws : List ℕ) → wf (after f n (record { tables = boot hv rg; memory = ws })).tables ≡ true
boot-after-wf f n hv rg ws = wf-complete _ (after-wf f n _ (boot-wf hv rg))

-- a call with one frame, from tables that need not be in good order: what is accepted is so by its own rules, of tables in good order
pub act-good : (m : Tables) (frame ws : List ℕ) → accepted (act_rules m frame ws) ≡ true →
    (wf m ≡ true) × (accepted (refusals m (op_of (decode frame))) ≡ true)
act-good m frame ws t =
    let z = and_r _ _ ((passes 1 (act_rules m frame ws) (rising-act m frame ws)).0 t) in (
      isnt-false _ (isnt-true _ (and_l _ _ z)),
      accepted-op m (decode frame) ((passes 3 (action_rules m (decode frame)) (rising-action m (decode frame))).1 (and_r _ _ z)),
    )

-- and leaves good order behind
pub act-wf : (m : Tables) (frame ws : List ℕ) → (act m frame ws).seen.number ≡ 0 → Wf (act m frame ws).tables
unfolding act next
act-wf m frame ws e =
    let t : accepted (act_rules m frame ws) ≡ true = eq-eqb _ _ e in
    let z = act-good m frame ws t in
    rw t (wf-kept m (op_of (decode frame)) z.1 (wf-sound m z.0))

-- ── no word of memory reaches a number or a table ──
pub blind : (f : ℕ → Action) (n : ℕ) (m : Tables) (ws vs : List ℕ) →
    (after f n (record { tables = m; memory = ws })).tables ≡ (after f n (record { tables = m; memory = vs })).tables
unfolding after
blind f zero m ws vs = refl
blind f (suc n) m ws vs = ap (λ (t : Tables). next (action_rules t (f n)) t (op_of (f n))) (blind f n m ws vs)

pub blind-number : (f : ℕ → Action) (i : ℕ) (m : Tables) (ws vs : List ℕ) →
    (answer f (record { tables = m; memory = ws }) i).seen.number ≡ (answer f (record { tables = m; memory = vs }) i).seen.number
unfolding answer
blind-number f i m ws vs = ap (λ (t : Tables). least (action_rules t (f i))) (blind f i m ws vs)

-- a call looks at memory only for its length
pub blind-act : (m : Tables) (frame ws vs : List ℕ) → length ws ≡ length vs →
    ((act m frame ws).seen.number ≡ (act m frame vs).seen.number) × ((act m frame ws).tables ≡ (act m frame vs).tables)
unfolding act
blind-act m frame ws vs e = (rw e, rw e)
