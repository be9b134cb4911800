-- Refusals that stand in front of an action's own: a frame's, and a call's.
use mathlib.Core.Path.{◌≡◌, refl, sym, ◌∙◌}
use mathlib.Core.Bool.{true, false}
use mathlib.Core.List.{List}
use Prim.Native.Nat.{ℕ}
use lib.Dec.{eqb}
use lib.ListN.{length}
use borrow.Author.Tests.{ne_eqb}
use Rattle.numbers.specs.Sizes.{frame_bytes, memory_words}
use Rattle.numbers.specs.Tests.{◌and◌, ◌or◌, isnt}
use Rattle.numbers.specs.Answers.{wordless}
use Rattle.numbers.specs.Rules.{Rules, least}
use Rattle.numbers.specs.Frames.{decode, frame_rules, frame_number}
use Rattle.numbers.specs.declared.frames.Action.{Action}
use Rattle.numbers.proofs.Bools.{isnt-i, isnt-no}
use Rattle.numbers.proofs.RulesLaws.{rising}
use Rattle.tables.specs.Wf.{wf}
use Rattle.tables.specs.declared.state.Tables.{Tables}
use Rattle.rules.specs.Actions.{Op, refusals, next, does, outcome, acted}
use Rattle.rules.specs.Calls.{op_of, action_rules, taken, act_rules, act}
use Rattle.rules.proofs.Lists.{least-then}
use Rattle.access.proofs.Answers.{refused-by}

-- only the number of the refusals decides
pub same_number : (rules later : Rules) (m : Tables) (o : Op) (ws : List ℕ) → least rules ≡ least later → outcome rules m o ws ≡ outcome later m o ws
unfolding next does
same_number rules later m o ws e = rw e

-- ── a frame's: 3 and 4 ──
module _ (m : Tables) (a : Action) (ws : List ℕ) {n : ℕ} (e : n ≡ frame_number a) where
  pub frame_refused : (n ≡ 0 → ⊥) → record { seen = wordless n; tables = m; memory = ws } ≡ taken m a ws
  unfolding frame_number rising ◌and◌
  frame_refused h =
      refused-by (action_rules m a) m (op_of a) ws (sym (least-then 2 (frame_rules a) (refusals m (op_of a)) refl ∙ rw (← e, ne_eqb n 0 h))) h

  pub frame-passed : n ≡ 0 → acted m (op_of a) ws ≡ taken m a ws
  unfolding frame_number rising ◌and◌
  frame-passed z =
      same_number (refusals m (op_of a)) (action_rules m a) m (op_of a) ws (sym (least-then 2 (frame_rules a) (refusals m (op_of a)) refl ∙ rw (← e, z)))

-- ── a call's: 1 and 2 ──
module _ (m : Tables) (frame ws : List ℕ) where
  pub act-1 : (isnt (eqb (length frame) frame_bytes) or isnt (eqb (length ws) memory_words)) ≡ true →
      record { seen = wordless 1; tables = m; memory = ws } ≡ act m frame ws
  unfolding act least next does
  act-1 e = rw e

  module _ (e : (isnt (eqb (length frame) frame_bytes) or isnt (eqb (length ws) memory_words)) ≡ false) where
    pub act-2 : wf m ≡ false → record { seen = wordless 2; tables = m; memory = ws } ≡ act m frame ws
    unfolding act least next does
    act-2 h = rw (e, isnt-i h)

    pub act-on : wf m ≡ true → taken m (decode frame) ws ≡ act m frame ws
    unfolding act least
    act-on h = same_number (action_rules m (decode frame)) (act_rules m frame ws) m (op_of (decode frame)) ws (rw (e, isnt-no h))
