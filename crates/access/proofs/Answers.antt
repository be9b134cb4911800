-- What is given meets its rules: a number that refuses leaves all as it was, and 0 does what the rules say.
use mathlib.Core.Path.{◌≡◌, refl, sym, ap, ◌∙◌}
use mathlib.Core.Bool.{Bool}
use mathlib.Core.List.{List}
use Prim.Native.Nat.{ℕ, ◌<◌}
use borrow.Author.Tests.{eq-eqb, ne_eqb}
use Rattle.numbers.specs.Sizes.{guests}
use Rattle.numbers.specs.Tests.{◌or◌}
use Rattle.numbers.specs.Answers.{wordless}
use Rattle.numbers.specs.Refusals.{number_of}
use Rattle.numbers.specs.declared.refusals.Refusal.{Refusal}
use Rattle.numbers.specs.Rules.{Rules, least}
use Rattle.numbers.proofs.RefusalLaws.{refusal-not-0}
use Rattle.numbers.specs.Frames.{off}
use Rattle.numbers.proofs.Bools.{split, or_l}
use Rattle.tables.specs.declared.state.Tables.{Tables}
use Rattle.rules.specs.Actions.{Op, refusals, effect, touch, touched, handed_back, accepted, next, does, outcome, acted}
use Rattle.rules.proofs.Lowest.{when, accepted-clear}
use Rattle.rules.proofs.Ranges.{below}
use Rattle.access.specs.Lent.{number, observed, served, left}

module _ (rules : Rules) (m : Tables) (o : Op) (ws : List ℕ) {n : ℕ} (e : n ≡ least rules) where
  pub refused-by : (n ≡ 0 → ⊥) → record { seen = wordless n; tables = m; memory = ws } ≡ outcome rules m o ws
  unfolding next does
  refused-by h = rw (← e, ne_eqb n 0 h)

  pub accepted-by : n ≡ 0 →
      record { seen = record { number = 0; word = handed_back (touch m o) ws }; tables = effect m o; memory = touched (touch m o) ws } ≡ outcome rules m o ws
  unfolding next does
  accepted-by z = rw (← e, z)

-- ── an action by itself ──
module _ (m : Tables) (o : Op) where
  pub refuses : (r : Refusal) → number_of r ≡ number m o → (ws : List ℕ) → record { seen = wordless (number_of r); tables = m; memory = ws } ≡ acted m o ws
  unfolding number
  refuses r e ws = refused-by (refusals m o) m o ws e (refusal-not-0 r)

  pub accepts : 0 ≡ number m o → (ws : List ℕ) →
      record { seen = record { number = 0; word = handed_back (touch m o) ws }; tables = effect m o; memory = touched (touch m o) ws } ≡ acted m o ws
  unfolding number
  accepts e ws = accepted-by (refusals m o) m o ws e refl

  -- and what stands of it beside the tables
  pub refuses_served : (r : Refusal) → number_of r ≡ number m o → (ws : List ℕ) → left (wordless (number_of r)) ws ≡ served m o ws
  unfolding served
  refuses_served r e ws = ap observed (refuses r e ws)

  pub accepts_served : 0 ≡ number m o → (ws : List ℕ) →
      left (record { number = 0; word = handed_back (touch m o) ws }) (touched (touch m o) ws) ≡ served m o ws
  unfolding served
  accepts_served e ws = ap observed (accepts e ws)

  -- a guest that 4 has passed is in range
  pub guest-below : 0 ≡ number m o → (g : ℕ) (later : Bool) → when (refusals m o) 4 ≡ (off g guests or later) → g < guests
  unfolding number
  guest-below e g later q = below g guests (or_l _ _ (sym q ∙ accepted-clear m o (eq-eqb _ 0 (sym e)) 4))

-- an action that leaves the tables as they are
pub kept : (rules : Rules) (m : Tables) (o : Op) → effect m o ≡ m → m ≡ next rules m o
unfolding next
kept rules m o k = split (accepted rules) (λ e. rw (e, k)) (λ e. rw e)
