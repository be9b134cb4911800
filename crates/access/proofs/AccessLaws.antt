-- How an access ends: refused before what its entry allows is asked, refused for that, or done.
use mathlib.Core.Path.{◌≡◌, sym, ap, ◌∙◌}
use mathlib.Core.Bool.{Bool, true, false, not}
use mathlib.Core.List.{List}
use Prim.Native.Nat.{ℕ}
use Rattle.numbers.specs.Answers.{wordless}
use Rattle.numbers.specs.Refusals.{number_of}
use Rattle.numbers.specs.Rules.{Rules, least}
use Rattle.numbers.specs.Rules.Rules.{accept, ◌⇒◌∣◌}
use Rattle.numbers.specs.Tests.{isnt}
use Rattle.numbers.specs.declared.refusals.Refusal.{Refusal}
use Rattle.numbers.specs.declared.refusals.Refusal.TheVariants.{NotAllowed}
use Rattle.tables.specs.declared.state.Tables.{Tables}
use Rattle.rules.specs.Actions.{Op, refusals, touch, touched, handed_back}
use Rattle.access.specs.Lent.{number, left, served}
use Rattle.access.proofs.Answers.{refuses_served, accepts_served}

module _ (m : Tables) (o : Op) (early : Rules → Rules) (can : Bool) (same : refusals m o ≡ early (isnt can ⇒ 10 ∣ accept)) (ws : List ℕ) where
  pub refused-early : (r : Refusal) → ((later : Rules) → number_of r ≡ least (early later)) → left (wordless (number_of r)) ws ≡ served m o ws
  unfolding number
  refused-early r e = refuses_served m o r (e (isnt can ⇒ 10 ∣ accept) ∙ sym (ap least same)) ws

  -- b is what the code says of the entry
  module _ (passes : (later : Rules) → least (early later) ≡ least later) {b : Bool} (e : b ≡ can) where
    late : number m o ≡ least (isnt b ⇒ 10 ∣ accept)
    unfolding number
    late = ap least same ∙ passes (isnt can ⇒ 10 ∣ accept) ∙ rw e

    pub refused-10 : not b ≡ true → left (wordless 10) ws ≡ served m o ws
    unfolding least isnt
    refused-10 n = refuses_served m o NotAllowed (sym (late ∙ rw n)) ws

    pub allowed : not b ≡ false → left (record { number = 0; word = handed_back (touch m o) ws }) (touched (touch m o) ws) ≡ served m o ws
    unfolding least isnt
    allowed n = accepts_served m o (sym (late ∙ rw n)) ws
