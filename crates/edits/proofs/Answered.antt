-- A method's answer: the refusal that its verdict gives, or what the rules do.
use mathlib.Core.Path.{◌≡◌, ap, ◌∙◌}
use mathlib.Core.Bool.{Bool}
use mathlib.Core.List.{List}
use borrow.Author.Tests.{lt-ltb}
use Rattle.numbers.specs.Frames.{off}
use Rattle.numbers.specs.Sizes.{guests}
use Rattle.numbers.specs.Tests.{◌or◌}
use Rattle.numbers.proofs.Bools.{cond-true}
use Rattle.tables.specs.State.{guest}
use Rattle.rules.proofs.Lowest.{when}
use Prim.Native.Nat.{ℕ}
use Rattle.numbers.specs.Answers.{wordless}
use Rattle.numbers.specs.Refusals.{number_of}
use Rattle.numbers.specs.declared.answers.Seen.{Seen}
use Rattle.numbers.specs.declared.refusals.Refusal.{Refusal}
use Rattle.tables.specs.declared.state.Tables.{Tables}
use Rattle.rules.specs.Actions.{Op, Touch, refusals, effect, touch, touched, handed_back, acted}
use Rattle.access.specs.Lent.{number, Observed, served, left}
use Rattle.access.proofs.Answers.{refuses, accepts, guest-below, kept}
use Rattle.edits.specs.Edits.{after, who_is}
use Rattle.edits.specs.declared.out.Out.{Out}

-- t is what was lent of the tables
module _ (m : Tables) (o : Op) {t : Tables} {out : Out} where
  pub refused_out : (r : Refusal) → out ≡ record { seen = wordless (number_of r); tables = m } → t ≡ m → number_of r ≡ number t o →
      (ws : List ℕ) → after out ws ≡ acted m o ws
  refused_out r q l e ws = rw q (refuses m o r (rw l at e) ws)

  pub accepted_out : {x : Tables} → out ≡ record { seen = wordless 0; tables = x } → t ≡ m → 0 ≡ number t o → x ≡ effect m o →
      (ws : List ℕ) {vs : List ℕ} → 0 ≡ handed_back (touch m o) ws → vs ≡ touched (touch m o) ws → after out vs ≡ acted m o ws
  accepted_out {x} q l e s ws {vs} w f = rw (q, s, f) (
      ap (λ (n : ℕ). record { seen = record { number = 0; word = n }; tables = effect m o; memory = touched (touch m o) ws }) w
      ∙ accepts m o (rw l at e) ws)

  -- the same where what is done with the words is known to be h
  pub accepted_with : {x : Tables} → out ≡ record { seen = wordless 0; tables = x } → t ≡ m → 0 ≡ number t o → x ≡ effect m o →
      {h : Touch} → h ≡ touch m o → (ws : List ℕ) {vs : List ℕ} → 0 ≡ handed_back h ws → vs ≡ touched h ws → after out vs ≡ acted m o ws
  accepted_with q l e s d ws w f = accepted_out q l e s ws (w ∙ ap (λ (h : Touch). handed_back h ws) d) (f ∙ ap (λ (h : Touch). touched h ws) d)

module _ (m : Tables) (o : Op) {t : Tables} where
  -- the number of a guest that 4 has passed
  pub holder_is : t ≡ m → 0 ≡ number t o → (g : ℕ) (later : Bool) → when (refusals m o) 4 ≡ (off g guests or later) → {who : ℕ} → who ≡ who_is g → who ≡ guest g
  holder_is l e g later q w = w ∙ cond-true (lt-ltb g guests (guest-below m o (rw l at e) g later q)) _ _

-- an action that leaves the tables as they are, from what is observed of it on what was lent
pub observed_out : (m : Tables) (o : Op) (ws : List ℕ) → effect m o ≡ m → {t : Tables} → t ≡ m → {s u : Seen} {out : Out} {vs : List ℕ} →
    out ≡ record { seen = s; tables = m } → s ≡ u → left u vs ≡ served t o ws → after out vs ≡ acted m o ws
unfolding served
observed_out m o ws k {t} l {s} {u} {out} {vs} q h e =
    ap (λ (x : Out). after x vs) q
    ∙ ap (λ (x : Seen). record { seen = x; tables = m; memory = vs }) h
    ∙ ap (λ (x : Observed). record { seen = x.seen; tables = m; memory = x.memory }) (rw l at e)
    ∙ ap (λ (x : Tables). record { seen = (acted m o ws).seen; tables = x; memory = (acted m o ws).memory }) (kept (refusals m o) m o k)
