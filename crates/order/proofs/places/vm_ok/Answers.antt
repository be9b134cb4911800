-- `order::places::vm_ok` meets its contract.
use mathlib.Core.Path.{◌≡◌, ◌∙◌}
use mathlib.Core.Bool.{Bool, true, false, ◌&&◌}
use mathlib.Core.List.{List}
use Prim.Native.Nat.{ℕ}
use borrow.Author.Rules.{rules}
use borrow.Author.Tests.{eq-eqb, ne_eqb}
use Rattle.std.specs.Option.{MatchOption}
use Rattle.std.specs.Prelude.{Option, Some, None, IfSome, IfNone, get_or}
use Rattle.numbers.specs.Tests.{◌and◌, ◌or◌}
use Rattle.tables.specs.State.{a_guest, guest_of}
use Rattle.tables.specs.Wf.{vm_ok}
use Rattle.order.proofs.places.vm_ok.Goals as goal

-- the guest that a number says is there, if it says one
there : (present : List Bool) (h : ℕ) (r : Option ℕ) (b : Bool) {Q : ℕ → Type 0} → IfSome r (λ g. (g ≡ guest_of h) × (a_guest h ≡ true)) →
    IfNone r (a_guest h ≡ false) → MatchOption r (b ≡ false) Q → ((g : ℕ) → Q g → b ≡ get_or present g false) →
    b ≡ (a_guest h && get_or present (guest_of h) false)
there present h (Some g) b s n m f = f g m ∙ rw (s.0, s.1)
there present h None b s n m f = m ∙ rw n

pub returns-then-who-eq-NOBODY : goal.returns-then-who-eq-NOBODY
unfolding vm_ok ◌and◌ ◌or◌
returns-then-who-eq-NOBODY c = rw (eq-eqb _ _ c.if-who-eq-NOBODY.true)

pub returns-else-who-eq-NOBODY : goal.returns-else-who-eq-NOBODY
unfolding vm_ok ◌and◌ ◌or◌
returns-else-who-eq-NOBODY c = rw (ne_eqb _ _ c.if-who-eq-NOBODY.false)
    (there c.args.present.now c.args.who _ _ c.guest_of.ensures.some c.guest_of.ensures.none c.is_some_and.ensures (λ g q. search rules))
