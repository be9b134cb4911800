-- Tests: the two cases, and what a test made of tests says.
use mathlib.Core.Path.{◌≡◌, refl, sym, ◌∙◌}
use mathlib.Core.Bool.{Bool, true, false, cond, true≢false, not, ◌&&◌, ◌||◌}
use mathlib.Core.Logic.{◌⊎◌, inl, inr}
use Prim.Native.Nat.{ℕ}
use lib.Dec.{eqb}
use borrow.Author.Tests.{eqb-true, eqb-false, eq-eqb, ne_eqb}
use Rattle.numbers.specs.Tests.{◌and◌, ◌or◌, isnt}

-- by the two cases of a test, each with its equation
pub split : {P : Type 0} (b : Bool) → (b ≡ true → P) → (b ≡ false → P) → P
split true f g = f refl
split false f g = g refl

pub clash : {P : Type 0} {b : Bool} → b ≡ true → b ≡ false → P
clash p q = absurd (true≢false (sym p ∙ q))

pub cond-true : {A : Type 0} {b : Bool} → b ≡ true → (x y : A) → cond b x y ≡ x
cond-true e x y = rw e

pub cond-false : {A : Type 0} {b : Bool} → b ≡ false → (x y : A) → cond b x y ≡ y
cond-false e x y = rw e

-- ── a test is what the other answer would make absurd ──
pub not-true : (b : Bool) → (b ≡ true → ⊥) → b ≡ false
not-true true h = absurd (h refl)
not-true false h = refl

pub not-false : (b : Bool) → (b ≡ false → ⊥) → b ≡ true
not-false true h = refl
not-false false h = absurd (h refl)

-- either order
pub eqb_comm : (a b : ℕ) → eqb a b ≡ eqb b a
eqb_comm a b = split (eqb a b)
    (λ e. e ∙ sym (eq-eqb b a (sym (eqb-true a b e))))
    (λ e. e ∙ sym (ne_eqb b a (λ z. eqb-false a b e (sym z))))

-- two tests that follow from each other
pub bool-ext : (a b : Bool) → (a ≡ true → b ≡ true) → (b ≡ true → a ≡ true) → a ≡ b
bool-ext true b f g = sym (f refl)
bool-ext false b f g = sym (not-true b (λ e. clash (g e) refl))

-- ── and ──
pub and_l : (a b : Bool) → (a and b) ≡ true → a ≡ true
unfolding ◌and◌
and_l true b e = refl
and_l false b e = e

pub and_r : (a b : Bool) → (a and b) ≡ true → b ≡ true
unfolding ◌and◌
and_r true b e = e
and_r false b e = clash e refl

pub and_i : {a b : Bool} → a ≡ true → b ≡ true → (a and b) ≡ true
unfolding ◌and◌
and_i p q = rw (p, q)

pub and-no-l : {a : Bool} (b : Bool) → a ≡ false → (a and b) ≡ false
unfolding ◌and◌
and-no-l b p = rw p

pub and-no-r : (a : Bool) {b : Bool} → b ≡ false → (a and b) ≡ false
unfolding ◌and◌
and-no-r true p = p
and-no-r false p = refl

-- ── or ──
pub or-e : (a b : Bool) → (a or b) ≡ true → (a ≡ true) ⊎ (b ≡ true)
unfolding ◌or◌
or-e true b e = inl refl
or-e false b e = inr e

pub or-il : {a : Bool} (b : Bool) → a ≡ true → (a or b) ≡ true
unfolding ◌or◌
or-il b p = rw p

pub or-ir : (a : Bool) {b : Bool} → b ≡ true → (a or b) ≡ true
unfolding ◌or◌
or-ir true p = refl
or-ir false p = p

pub or_l : (a b : Bool) → (a or b) ≡ false → a ≡ false
unfolding ◌or◌
or_l true b e = e
or_l false b e = refl

pub or_r : (a b : Bool) → (a or b) ≡ false → b ≡ false
unfolding ◌or◌
or_r true b e = clash refl e
or_r false b e = e

pub or_no : {a b : Bool} → a ≡ false → b ≡ false → (a or b) ≡ false
unfolding ◌or◌
or_no p q = rw (p, q)

-- ── isnt ──
pub isnt-true : (a : Bool) → isnt a ≡ true → a ≡ false
unfolding isnt
isnt-true true e = sym e
isnt-true false e = refl

pub isnt-false : (a : Bool) → isnt a ≡ false → a ≡ true
unfolding isnt
isnt-false true e = refl
isnt-false false e = sym e

pub isnt-i : {a : Bool} → a ≡ false → isnt a ≡ true
unfolding isnt
isnt-i p = rw p

pub isnt-no : {a : Bool} → a ≡ true → isnt a ≡ false
unfolding isnt
isnt-no p = rw p

-- ── `isnt a or b`: where a holds, b does ──
pub implies : (a b : Bool) → (isnt a or b) ≡ true → a ≡ true → b ≡ true
unfolding isnt ◌or◌
implies true b e h = e
implies false b e h = clash h refl

pub implied : (a b : Bool) → (a ≡ true → b ≡ true) → (isnt a or b) ≡ true
unfolding isnt ◌or◌
implied true b f = f refl
implied false b f = refl

-- ── what the code's tests compute to is what definitions say ──
pub not_is : (a : Bool) → not a ≡ isnt a
unfolding isnt
not_is a = refl

pub and_is : (a b : Bool) → (a && b) ≡ (a and b)
unfolding ◌and◌
and_is a b = refl

pub or_is : (a b : Bool) → (a || b) ≡ (a or b)
unfolding ◌or◌
or_is a b = refl

-- and as choices: a test that stands first decides whether the other is asked
pub and_asks : (a b : Bool) → (a and b) ≡ cond a b false
unfolding ◌and◌
and_asks true b = refl
and_asks false b = refl

pub or_asks : (a b : Bool) → (a or b) ≡ cond a true b
unfolding ◌or◌
or_asks true b = refl
or_asks false b = refl
