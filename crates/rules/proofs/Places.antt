-- A list after a store at one place, and whom a list of holders names.
use mathlib.Core.Path.{◌≡◌, refl, sym, ap}
use mathlib.Core.Bool.{false}
use mathlib.Core.List.{List, [], ◌∷◌}
use mathlib.Core.Logic.{◌↔◌}
use Prim.Native.Nat.{ℕ, zero, suc, ◌-◌, ◌≤◌, ◌<◌}
use native.Mathlib.Omega.{arith}
use lib.Dec.{eqb, ltb}
use lib.ListN.{length, get_or, set, get_or-eq_default}
use borrow.Author.Tests.{eqb-true, eq-eqb, ltb-true, ltb-false, leb-true, le-leb}
use Rattle.numbers.specs.Search.{first}
use Rattle.numbers.proofs.Bools.{split, clash, and_l, and_r, and_i, isnt-true, isnt-i, not-true}
use Rattle.numbers.proofs.SearchLaws.{first_passes, first-lowest}
use Rattle.tables.specs.State.{guest}
use Rattle.rules.specs.Actions.{another, named}

-- a statement of what stands at q after a store at i, from its two cases
pub at_set : {A : Type 0} (Q : A → Type 0) (l : List A) (i : ℕ) (v : A) (q : ℕ) (d : A) → (q ≡ i → Q v) → Q (get_or l q d) → Q (get_or (set l i v) q d)
at_set Q [] i v q d f h = h
at_set Q (x ∷ l) zero v zero d f h = f refl
at_set Q (x ∷ l) zero v (suc q) d f h = h
at_set Q (x ∷ l) (suc i) v zero d f h = h
at_set Q (x ∷ l) (suc i) v (suc q) d f h = at_set Q l i v q d (λ e. f (ap suc e)) h

-- nobody in the list is guest g
pub named-agrees : (g : ℕ) (t : List ℕ) → named (guest g) t ≡ false ↔ ((i : ℕ) → get_or t i 0 ≡ guest g → ⊥)
unfolding named
named-agrees g t = (
  λ n i e. split (ltb i (length t))
      (λ l.
      let il : i < length t = ltb-true _ _ l in
      let f : first (eqb (guest g)) t ≤ i = first-lowest (eqb (guest g)) t 0 i il (eq-eqb _ _ (sym e)) in
      let z : length t ≤ first (eqb (guest g)) t = ltb-false _ _ n in
      omega arith)
      (λ l. let z : get_or t i 0 ≡ 0 = get_or-eq_default t 0 (ltb-false _ _ l) in omega arith),
  λ f. not-true _ (λ l. f _ (sym (eqb-true _ _ (first_passes (eqb (guest g)) t 0 (ltb-true _ _ l))))),
)

-- whoever holds is no other guest: a guest that does is this one
pub another-agrees : (g h : ℕ) → another g h ≡ false ↔ ((k : ℕ) → h ≡ guest k → k ≡ g)
unfolding another
another-agrees g h = (
  λ n k e. split (eqb h (guest g))
      (λ t. let z : h ≡ guest g = eqb-true _ _ t in omega arith)
      (λ t. clash (and_i (le-leb 2 h (omega arith)) (isnt-i t)) n),
  λ f. not-true _ (λ t.
      let l : 2 ≤ h = leb-true 2 h (and_l _ _ t) in
      let k : h - 2 ≡ g = f (h - 2) (omega arith) in
      clash (eq-eqb h (guest g) (omega arith)) (isnt-true _ (and_r _ _ t))),
)
