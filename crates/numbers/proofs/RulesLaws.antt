-- Refusals in order: the answer is 0 or a number whose condition holds, and no number whose condition holds is lower.
use mathlib.Core.Path.{◌≡◌, refl}
use mathlib.Core.Bool.{Bool, true, false}
use mathlib.Core.Logic.{◌⊎◌, inl, inr, ⊎_elim}
use Prim.Native.Nat.{ℕ, ◌≤◌, ◌<◌}
use native.Mathlib.Omega.{arith}
use lib.Dec.{ltb, leb}
use borrow.Author.Tests.{ltb-true, leb-true, le-leb}
use Rattle.numbers.specs.Rules.{Rules, least}
use Rattle.numbers.specs.Rules.Rules.{accept, ◌⇒◌∣◌}
use Rattle.numbers.specs.Tests.{◌and◌}
use Rattle.numbers.proofs.Bools.{and_l, and_r, and_i}

-- the number n applies: its condition holds
pub data Applies (n : ℕ) : Rules → Type 0 where
  here : {later : Rules} → Applies n (true ⇒ n ∣ later)
  later : {bad : Bool} {k : ℕ} {rs : Rules} → Applies n rs → Applies n (bad ⇒ k ∣ rs)

-- the numbers rise from n on, and none is 0: computed from the numbers alone, whatever the conditions
unfoldable pub rising : ℕ → Rules → Bool
rising n accept = true
rising n (bad ⇒ k ∣ rs) = ltb 0 k and leb n k and rising k rs

-- a number that is given applies
pub least-applies : (rs : Rules) → (least rs ≡ 0) ⊎ Applies (least rs) rs
unfolding least
least-applies accept = inl refl
least-applies (true ⇒ n ∣ rs) = inr here
least-applies (false ⇒ n ∣ rs) = ⊎_elim (λ e. inl e) (λ a. inr (later a)) (least-applies rs)

-- and is no lower than where the numbers start
pub above : {k : ℕ} (n : ℕ) (rs : Rules) → rising n rs ≡ true → Applies k rs → n ≤ k
unfolding rising
above n accept r applied = elim applied [ ]
above n (bad ⇒ k ∣ rs) r here = leb-true n k (and_l _ _ (and_r _ _ r))
above n (bad ⇒ k ∣ rs) r (later a) =
    let i : n ≤ k = leb-true n k (and_l _ _ (and_r _ _ r)) in let h : k ≤ _ = above k rs (and_r _ _ (and_r _ _ r)) a in omega arith

-- where a number applies one is given, and none that applies is lower
pub least-lowest : {k : ℕ} (n : ℕ) (rs : Rules) → rising n rs ≡ true → Applies k rs → (0 < least rs) × (least rs ≤ k)
unfolding least rising
least-lowest n accept r applied = elim applied [ ]
least-lowest n (true ⇒ k ∣ rs) r a = (
  ltb-true 0 k (and_l _ _ r),
  above k (true ⇒ k ∣ rs) (and_i (and_l _ _ r) (and_i (le-leb k k (omega arith)) (and_r _ _ (and_r _ _ r)))) a,
)
least-lowest n (false ⇒ k ∣ rs) r (later a) = least-lowest k rs (and_r _ _ (and_r _ _ r)) a
