-- A search along a list, row by row: what a loop that has passed the first i rows knows; and a test of each number below a bound.
use mathlib.Core.Path.{◌≡◌, refl, sym, ◌∙◌}
use mathlib.Core.Bool.{Bool, true, false}
use mathlib.Core.List.{List, [], ◌∷◌}
use Prim.Native.Nat.{ℕ, zero, suc, ◌+◌, ◌≤◌, ◌<◌}
use native.Mathlib.Nat.{zero-add, add-zero, suc-add, add-suc}
use native.Mathlib.Numerals.{add-one}
use native.Mathlib.Omega.{arith}
use lib.Dec.{eqb}
use borrow.Author.Tests.{eqb-true, eqb-false, ltb-true, ltb-false}
use lib.ListN.{length, get_or, drop, drop_of_length-le}
use lib.Seq.{drop-cons}
use Rattle.std.specs.Prelude.{Option, IfSome, IfNone, is_some, ltb}
use Rattle.std.specs.List.{position, position_or_len}
use Rattle.numbers.specs.Search.{first, upto}
use Rattle.numbers.proofs.Bools.{split, and_l, and_r, and_i}

module _ {A : Type 0} where
  -- ── a step of the definition ──
  pub first-hit : (p : A → Bool) (x : A) (t : List A) → p x ≡ true → first p (x ∷ t) ≡ 0
  unfolding first
  first-hit p x t e = rw e

  pub first-skip : (p : A → Bool) (x : A) (t : List A) → p x ≡ false → first p (x ∷ t) ≡ suc (first p t)
  unfolding first
  first-skip p x t e = rw e

  pub first-le : (p : A → Bool) (t : List A) → first p t ≤ length t
  unfolding first
  first-le p [] = omega arith
  first-le p (x ∷ t) = split (p x)
      (λ e. rw e (omega arith))
      (λ e. rw e (let h : first p t ≤ length t = first-le p t in omega arith))

  -- the row at the first place passes, if there is such a place
  pub first_passes : (p : A → Bool) (t : List A) (d : A) → first p t < length t → p (get_or t (first p t) d) ≡ true
  unfolding first
  first_passes p [] d h = absurd (omega arith)
  first_passes p (x ∷ t) d h = split (p x)
      (λ e. rw e e)
      (λ e. let l : first p (x ∷ t) ≡ suc (first p t) = first-skip p x t e in rw e (first_passes p t d (omega arith)))

  -- no place that passes is lower
  pub first-lowest : (p : A → Bool) (t : List A) (d : A) (i : ℕ) → i < length t → p (get_or t i d) ≡ true → first p t ≤ i
  unfolding first
  first-lowest p [] d i h e = absurd (omega arith)
  first-lowest p (x ∷ t) d zero h e = rw e (omega arith)
  first-lowest p (x ∷ t) d (suc i) h e = split (p x)
      (λ q. rw q (omega arith))
      (λ q. rw q (let l : first p t ≤ i = first-lowest p t d i (omega arith) e in omega arith))

  -- ── the library's search is this one ──
  pub position_or_len-first : (p : A → Bool) (t : List A) → position_or_len p t ≡ first p t
  unfolding first
  position_or_len-first p [] = refl
  position_or_len-first p (x ∷ t) = split (p x)
      (λ e. rw e refl)
      (λ e. rw e (let h : position_or_len p t ≡ first p t = position_or_len-first p t in omega arith))

  -- a place that was found, and one past the end that was not
  pub position-some : (p : A → Bool) (t : List A) {r : Option ℕ} → r ≡ position p t → IfSome r (λ i. (i ≡ first p t) × (i < length t))
  position-some p t e = rw (e, position_or_len-first p t) (split (ltb (first p t) (length t))
      (λ h. rw h (refl, ltb-true _ _ h))
      (λ h. rw h tt))

  pub position-none : (p : A → Bool) (t : List A) {r : Option ℕ} → r ≡ position p t → IfNone r (length t ≤ first p t)
  position-none p t e = rw (e, position_or_len-first p t) (split (ltb (first p t) (length t))
      (λ h. rw h tt)
      (λ h. rw h (ltb-false _ _ h)))

  pub position-is_some : (p : A → Bool) (t : List A) {r : Option ℕ} → r ≡ position p t → is_some r ≡ ltb (first p t) (length t)
  position-is_some p t e = rw (e, position_or_len-first p t) (split (ltb (first p t) (length t)) (λ h. rw h) (λ h. rw h))

  -- ── none of the first i rows passes ──
  unfoldable pub Passed : (A → Bool) → List A → ℕ → Type 0
  Passed p xs i = first p xs ≡ i + first p (drop i xs)

  pub passed_none : (p : A → Bool) (xs : List A) → Passed p xs 0
  unfolding Passed
  passed_none p xs = sym (zero-add (first p xs))

  pub passed-more : (p : A → Bool) (xs : List A) (i : ℕ) (d : A) → i < length xs → Passed p xs i → p (get_or xs i d) ≡ false → Passed p xs (i + 1)
  unfolding Passed
  passed-more p xs i d h q e =
      q ∙ rw (add-one, drop-cons xs i d h, first-skip p (get_or xs i d) (drop (suc i) xs) e) (add-suc i _ ∙ sym (suc-add i _))

  pub passed-hit : (p : A → Bool) (xs : List A) (i : ℕ) (d : A) → i < length xs → Passed p xs i → p (get_or xs i d) ≡ true → first p xs ≡ i
  unfolding Passed
  passed-hit p xs i d h q e = q ∙ rw (drop-cons xs i d h, first-hit p (get_or xs i d) (drop (suc i) xs) e) (add-zero i)

  pub passed-end : (p : A → Bool) (xs : List A) (i : ℕ) → length xs ≤ i → i ≤ length xs → Passed p xs i → first p xs ≡ length xs
  unfolding Passed first
  passed-end p xs i h k q = q ∙ rw (drop_of_length-le xs h) (omega arith)

-- ── each number below a bound ──
pub upto-at : (n : ℕ) (f : ℕ → Bool) → upto n f ≡ true → (k : ℕ) → k < n → f k ≡ true
unfolding upto
upto-at zero f e k h = absurd (omega arith)
upto-at (suc n) f e k h = split (eqb k n)
    (λ q. rw (eqb-true k n q) (and_l _ _ e))
    (λ q. let z : k ≡ n → ⊥ = eqb-false k n q in upto-at n f (and_r _ _ e) k (omega arith))

pub upto-i : (n : ℕ) (f : ℕ → Bool) → ((k : ℕ) → k < n → f k ≡ true) → upto n f ≡ true
unfolding upto
upto-i zero f h = refl
upto-i (suc n) f h = and_i (h n (omega arith)) (upto-i n f (λ k l. h k (omega arith)))
