-- What a loop knows of a list that it fills place by place, and of the bits of a mask.
use mathlib.Core.Path.{◌≡◌, refl, sym, ◌∙◌}
use mathlib.Core.List.{List, [], ◌∷◌}
use Prim.Native.Nat.{ℕ, zero, suc, ◌+◌, ◌/◌, ◌%◌, ◌^◌, ◌≤◌, ◌<◌}
use native.Mathlib.Nat.{div-div-eq-div-mul}
use lib.Pow.{pow-add}
use native.Mathlib.Omega.{arith}
use lib.Dec.{eqb}
use borrow.Author.Tests.{eqb-true, eqb-false}
use lib.ListN.{length, get_or, set, length-append, get_or-append, get_or-eq_default}
use lib.Seq.{get_or_at, get_or-set_same, get_or-set_other, ext_get_or}
use Rattle.numbers.proofs.Bools.{split}
use Rattle.tables.specs.State.{tabulate, bit, pool}

module _ {A : Type 0} where
  -- past the end of a list
  pub get_d_past : (l : List A) (d : A) (n p : ℕ) → length l ≡ n → n ≤ p → get_or l p d ≡ d
  get_d_past l d n p e h = get_or-eq_default l d (omega arith)

  -- ── the first i places hold f 0 .. f (i - 1) ──
  unfoldable pub Filled : (ℕ → A) → A → List A → ℕ → Type 0
  Filled f d xs i = (k : ℕ) → k < i → get_or xs k d ≡ f k

  pub filled_none : (f : ℕ → A) (d : A) (xs : List A) → Filled f d xs 0
  unfolding Filled
  filled_none f d xs k h = absurd (omega arith)

  pub filled_more : (f : ℕ → A) (d : A) (xs : List A) (i : ℕ) (v : A) → i < length xs → Filled f d xs i → v ≡ f i → Filled f d (set xs i v) (i + 1)
  unfolding Filled
  filled_more f d xs i v h q e k l = split (eqb k i)
      (λ t. rw (eqb-true k i t) (get_or-set_same xs i v d h ∙ e))
      (λ t. let z : k ≡ i → ⊥ = eqb-false k i t in get_or-set_other xs i k v d z ∙ q k (omega arith))

  pub length-tabulate : (n : ℕ) (f : ℕ → A) → length (tabulate n f) ≡ n
  unfolding tabulate
  length-tabulate zero f = refl
  length-tabulate (suc n) f = rw length-append (let h : length (tabulate n f) ≡ n = length-tabulate n f in omega arith)

  pub tabulate-at : (n : ℕ) (f : ℕ → A) (d : A) → Filled f d (tabulate n f) n
  unfolding tabulate Filled
  tabulate-at zero f d k h = absurd (omega arith)
  tabulate-at (suc n) f d k h = split (eqb k n)
      (λ t. rw (eqb-true k n t) (get_or_at (tabulate n f) (f n) [] d n (length-tabulate n f)))
      (λ t.
      let z : k ≡ n → ⊥ = eqb-false k n t in
      let l : length (tabulate n f) ≡ n = length-tabulate n f in
      get_or-append (tabulate n f) (f n ∷ []) d k (omega arith) ∙ tabulate-at n f d k (omega arith))

  pub filled-end : (f : ℕ → A) (d : A) (xs : List A) (n : ℕ) → length xs ≡ n → Filled f d xs n → xs ≡ tabulate n f
  unfolding Filled
  filled-end f d xs n h q = ext_get_or d xs (tabulate n f) (h ∙ sym (length-tabulate n f))
      (λ i l. q i (omega arith) ∙ sym (tabulate-at n f d i (omega arith)))

-- ── the bits of a mask, one after the other ──
pub halved : (m h p : ℕ) → h ≡ m / 2 ^ p → h / 2 ≡ m / 2 ^ (p + 1)
halved m h p e = rw (e, pow-add) (div-div-eq-div-mul m (2 ^ p) 2)

-- a bit of the mask as a number: 1 is the hypervisor, 0 nobody
pub holder-bit : (m h p : ℕ) → h ≡ m / 2 ^ p → h % 2 ≡ pool m p
unfolding bit
holder-bit m h p e = rw (← e) (split (eqb (h % 2) 1)
    (λ t. rw t (eqb-true _ _ t))
    (λ t. rw t (let z : h % 2 ≡ 1 → ⊥ = eqb-false _ _ t in omega arith)))

pub region-bit : (m h p : ℕ) → h ≡ m / 2 ^ p → eqb (h % 2) 1 ≡ bit m p
unfolding bit
region-bit m h p e = rw e
