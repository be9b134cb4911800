-- What the walks over rows know: the library's tests of each row and of each number below a bound, a row and the rows after it,
-- the row of a TLB in its map.
use mathlib.Core.Path.{◌≡◌, refl, sym, ◌∙◌, ap}
use mathlib.Core.Bool.{Bool, true, false, ◌&&◌, ◌||◌}
use mathlib.Core.List.{List, [], ◌∷◌}
use Prim.Native.Nat.{ℕ, ◌≤◌, ◌<◌}
use native.Mathlib.Nat.{zero-add}
use native.Mathlib.Omega.{arith}
use lib.Dec.{eqb}
use borrow.Author.Tests.{ne_eqb, lt-ltb, le-ltb}
use lib.ListN.{length, get_or, get_or-eq_default}
use Rattle.std.specs.List.{list_all, range_with_len}
use Rattle.std.proofs.lemmas.List.Sums.{AllPass-from_list_all, list_all-from_AllPass}
use Rattle.std.proofs.lemmas.List.FromFn.{length-range_with_len, get_or-range_with_len}
use Rattle.numbers.specs.Tests.{◌and◌, ◌or◌, isnt}
use Rattle.numbers.specs.Search.{first, upto}
use Rattle.numbers.specs.Entries.{key_in, at_unit}
use Rattle.numbers.proofs.Bools.{split, bool-ext}
use Rattle.numbers.proofs.SearchLaws.{Passed, passed-hit, passed-end, upto-at, upto-i}
use Rattle.numbers.proofs.EntryLaws.{key-at-unit, at-unit-live}
use Rattle.tables.specs.Table.{Shape, all, live, hit, has, each, uniq}
use Rattle.tables.specs.Wants.{W, meets}
use Rattle.tables.specs.Wf.{cached}
use Rattle.tables.specs.declared.search.Want.TheVariants.{Key}
use Rattle.tables.proofs.TableLaws.{find_at}

-- ── each number below a bound ──
pub list_all-upto : (f : ℕ → Bool) (n : ℕ) → list_all f (range_with_len 0 n) ≡ upto n f
list_all-upto f n = bool-ext _ _
    (λ e. upto-i n f (λ k h.
    let l : k < length (range_with_len 0 n) = rw length-range_with_len h in
    rw (get_or-range_with_len 0 n k 0 h, zero-add k) at (AllPass-from_list_all f _ e k 0 l)))
    (λ e. list_all-from_AllPass f _ (λ k d l.
    let h : k < n = rw length-range_with_len at l in
    rw (get_or-range_with_len 0 n k d h, zero-add k) (upto-at n f e k h)))

module _ {A : Type 0} (K : Shape A) where
  -- ── each row ──
  pub list_all-each : (ok : A → Bool) (t : List A) → list_all (λ x. K.free x || ok x) t ≡ each K ok t
  unfolding each all isnt ◌and◌ ◌or◌
  list_all-each ok [] = refl
  list_all-each ok (x ∷ t) = split (K.free x)
      (λ e. rw e (list_all-each ok t))
      (λ e. rw e (ap (λ (b : Bool). ok x && b) (list_all-each ok t)))

  -- ── where a search has passed the first i rows ──
  module _ (k : A → Bool) (t : List A) (i : ℕ) (q : Passed (hit K k) t i) where
    pub has-here : (d : A) → i < length t → hit K k (get_or t i d) ≡ true → has K k t ≡ true
    unfolding has
    has-here d l e = lt-ltb _ _ (rw (passed-hit (hit K k) t i d l q e) l)

    pub has-none : length t ≤ i → i ≤ length t → has K k t ≡ false
    unfolding has
    has-none l m = let e : first (hit K k) t ≡ length t = passed-end (hit K k) t i l m q in le-ltb _ _ (omega arith)

  -- ── a row and the rows after it ──
  module _ (same : A → A → Bool) where
    pub uniq-nil : uniq K same [] ≡ true
    unfolding uniq all
    uniq-nil = refl

    pub uniq-free : (x : A) (t : List A) → live K x ≡ false → uniq K same (x ∷ t) ≡ uniq K same t
    unfolding uniq all isnt ◌and◌ ◌or◌
    uniq-free x t e = rw e

    pub uniq-once : (x : A) (t : List A) → has K (same x) t ≡ false → uniq K same (x ∷ t) ≡ uniq K same t
    unfolding uniq all isnt ◌and◌ ◌or◌
    uniq-once x t e = split (K.free x) (λ f. rw f) (λ f. rw (f, e))

    pub uniq-twice : (x : A) (t : List A) → live K x ≡ true → has K (same x) t ≡ true → uniq K same (x ∷ t) ≡ false
    unfolding uniq all isnt ◌and◌ ◌or◌
    uniq-twice x t l e = rw (l, e)

-- ── a TLB entry against the row that a search for its key ends at ──
module _ (map : List ℕ) (y home key j : ℕ) (h : home ≡ at_unit 0 y) (k : key ≡ key_in home) (f : first (hit W (meets (Key key))) map ≡ j) where
  pub cached-at : cached map y ≡ eqb (get_or map j 0) home
  unfolding cached
  cached-at = rw (← key-at-unit 0 y, ← h, ← k, find_at W (meets (Key key)) map j f)

  -- the search found nothing
  pub cached-past : length map ≤ j → cached map y ≡ false
  cached-past p = cached-at ∙ ne_eqb _ _ (λ (e : get_or map j 0 ≡ home).
      let z : get_or map j 0 ≡ 0 = get_or-eq_default map 0 p in
      let l : 0 < at_unit 0 y = at-unit-live 0 y in
      omega arith)

-- ── one test, and if it passes another: r and s are what the calls gave ──
pub and-then : (a b : Bool) {r s : Bool} → r ≡ a → r ≡ true → s ≡ b → s ≡ (a and b)
unfolding ◌and◌
and-then a b p t q = let f : a ≡ true = sym p ∙ t in q ∙ rw f

pub and-else : (a b : Bool) {r : Bool} → r ≡ a → r ≡ false → r ≡ (a and b)
unfolding ◌and◌
and-else a b p t = let f : a ≡ false = sym p ∙ t in t ∙ rw f
