-- What the tests of a word say.
use mathlib.Core.Path.{◌≡◌, refl, sym, ap, ◌∙◌}
use mathlib.Core.Bool.{true, false}
use mathlib.Core.Logic.{◌⊎◌, inl, inr, ⊎_elim, ◌↔◌}
use Prim.Native.Nat.{ℕ, ◌<◌}
use native.Mathlib.Omega.{arith}
use borrow.Author.Tests.{eqb-true, eq-eqb, ne_eqb}
use Rattle.std.specs.Prelude.{Some, None}
use Rattle.numbers.specs.Tests.{isnt}
use Rattle.numbers.specs.Entries.{key_in, guest_in, gpage_in, page_in, left_in, right_in}
use Rattle.numbers.proofs.Bools.{split, cond-true, cond-false, and_l, and_r, and_i, or-e, or-il, or-ir, isnt-i}
use Rattle.tables.specs.Table.{live}
use Rattle.tables.specs.Wants.{W, found, has_key, of_guest, of_gpage, to_page, ends_at, joins, same_entry, same_pair}
use Rattle.tables.proofs.TableLaws.{Same}

-- ── a word that is 0 is free ──
pub zero-free : W.free W.zero ≡ true
zero-free = refl

pub live_pos : (w : ℕ) → 0 < w → live W w ≡ true
live_pos w h = isnt-i (ne_eqb w 0 (λ (e : w ≡ 0). omega arith))

-- ── one field ──
pub has-key-agrees : (k w : ℕ) → has_key k w ≡ true ↔ (k ≡ key_in w)
unfolding has_key
has-key-agrees k w = (eqb-true _ _, eq-eqb _ _)

pub of_guest-agrees : (g w : ℕ) → of_guest g w ≡ true ↔ (g ≡ guest_in w)
unfolding of_guest
of_guest-agrees g w = (eqb-true _ _, eq-eqb _ _)

pub of_gpage-agrees : (v w : ℕ) → of_gpage v w ≡ true ↔ (v ≡ gpage_in w)
unfolding of_gpage
of_gpage-agrees v w = (eqb-true _ _, eq-eqb _ _)

pub to_page-agrees : (p w : ℕ) → to_page p w ≡ true ↔ (p ≡ page_in w)
unfolding to_page
to_page-agrees p w = (eqb-true _ _, eq-eqb _ _)

-- ── pairs ──
pub ends-at-agrees : (g q : ℕ) → ends_at g q ≡ true ↔ ((g ≡ left_in q) ⊎ (g ≡ right_in q))
unfolding ends_at
ends-at-agrees g q = (
  λ e. ⊎_elim (λ h. inl (eqb-true _ _ h)) (λ h. inr (eqb-true _ _ h)) (or-e _ _ e),
  λ h. ⊎_elim (λ e. or-il _ (eq-eqb _ _ e)) (λ e. or-ir _ (eq-eqb _ _ e)) h,
)

-- l and r are the ends of the pair, in one order or the other
abbrev pub Ends : ℕ → ℕ → ℕ → Type 0
Ends l r q = ((l ≡ left_in q) × (r ≡ right_in q)) ⊎ ((l ≡ right_in q) × (r ≡ left_in q))

pub joins-agrees : (l r q : ℕ) → joins l r q ≡ true ↔ Ends l r q
unfolding joins
joins-agrees l r q = (
  λ e. ⊎_elim
      (λ h. inl (eqb-true _ _ (and_l _ _ h), eqb-true _ _ (and_r _ _ h)))
      (λ h. inr (eqb-true _ _ (and_l _ _ h), eqb-true _ _ (and_r _ _ h)))
      (or-e _ _ e),
  λ h. ⊎_elim
      (λ e. or-il _ (and_i (eq-eqb _ _ e.0) (eq-eqb _ _ e.1)))
      (λ e. or-ir _ (and_i (eq-eqb _ _ e.0) (eq-eqb _ _ e.1)))
      h,
)

-- ── rows under one key ──
pub same_entry-is : Same same_entry
same_entry-is = record {
  same_refl = λ x. (has-key-agrees _ x).1 refl;
  same_sym = λ x y e. (has-key-agrees _ x).1 (sym ((has-key-agrees _ y).0 e));
  same_trans = λ x y z e f. (has-key-agrees _ z).1 ((has-key-agrees _ y).0 e ∙ (has-key-agrees _ z).0 f);
}

-- the key of a row is the test of its key
pub key-test : (k w : ℕ) → k ≡ key_in w → (x : ℕ) → same_entry w x ≡ has_key k x
key-test k w e x = ap (λ (n : ℕ). has_key n x) (sym e)

ends-sym : (x y : ℕ) → Ends (left_in x) (right_in x) y → Ends (left_in y) (right_in y) x
ends-sym x y = ⊎_elim (λ h. inl (sym h.0, sym h.1)) (λ h. inr (sym h.1, sym h.0))

ends-trans : (x y z : ℕ) → Ends (left_in x) (right_in x) y → Ends (left_in y) (right_in y) z → Ends (left_in x) (right_in x) z
ends-trans x y z (inl h) (inl k) = inl (h.0 ∙ k.0, h.1 ∙ k.1)
ends-trans x y z (inl h) (inr k) = inr (h.0 ∙ k.0, h.1 ∙ k.1)
ends-trans x y z (inr h) (inl k) = inr (h.0 ∙ k.1, h.1 ∙ k.0)
ends-trans x y z (inr h) (inr k) = inl (h.0 ∙ k.1, h.1 ∙ k.0)

-- y is on the page of x, with its two ends
pub same_pair-agrees : (x y : ℕ) → same_pair x y ≡ true ↔ ((page_in x ≡ page_in y) × Ends (left_in x) (right_in x) y)
same_pair-agrees x y = (
  λ e. ((to_page-agrees _ y).0 (and_l _ _ e), (joins-agrees _ _ y).0 (and_r _ _ e)),
  λ h. and_i ((to_page-agrees _ y).1 h.0) ((joins-agrees _ _ y).1 h.1),
)

pub same_pair-is : Same same_pair
same_pair-is = record {
  same_refl = λ x. (same_pair-agrees x x).1 (refl, inl (refl, refl));
  same_sym = λ x y e. let h = (same_pair-agrees x y).0 e in (same_pair-agrees y x).1 (sym h.0, ends-sym x y h.1);
  same_trans = λ x y z e f.
      let h = (same_pair-agrees x y).0 e in let k = (same_pair-agrees y z).0 f in
      (same_pair-agrees x z).1 (h.0 ∙ k.0, ends-trans x y z h.1 k.1);
}

-- ── what a search by key comes to ──
pub some-found : {w : ℕ} → live W w ≡ true → Some w ≡ found w
some-found e = sym (cond-true e _ _)

pub none-found : None ≡ found 0
unfolding isnt
none-found = refl

-- and back
pub found-some : {w x : ℕ} → Some w ≡ found x → (w ≡ x) × (live W x ≡ true)
found-some {w} {x} e = split (live W x)
    (λ l. let f : Some w ≡ Some x = e ∙ cond-true l _ _ in (cc, l))
    (λ l. let f : Some w ≡ None = e ∙ cond-false l _ _ in absurd (cc))

pub found-none : (x : ℕ) → None ≡ found x → live W x ≡ false
found-none x e = split (live W x)
    (λ l. let f : None ≡ Some x = e ∙ cond-true l _ _ in absurd (cc))
    (λ l. l)
