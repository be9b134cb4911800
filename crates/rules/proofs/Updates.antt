-- What the source's views of a table become when the table changes: at one place, at one key, by one pair.
use mathlib.Core.Path.{◌≡◌, sym, ◌∙◌, ap, subst, fun_ext}
use mathlib.Core.Bool.{Bool, true, false, cond}
use mathlib.Core.List.{List}
use mathlib.Core.Logic.{⊎_elim}
use Prim.Native.Nat.{ℕ, ◌<◌}
use lib.Dec.{eqb}
use lib.ListN.{length, get_or, set}
use lib.Seq.{get_or-set_same, get_or-set_other}
use borrow.Author.Tests.{eqb-true, eq-eqb, eqb-false}
use Rattle.numbers.specs.Tests.{◌and◌}
use Rattle.numbers.specs.Entries.{key_of, pair}
use Rattle.numbers.proofs.Bools.{split, clash, cond-true, cond-false, and_l, and_r, and_i, and-no-r, or-e, or-il, or-ir, isnt-i, not-true}
use Rattle.numbers.proofs.EntryLaws.{pair-live}
use Rattle.tables.specs.Table.{live, hit, has, full, no_room, place, put, wipe}
use Rattle.tables.specs.Wants.{W, has_key, invalidated, shared_by}
use Rattle.tables.specs.State.{guest}
use Rattle.tables.specs.Views.{entry_at}
use Rattle.tables.proofs.TableLaws.{Apart, find_none, find-put-same, find-put-other, find-wipe-other, find-place-same, has-place-other, has-wipe-under, has-wipe-other, live-find}
use Rattle.tables.proofs.WantLaws.{zero-free, live_pos, of_guest-agrees, of_gpage-agrees, to_page-agrees, joins-agrees}
use Rattle.tables.proofs.ViewLaws.{Keyed, guest-is, gpage-is, keyed-or, entry_in, entry-out, turned}
use Rattle.rules.specs.Source.{update, update_key, remove_targets, edge, with_edge}
use Rattle.rules.proofs.Accesses.{by_cond}
use Rattle.rules.proofs.Pairs.{Paired, pair-edge}

-- ── a list at one place ──
pub list-updated : {A : Type 0} (l : List A) (i : ℕ) (x d : A) → i < length l → (λ j. get_or (set l i x) j d) ≡ update i x (λ j. get_or l j d)
list-updated l i x d h = fun_ext (λ j. split (eqb i j)
    (λ e. subst (λ (k : ℕ). get_or (set l i x) k d ≡ x) (eqb-true i j e) (get_or-set_same l i x d h) ∙ sym (cond-true e x (get_or l j d)))
    (λ e. get_or-set_other l i j x d (λ q. eqb-false i j e (sym q)) ∙ sym (cond-false e x (get_or l j d))))

-- a test of what stands there
pub test-updated : {A B : Type 0} (f : A → B) (l : List A) (i : ℕ) (x d : A) → i < length l →
    (λ j. f (get_or (set l i x) j d)) ≡ update i (f x) (λ j. f (get_or l j d))
test-updated f l i x d h = fun_ext (λ j. ap (λ g. f (g j)) (list-updated l i x d h) ∙ by_cond (λ y. f (cond (eqb i j) x (get_or l j d)) ≡ y) (eqb i j) _ _
    (λ e. ap f (cond-true e x (get_or l j d))) (λ e. ap f (cond-false e x (get_or l j d))))

-- who owns what, after place p of a list of holders becomes x: guest g owns p or not, every other guest what it did
pub owned-updated : (l : List ℕ) (p x g : ℕ) (b : Bool) → p < length l → eqb x (guest g) ≡ b →
    ((k : ℕ) → (g ≡ k → ⊥) → eqb x (guest k) ≡ eqb (get_or l p 0) (guest k)) →
    (λ k q. eqb (get_or (set l p x) q 0) (guest k)) ≡ update g (update p b (λ q. eqb (get_or l q 0) (guest g))) (λ k q. eqb (get_or l q 0) (guest k))
owned-updated l p x g b h mine others = fun_ext (λ k. test-updated (λ n. eqb n (guest k)) l p x 0 h ∙ split (eqb g k)
    (λ e. subst (λ (n : ℕ). update p (eqb x (guest n)) (λ q. eqb (get_or l q 0) (guest n)) ≡ update p b (λ q. eqb (get_or l q 0) (guest g)))
    (eqb-true g k e) (ap (λ c. update p c (λ q. eqb (get_or l q 0) (guest g))) mine) ∙ sym (cond-true e _ _))
    (λ e. fun_ext (λ q. split (eqb p q)
    (λ t. cond-true t _ _ ∙ others k (eqb-false g k e) ∙ ap (λ n. eqb (get_or l n 0) (guest k)) (eqb-true p q t))
    (λ t. cond-false t _ _)) ∙ sym (cond-false e _ _)))

-- ── entries under a key ──
-- the same guest and guest page
same_key : (g v h w : ℕ) → (eqb g h and eqb v w) ≡ true → (g ≡ h) × (v ≡ w)
same_key g v h w e = (eqb-true _ _ (and_l _ _ e), eqb-true _ _ (and_r _ _ e))

-- one row stands under one key
key_apart : (u g v t h w : ℕ) → Keyed u g v → Keyed t h w → (eqb g h and eqb v w) ≡ false → Apart (has_key (key_of t h w)) (has_key (key_of u g v))
key_apart u g v t h w k l n x e = not-true _ (λ f. clash (and_i
    (eq-eqb _ _ (sym (guest-is u g v k x f) ∙ guest-is t h w l x e))
    (eq-eqb _ _ (sym (gpage-is u g v k x f) ∙ gpage-is t h w l x e))) n)

pub put-updated : (g v e : ℕ) (t : List ℕ) → Keyed 0 g v → hit W (has_key (key_of 0 g v)) e ≡ true → no_room W (has_key (key_of 0 g v)) t ≡ false →
    (λ h w. entry_at (put W (has_key (key_of 0 g v)) e t) 0 h w) ≡ update_key g v e (λ h w. entry_at t 0 h w)
put-updated g v e t k mine room = fun_ext (λ h. fun_ext (λ w. keyed-or 0 h w
    (λ l. rw (entry_in (put W (has_key (key_of 0 g v)) e t) 0 h w l, entry_in t 0 h w l) (split (eqb g h and eqb v w)
    (λ s. rw (s, ← (same_key g v h w s).0, ← (same_key g v h w s).1) (find-put-same W zero-free _ e t mine room))
    (λ s. rw s (find-put-other W zero-free _ _ e t (and_r _ _ mine) (key_apart 0 g v 0 h w k l s)))))
    (λ n. rw (entry-out (put W (has_key (key_of 0 g v)) e t) 0 h w n, entry-out t 0 h w n) (split (eqb g h and eqb v w)
    (λ s. absurd (n (rw (← (same_key g v h w s).0, ← (same_key g v h w s).1) k)))
    (λ s. rw s)))))

-- rows removed by a test: what stood under a key goes where everything under it passes, and stays where nothing does
module _ (k : ℕ → Bool) (t : List ℕ) (u h w : ℕ) (c : Bool) where
  wiped-at : (c ≡ true → Keyed u h w → (x : ℕ) → has_key (key_of u h w) x ≡ true → k x ≡ true) →
      (c ≡ false → Keyed u h w → Apart (has_key (key_of u h w)) k) → entry_at (wipe W k t) u h w ≡ cond c 0 (entry_at t u h w)
  wiped-at all none = keyed-or u h w
      (λ l. rw (entry_in (wipe W k t) u h w l, entry_in t u h w l) (split c
      (λ s. rw s (find_none W _ (wipe W k t) (has-wipe-under W zero-free _ k t (all s l))))
      (λ s. rw s (find-wipe-other W zero-free _ k t (none s l)))))
      (λ n. rw (entry-out (wipe W k t) u h w n, entry-out t u h w n) (split c (λ s. rw s) (λ s. rw s)))

pub unmap-updated : (g v : ℕ) (t : List ℕ) → Keyed 0 g v →
    (λ h w. entry_at (wipe W (has_key (key_of 0 g v)) t) 0 h w) ≡ update_key g v 0 (λ h w. entry_at t 0 h w)
unmap-updated g v t k = fun_ext (λ h. fun_ext (λ w. wiped-at _ t 0 h w (eqb g h and eqb v w)
    (λ s l x e. rw ((same_key g v h w s).0, (same_key g v h w s).1) e)
    (λ s l. key_apart 0 g v 0 h w k l s)))

pub tlb-updated : (g v : ℕ) (t : List ℕ) → (λ u h w. entry_at (invalidated g v t) u h w) ≡ remove_targets g v (λ u h w. entry_at t u h w)
tlb-updated g v t = fun_ext (λ u. fun_ext (λ h. fun_ext (λ w. wiped-at _ t u h w (eqb g h and eqb v w)
    (λ s l x e. and_i
    ((of_guest-agrees g x).1 ((same_key g v h w s).0 ∙ sym (guest-is u h w l x e)))
    ((of_gpage-agrees v x).1 ((same_key g v h w s).1 ∙ sym (gpage-is u h w l x e))))
    (λ s l x e. not-true _ (λ f. clash (and_i
    (eq-eqb _ _ ((of_guest-agrees g x).0 (and_l _ _ f) ∙ guest-is u h w l x e))
    (eq-eqb _ _ ((of_gpage-agrees v x).0 (and_r _ _ f) ∙ gpage-is u h w l x e))) s)))))

-- ── pairs ──
-- an edge or its reverse is the same pair
edge_same : (l r p x y q : ℕ) (t : List ℕ) → edge l r p x y q ≡ true → has W (shared_by x y q) t ≡ has W (shared_by l r p) t
edge_same l r p x y q t e = rw (eqb-true q p (and_l _ _ e)) (⊎_elim
    (λ (z : (eqb x l and eqb y r) ≡ true). rw (eqb-true x l (and_l _ _ z), eqb-true y r (and_r _ _ z)))
    (λ (z : (eqb x r and eqb y l) ≡ true). rw (eqb-true x r (and_l _ _ z), eqb-true y l (and_r _ _ z)) (turned r l p t))
    (or-e _ _ (and_r _ _ e)))

-- one row is one pair
edge-apart : (l r p x y q : ℕ) → edge l r p x y q ≡ false → Apart (shared_by x y q) (shared_by l r p)
edge-apart l r p x y q n z e = not-true _ (λ f. clash (and_i
    (eq-eqb _ _ ((to_page-agrees q z).0 (and_l _ _ e) ∙ sym ((to_page-agrees p z).0 (and_l _ _ f))))
    (⊎_elim
    (λ a. ⊎_elim
    (λ b. or-il _ (and_i (eq-eqb _ _ (a.0 ∙ sym b.0)) (eq-eqb _ _ (a.1 ∙ sym b.1))))
    (λ b. or-ir _ (and_i (eq-eqb _ _ (a.0 ∙ sym b.1)) (eq-eqb _ _ (a.1 ∙ sym b.0))))
    ((joins-agrees l r z).0 (and_r _ _ f)))
    (λ a. ⊎_elim
    (λ b. or-ir _ (and_i (eq-eqb _ _ (a.0 ∙ sym b.1)) (eq-eqb _ _ (a.1 ∙ sym b.0))))
    (λ b. or-il _ (and_i (eq-eqb _ _ (a.0 ∙ sym b.0)) (eq-eqb _ _ (a.1 ∙ sym b.1))))
    ((joins-agrees l r z).0 (and_r _ _ f)))
    ((joins-agrees x y z).0 (and_r _ _ e)))) n)

module _ (l r p : ℕ) (t : List ℕ) where
  pub unshare-updated : (λ x y q. has W (shared_by x y q) (wipe W (shared_by l r p) t)) ≡ with_edge l r p false (λ x y q. has W (shared_by x y q) t)
  unshare-updated = fun_ext (λ x. fun_ext (λ y. fun_ext (λ q. split (edge l r p x y q)
      (λ e. rw e (edge_same l r p x y q (wipe W (shared_by l r p) t) e ∙ has-wipe-under W zero-free _ _ t (λ z f. f)))
      (λ e. rw e (has-wipe-other W zero-free _ _ t (edge-apart l r p x y q e))))))

  -- a standing pair
  standing : has W (shared_by l r p) t ≡ true → (λ x y q. has W (shared_by x y q) t) ≡ with_edge l r p true (λ x y q. has W (shared_by x y q) t)
  standing h = fun_ext (λ x. fun_ext (λ y. fun_ext (λ q. split (edge l r p x y q) (λ e. rw e (edge_same l r p x y q t e ∙ h)) (λ e. rw e))))

  -- a new one
  placed : Paired l r p → has W (shared_by l r p) t ≡ false → full W t ≡ false →
      (λ x y q. has W (shared_by x y q) (place W (pair l r p 0) t)) ≡ with_edge l r p true (λ x y q. has W (shared_by x y q) t)
  placed k n room = fun_ext (λ x. fun_ext (λ y. fun_ext (λ q. split (edge l r p x y q)
      (λ e. rw e (sym (live-find W zero-free _ (place W (pair l r p 0) t)) ∙ ap (live W) (find-place-same W zero-free _ (pair l r p 0) t
      (and_i new (pair-edge l r p k x y q ∙ e)) (edge_same l r p x y q t e ∙ n) room) ∙ new))
      (λ e. rw e (has-place-other W zero-free _ (pair l r p 0) t (and-no-r _ (pair-edge l r p k x y q ∙ e)))))))
    where
      new : live W (pair l r p 0) ≡ true
      new = live_pos _ (pair-live l r p 0)

  pub share-updated : Paired l r p → no_room W (shared_by l r p) t ≡ false →
      (λ x y q. has W (shared_by x y q) (cond (has W (shared_by l r p) t) t (place W (pair l r p 0) t))) ≡
      with_edge l r p true (λ x y q. has W (shared_by x y q) t)
  share-updated k room = split (has W (shared_by l r p) t)
      (λ e. rw e (standing e))
      (λ e. rw e (placed k e (not-true _ (λ f. clash (and_i (isnt-i e) f) room))))
