-- The laws of the bounded table, over any row type and any test of a key.
use mathlib.Core.Path.{◌≡◌, refl, sym, ◌∙◌, ap, subst}
use mathlib.Core.Bool.{Bool, true, false}
use mathlib.Core.List.{List, [], ◌∷◌, map, append-nil}
use mathlib.Core.Logic.{◌↔◌}
use Prim.Native.Nat.{ℕ, zero, suc, ◌+◌, ◌≤◌, ◌<◌}
use native.Mathlib.Numerals.{add-one}
use native.Mathlib.Omega.{arith}
use lib.Dec.{ltb, leb, leb-suc-suc}
use lib.ListN.{length, get_or, set, length-set, length-map, get_or-eq_default, get_or-map, drop_of_length-le}
use lib.Seq.{take_all}
use borrow.Author.Tests.{lt-ltb, le-ltb, ltb-true, ltb-false, leb-false, lt-leb}
use Rattle.numbers.specs.Search.{first}
use Rattle.numbers.specs.Tests.{◌and◌, isnt}
use Rattle.numbers.proofs.Bools.{split, clash, not-true, not-false, bool-ext, and_l, and_r, and_i, and-no-l, and-no-r, isnt-true, isnt-i, isnt-no, implies, implied}
use Rattle.numbers.proofs.SearchLaws.{first-hit, first-skip, first_passes, first-lowest}
use Rattle.tables.specs.Table.{Shape, all, live, hit, find, has, full, no_room, place, seat, put, cleared, wipe, Each, each, Uniq, uniq}
use Rattle.tables.specs.Steps.{wipe_from}

-- To stand under one key is an equivalence.
pub record Same {A : Type 0} (s : A → A → Bool) : Type 0 where
  pub same_refl : (x : A) → s x x ≡ true
  pub same_sym : (x y : A) → s x y ≡ true → s y x ≡ true
  pub same_trans : (x y z : A) → s x y ≡ true → s y z ≡ true → s x z ≡ true

-- No row passes both tests.
abbrev pub Apart : {A : Type 0} → (A → Bool) → (A → Bool) → Type 0
Apart {A} j k = (x : A) → j x ≡ true → k x ≡ false

module _ {A : Type 0} (K : Shape A) where
  -- ── a step of each definition ──
  pub find-hit : (k : A → Bool) (x : A) (t : List A) → hit K k x ≡ true → find K k (x ∷ t) ≡ x
  unfolding find
  find-hit k x t e = rw (first-hit (hit K k) x t e)

  pub find-skip : (k : A → Bool) (x : A) (t : List A) → hit K k x ≡ false → find K k (x ∷ t) ≡ find K k t
  unfolding find
  find-skip k x t e = rw (first-skip (hit K k) x t e)

  pub has-nil : (k : A → Bool) → has K k [] ≡ false
  unfolding has first
  has-nil k = refl

  pub has-hit : (k : A → Bool) (x : A) (t : List A) → hit K k x ≡ true → has K k (x ∷ t) ≡ true
  unfolding has
  has-hit k x t e = rw (first-hit (hit K k) x t e) (lt-ltb 0 (suc (length t)) (omega arith))

  pub has-skip : (k : A → Bool) (x : A) (t : List A) → hit K k x ≡ false → has K k (x ∷ t) ≡ has K k t
  unfolding has
  has-skip k x t e = rw (first-skip (hit K k) x t e) (leb-suc-suc (suc (first (hit K k) t)) (length t))

  has-lt : (k : A → Bool) (t : List A) → has K k t ≡ true → first (hit K k) t < length t
  unfolding has
  has-lt k t h = ltb-true _ _ h

  free-skip : (k : A → Bool) {x : A} → K.free x ≡ true → hit K k x ≡ false
  free-skip k e = and-no-l _ (isnt-no e)

  -- a live row that is no hit does not pass
  no_hit : (k : A → Bool) {x : A} → live K x ≡ true → hit K k x ≡ false → k x ≡ false
  no_hit k l e = not-true _ (λ p. clash (and_i l p) e)

  -- ── where a lookup ends ──
  pub find_at : (k : A → Bool) (t : List A) (i : ℕ) → first (hit K k) t ≡ i → find K k t ≡ get_or t i K.zero
  unfolding find
  find_at k t i e = rw e

  pub find_none : (k : A → Bool) (t : List A) → has K k t ≡ false → find K k t ≡ K.zero
  unfolding find has
  find_none k t e = get_or-eq_default t K.zero (ltb-false _ _ e)

  pub find-passes : (k : A → Bool) (t : List A) → has K k t ≡ true → hit K k (find K k t) ≡ true
  unfolding find has
  find-passes k t e = first_passes (hit K k) t K.zero (ltb-true _ _ e)

  -- ── lengths ──
  pub length-put : (k : A → Bool) (r : A) (t : List A) → length (put K k r t) ≡ length t
  unfolding put
  length-put k r t = length-set t _ r

  pub length-place : (r : A) (t : List A) → length (place K r t) ≡ length t
  unfolding place
  length-place r t = length-set t _ r

  pub length-wipe : (k : A → Bool) (t : List A) → length (wipe K k t) ≡ length t
  unfolding wipe
  length-wipe k t = length-map t (cleared K k)

  -- ── statements of each live row ──
  pub each_all : {P : A → Type 0} (t : List A) → ((x : A) → live K x ≡ true → P x) → Each K P t
  each_all [] f = Each.none
  each_all (x ∷ t) f = Each.more (f x) (each_all t f)

  pub each_map : {P Q : A → Type 0} {t : List A} → ((x : A) → live K x ≡ true → P x → Q x) → Each K P t → Each K Q t
  each_map f Each.none = Each.none
  each_map f (Each.more {x} p q) = Each.more (λ l. f x l (p l)) (each_map f q)

  -- two statements at once
  pub each_both : {P Q : A → Type 0} {t : List A} → Each K P t → Each K Q t → Each K (λ x. P x × Q x) t
  each_both {t = []} p q = Each.none
  each_both {t = x ∷ t} (Each.more p ps) (Each.more q qs) = Each.more (λ l. (p l, q l)) (each_both ps qs)

  pub each_set : {P : A → Type 0} (i : ℕ) (r : A) {t : List A} → (live K r ≡ true → P r) → Each K P t → Each K P (set t i r)
  each_set i r f Each.none = Each.none
  each_set zero r f (Each.more p q) = Each.more f q
  each_set (suc i) r f (Each.more p q) = Each.more p (each_set i r f q)

  pub each-put : {P : A → Type 0} (k : A → Bool) (r : A) {t : List A} → P r → Each K P t → Each K P (put K k r t)
  unfolding put
  each-put k r h p = each_set _ r (λ l. h) p

  pub each-place : {P : A → Type 0} (r : A) {t : List A} → P r → Each K P t → Each K P (place K r t)
  unfolding place
  each-place r h p = each_set _ r (λ l. h) p

  pub each-find : {P : A → Type 0} (k : A → Bool) {t : List A} → Each K P t → has K k t ≡ true → P (find K k t)
  each-find k Each.none h = clash h (has-nil k)
  each-find k (Each.more {x} {t} p q) h = split (hit K k x)
      (λ e. rw (find-hit k x t e) (p (and_l _ _ e)))
      (λ e. rw (find-skip k x t e) (each-find k q (sym (has-skip k x t e) ∙ h)))

  -- nothing is found exactly where no live row passes
  pub none_each : (k : A → Bool) (t : List A) → has K k t ≡ false → Each K (λ x. k x ≡ false) t
  none_each k [] h = Each.none
  none_each k (x ∷ t) h = split (hit K k x)
      (λ e. clash (has-hit k x t e) h)
      (λ e. Each.more (λ l. no_hit k l e) (none_each k t (sym (has-skip k x t e) ∙ h)))

  pub each_none : (k : A → Bool) {t : List A} → Each K (λ x. k x ≡ false) t → has K k t ≡ false
  each_none k Each.none = has-nil k
  each_none k (Each.more {x} {t} p q) = split (hit K k x)
      (λ e. clash (and_r _ _ e) (p (and_l _ _ e)))
      (λ e. has-skip k x t e ∙ each_none k q)

  -- what one test finds, another that it passes finds too
  pub has-also : (j k : A → Bool) (t : List A) → has K j t ≡ true → k (find K j t) ≡ true → has K k t ≡ true
  has-also j k t h e = not-false _ (λ n. clash e (each-find j (none_each k t n) h))

  -- tests that agree on live rows find the same
  hit-ext : (j k : A → Bool) (x : A) → (live K x ≡ true → j x ≡ k x) → hit K j x ≡ hit K k x
  hit-ext j k x f = split (live K x) (λ l. rw (f l)) (λ l. and-no-l _ l ∙ sym (and-no-l _ l))

  first-ext : (j k : A → Bool) {t : List A} → Each K (λ x. j x ≡ k x) t → first (hit K j) t ≡ first (hit K k) t
  unfolding first
  first-ext j k Each.none = refl
  first-ext j k (Each.more {x} {t} p q) = rw (hit-ext j k x p, first-ext j k q)

  pub find-ext : (j k : A → Bool) {t : List A} → Each K (λ x. j x ≡ k x) t → find K j t ≡ find K k t
  unfolding find
  find-ext j k p = rw (first-ext j k p)

  pub has-ext : (j k : A → Bool) {t : List A} → Each K (λ x. j x ≡ k x) t → has K j t ≡ has K k t
  unfolding has
  has-ext j k p = rw (first-ext j k p)

  -- ── the tests that compute say what the statements say ──
  pub each-agrees : (p : A → Bool) (t : List A) → each K p t ≡ true ↔ Each K (λ x. p x ≡ true) t
  unfolding each all
  each-agrees p [] = (λ e. Each.none, λ u. refl)
  each-agrees p (x ∷ t) = (
    λ e. Each.more (λ l. implies _ _ (and_l _ _ e) l) ((each-agrees p t).0 (and_r _ _ e)),
    elim [ Each.more h u ↦ and_i (implied _ _ h) ((each-agrees p t).1 u) ],
  )

  pub uniq-agrees : (s : A → A → Bool) (t : List A) → uniq K s t ≡ true ↔ Uniq K s t
  unfolding uniq all
  uniq-agrees s [] = (λ e. Uniq.none, λ u. refl)
  uniq-agrees s (x ∷ t) = (
    λ e. Uniq.more (λ l. isnt-true _ (implies _ _ (and_l _ _ e) l)) ((uniq-agrees s t).0 (and_r _ _ e)),
    elim [ Uniq.more h u ↦ and_i (implied _ _ (λ l. isnt-i (h l))) ((uniq-agrees s t).1 u) ],
  )

  -- ── a row stored at a place: what other tests find ──
  module _ (j : A → Bool) (r : A) (off : hit K j r ≡ false) where
    pub find-set-other : (t : List A) (i : ℕ) → hit K j (get_or t i K.zero) ≡ false → find K j (set t i r) ≡ find K j t
    find-set-other [] i e = refl
    find-set-other (x ∷ t) zero e = find-skip j r t off ∙ sym (find-skip j x t e)
    find-set-other (x ∷ t) (suc i) e = split (hit K j x)
        (λ h. find-hit j x (set t i r) h ∙ sym (find-hit j x t h))
        (λ h. find-skip j x (set t i r) h ∙ find-set-other t i e ∙ sym (find-skip j x t h))

    pub none-set : (t : List A) (i : ℕ) → has K j t ≡ false → has K j (set t i r) ≡ false
    none-set t i h = each_none j (each_set i r (λ l. no_hit j l off) (none_each j t h))

  -- ── and what its own test finds: the row, where no hit stands before it ──
  pub find-set-same : (k : A → Bool) (r : A) (t : List A) (i : ℕ) → hit K k r ≡ true → i < length t → i ≤ first (hit K k) t →
      find K k (set t i r) ≡ r
  find-set-same k r [] i on l f = absurd (omega arith)
  find-set-same k r (x ∷ t) zero on l f = find-hit k r t on
  find-set-same k r (x ∷ t) (suc i) on l f = split (hit K k x)
      (λ h. let z : first (hit K k) (x ∷ t) ≡ 0 = first-hit (hit K k) x t h in absurd (omega arith))
      (λ h.
      let z : first (hit K k) (x ∷ t) ≡ suc (first (hit K k) t) = first-skip (hit K k) x t h in
      find-skip k x (set t i r) h ∙ find-set-same k r t i on (omega arith) (omega arith))

  -- a row put over a free place hides nothing
  pub has-set-free : (k : A → Bool) (r : A) (t : List A) (i : ℕ) → K.free (get_or t i K.zero) ≡ true → has K k t ≡ true →
      has K k (set t i r) ≡ true
  has-set-free k r [] i e h = h
  has-set-free k r (x ∷ t) zero e h = split (hit K k r)
      (λ o. has-hit k r t o)
      (λ o. has-skip k r t o ∙ sym (has-skip k x t (free-skip k e)) ∙ h)
  has-set-free k r (x ∷ t) (suc i) e h = split (hit K k x)
      (λ o. has-hit k x (set t i r) o)
      (λ o. has-skip k x (set t i r) o ∙ has-set-free k r t i e (sym (has-skip k x t o) ∙ h))

  -- ── where a row goes, and whether there is room for it ──
  seat-hit : (k : A → Bool) (t : List A) → has K k t ≡ true → seat K k t ≡ first (hit K k) t
  unfolding seat
  seat-hit k t h = rw h

  seat-free : (k : A → Bool) (t : List A) → has K k t ≡ false → seat K k t ≡ first K.free t
  unfolding seat
  seat-free k t h = rw h

  -- as a search finds it: the place of a hit, or else the lowest free one
  pub seat-there : (k : A → Bool) (t : List A) {i : ℕ} → i ≡ first (hit K k) t → i < length t → i ≡ seat K k t
  unfolding has
  seat-there k t e l = e ∙ sym (seat-hit k t (lt-ltb _ _ (omega arith)))

  pub seat-new : (k : A → Bool) (t : List A) → length t ≤ first (hit K k) t → seat K k t ≡ first K.free t
  unfolding has
  seat-new k t l = seat-free k t (le-ltb _ _ l)

  pub no-room-seat : (k : A → Bool) (t : List A) → no_room K k t ≡ leb (length t) (seat K k t)
  unfolding full ◌and◌ isnt
  no-room-seat k t = split (has K k t)
      (λ h. rw (h, seat-hit k t h) (sym (lt-leb _ _ (has-lt k t h))))
      (λ h. rw (h, seat-free k t h))

  -- ── rows removed from a place on ──
  pub wipe_from-first : (k : A → Bool) (t : List A) → wipe_from K k (first (hit K k) t) t ≡ wipe K k t
  unfolding wipe_from wipe first
  wipe_from-first k [] = refl
  wipe_from-first k (x ∷ t) = split (hit K k x)
      (λ e. rw (first-hit (hit K k) x t e))
      (λ e. rw e (ap {B = List A} (λ r. x ∷ r) (wipe_from-first k t)))

  -- what a loop that frees from the front has left to do
  wipe-next : (k : A → Bool) (t : List A) (i : ℕ) (d : A) → i < length t → wipe_from K k (suc i) (set t i (cleared K k (get_or t i d))) ≡ wipe_from K k i t
  unfolding wipe_from wipe
  wipe-next k [] i d h = absurd (omega arith)
  wipe-next k (x ∷ t) zero d h = refl
  wipe-next k (x ∷ t) (suc i) d h = ap {B = List A} (λ r. x ∷ r) (wipe-next k t i d (omega arith))

  pub wipe_from-more : (k : A → Bool) (t : List A) (i : ℕ) (d v : A) → i < length t → v ≡ cleared K k (get_or t i d) →
      wipe_from K k (i + 1) (set t i v) ≡ wipe_from K k i t
  wipe_from-more k t i d v h e = rw (add-one, e) (wipe-next k t i d h)

  pub wipe_from-end : (k : A → Bool) (t : List A) (i : ℕ) → length t ≤ i → wipe_from K k i t ≡ t
  unfolding wipe_from wipe
  wipe_from-end k t i h = rw (take_all i t h, drop_of_length-le t h) (append-nil t)

  module _ (dead : K.free K.zero ≡ true) where
    -- a lookup finds a live row exactly where there is one
    pub live-find : (k : A → Bool) (t : List A) → live K (find K k t) ≡ has K k t
    live-find k t = split (has K k t)
        (λ h. and_l _ _ (find-passes k t h) ∙ sym h)
        (λ h. rw (find_none k t h) (isnt-no dead) ∙ sym h)

    -- ── the lowest free place ──
    pub free-first : (t : List A) → K.free (get_or t (first K.free t) K.zero) ≡ true
    free-first t = split (ltb (first K.free t) (length t))
        (λ h. first_passes K.free t K.zero (ltb-true _ _ h))
        (λ h. rw (get_or-eq_default t K.zero (ltb-false _ _ h)) dead)

    -- ── a new row ──
    pub find-place-other : (j : A → Bool) (r : A) (t : List A) → hit K j r ≡ false → find K j (place K r t) ≡ find K j t
    unfolding place
    find-place-other j r t off = find-set-other j r off t _ (free-skip j (free-first t))

    pub has-place-other : (j : A → Bool) (r : A) (t : List A) → hit K j r ≡ false → has K j (place K r t) ≡ has K j t
    has-place-other j r t off = sym (live-find j (place K r t)) ∙ ap (live K) (find-place-other j r t off) ∙ live-find j t

    pub find-place-same : (k : A → Bool) (r : A) (t : List A) → hit K k r ≡ true → has K k t ≡ false → full K t ≡ false →
        find K k (place K r t) ≡ r
    unfolding place has full
    find-place-same k r t on n f =
        let a : length t ≤ first (hit K k) t = ltb-false _ _ n in
        let b : first K.free t < length t = leb-false _ _ f in
        find-set-same k r t _ on b (omega arith)

    pub has-place : (k : A → Bool) (r : A) (t : List A) → has K k t ≡ true → has K k (place K r t) ≡ true
    unfolding place
    has-place k r t h = has-set-free k r t _ (free-first t) h

    -- ── a row put under its key ──
    -- an overwritten row stays where it was, a new one takes the lowest free place
    pub put-over : (k : A → Bool) (r : A) (t : List A) → has K k t ≡ true → put K k r t ≡ set t (first (hit K k) t) r
    unfolding put
    put-over k r t h = rw (seat-hit k t h)

    pub put-new : (k : A → Bool) (r : A) (t : List A) → has K k t ≡ false → put K k r t ≡ place K r t
    unfolding put place
    put-new k r t h = rw (seat-free k t h)

    pub find-put-other : (j k : A → Bool) (r : A) (t : List A) → k r ≡ true → Apart j k → find K j (put K k r t) ≡ find K j t
    unfolding find
    find-put-other j k r t mine apart = split (has K k t)
        (λ h. rw (put-over k r t h) (find-set-other j r off t _ (and-no-r _ (not-true _ (λ e. clash (and_r _ _ (find-passes k t h)) (apart _ e))))))
        (λ h. rw (put-new k r t h) (find-place-other j r t off))
      where
        off : hit K j r ≡ false
        off = and-no-r _ (not-true _ (λ e. clash mine (apart r e)))

    pub find-put-same : (k : A → Bool) (r : A) (t : List A) → hit K k r ≡ true → no_room K k t ≡ false → find K k (put K k r t) ≡ r
    unfolding has
    find-put-same k r t on room = split (has K k t)
        (λ h. rw (put-over k r t h) (find-set-same k r t _ on (ltb-true _ _ h) (omega arith)))
        (λ h. rw (put-new k r t h) (find-place-same k r t on h (not-true _ (λ f. clash (and_i (isnt-i h) f) room))))

    -- ── rows removed ──
    cleared-hit : (k : A → Bool) (x : A) → hit K k x ≡ true → cleared K k x ≡ K.zero
    cleared-hit k x e = rw e

    cleared-skip : (k : A → Bool) (x : A) → hit K k x ≡ false → cleared K k x ≡ x
    cleared-skip k x e = rw e

    pub each-wipe : {P : A → Type 0} (k : A → Bool) {t : List A} → Each K P t → Each K (λ x. P x × (k x ≡ false)) (wipe K k t)
    unfolding wipe
    each-wipe k Each.none = Each.none
    each-wipe {P} k (Each.more {x} {t} p q) = split (hit K k x)
        (λ e. rw e (Each.more (λ l. clash l (isnt-no dead)) (each-wipe k q)))
        (λ e. rw e (Each.more (λ l. (p l, no_hit k l e)) (each-wipe k q)))

    -- what passed is gone, and with it whatever only finds what passed
    pub has-wipe-under : (j k : A → Bool) (t : List A) → ((x : A) → j x ≡ true → k x ≡ true) → has K j (wipe K k t) ≡ false
    has-wipe-under j k t under = each_none j (each_map (λ x l p. not-true _ (λ e. clash (under x e) p.1))
        (each-wipe {P = λ x. Unit {0}} k (each_all t (λ x l. tt))))

    pub has-wipe-same : (k : A → Bool) (t : List A) → has K k (wipe K k t) ≡ false
    has-wipe-same k t = has-wipe-under k k t (λ x e. e)

    -- and nothing else
    pub find-wipe-other : (j k : A → Bool) (t : List A) → Apart j k → find K j (wipe K k t) ≡ find K j t
    unfolding wipe
    find-wipe-other j k [] apart = refl
    find-wipe-other j k (x ∷ t) apart = split (hit K k x)
        (λ e. rw e (find-skip j K.zero (wipe K k t) (free-skip j dead) ∙ find-wipe-other j k t apart
        ∙ sym (find-skip j x t (and-no-r _ (not-true _ (λ h. clash (and_r _ _ e) (apart x h)))))))
        (λ e. rw e (split (hit K j x)
        (λ h. find-hit j x (wipe K k t) h ∙ sym (find-hit j x t h))
        (λ h. find-skip j x (wipe K k t) h ∙ find-wipe-other j k t apart ∙ sym (find-skip j x t h))))

    pub has-wipe-other : (j k : A → Bool) (t : List A) → Apart j k → has K j (wipe K k t) ≡ has K j t
    has-wipe-other j k t apart = sym (live-find j (wipe K k t)) ∙ ap (live K) (find-wipe-other j k t apart) ∙ live-find j t

    pub none-wipe : (j k : A → Bool) (t : List A) → has K j t ≡ false → has K j (wipe K k t) ≡ false
    none-wipe j k t h = each_none j (each_map (λ x l p. p.0) (each-wipe k (none_each j t h)))

    -- each place by itself: a freed one is zero, any other as it was
    pub wipe-at : (k : A → Bool) (t : List A) (i : ℕ) → get_or (wipe K k t) i K.zero ≡ cleared K k (get_or t i K.zero)
    unfolding wipe
    wipe-at k t i = subst (λ (d : A). get_or (map (cleared K k) t) i d ≡ cleared K k (get_or t i K.zero))
        (cleared-skip k K.zero (free-skip k dead)) (get_or-map (cleared K k) t i K.zero)

    -- and it is room
    pub room-wipe : (k : A → Bool) (t : List A) → has K k t ≡ true → full K (wipe K k t) ≡ false
    unfolding full has find
    room-wipe k t h =
        let l : first (hit K k) t < length t = ltb-true _ _ h in
        let w : length (wipe K k t) ≡ length t = length-wipe k t in
        let f : first K.free (wipe K k t) ≤ first (hit K k) t = first-lowest K.free (wipe K k t) K.zero _ (omega arith)
        (rw (wipe-at k t (first (hit K k) t), cleared-hit k _ (find-passes k t h)) dead) in
        lt-leb (length (wipe K k t)) (first K.free (wipe K k t)) (omega arith)

    -- ── no key stands twice ──
    module _ {s : A → A → Bool} (S : Same s) where
      pub uniq-wipe : (k : A → Bool) {t : List A} → Uniq K s t → Uniq K s (wipe K k t)
      unfolding wipe
      uniq-wipe k Uniq.none = Uniq.none
      uniq-wipe k (Uniq.more {x} {t} p q) = split (hit K k x)
          (λ e. rw e (Uniq.more (λ l. clash l (isnt-no dead)) (uniq-wipe k q)))
          (λ e. rw e (Uniq.more (λ l. none-wipe (s x) k t (p l)) (uniq-wipe k q)))

      same-off : (x y : A) → s x y ≡ false → s y x ≡ false
      same-off x y e = not-true _ (λ h. clash (S.same_sym y x h) e)

      -- a row stored where no like of it stands elsewhere
      uniq-set : (r : A) (i : ℕ) {t : List A} → has K (s r) (set t i K.zero) ≡ false → Uniq K s t → Uniq K s (set t i r)
      uniq-set r i n Uniq.none = Uniq.none
      uniq-set r zero n (Uniq.more {x} {t} p q) = Uniq.more (λ l. sym (has-skip (s r) K.zero t (free-skip (s r) dead)) ∙ n) q
      uniq-set r (suc i) n (Uniq.more {x} {t} p q) = split (hit K (s r) x)
          (λ e. clash (has-hit (s r) x (set t i K.zero) e) n)
          (λ e. Uniq.more
          (λ l. none-set (s x) r (and-no-r _ (same-off r x (no_hit (s r) l e))) t i (p l))
          (uniq-set r i (sym (has-skip (s r) x (set t i K.zero) e) ∙ n) q))

      -- the first like of r is the only one
      only : (r : A) {t : List A} → Uniq K s t → has K (s r) (set t (first (hit K (s r)) t) K.zero) ≡ false
      only r Uniq.none = has-nil (s r)
      only r (Uniq.more {x} {t} p q) = split (hit K (s r) x)
          (λ e. rw (first-hit (hit K (s r)) x t e) (has-skip (s r) K.zero t (free-skip (s r) dead)
          ∙ has-ext (s r) (s x) (each_all t (λ y l. bool-ext _ _ (S.same_trans x r y (S.same_sym r x (and_r _ _ e))) (S.same_trans r x y (and_r _ _ e))))
          ∙ p (and_l _ _ e)))
          (λ e. rw (first-skip (hit K (s r)) x t e) (has-skip (s r) x _ e ∙ only r q))

      -- where no key stands twice, what any test finds is what is found under its own key
      pub find-own : (j : A → Bool) {t : List A} → Uniq K s t → has K j t ≡ true → find K (s (find K j t)) t ≡ find K j t
      find-own j Uniq.none h = clash h (has-nil j)
      find-own j (Uniq.more {x} {t} p q) h = split (hit K j x)
          (λ e. rw (find-hit j x t e) (find-hit (s x) x t (and_i (and_l _ _ e) (S.same_refl x))))
          (λ e.
          let there : has K j t ≡ true = sym (has-skip j x t e) ∙ h in
          rw (find-skip j x t e) (find-skip (s (find K j t)) x t (not-true _ (λ o. clash
          (has-also j (s x) t there (S.same_sym _ x (and_r _ _ o))) (p (and_l _ _ o)))) ∙ find-own j q there))

      pub uniq-place : (r : A) {t : List A} → has K (s r) t ≡ false → Uniq K s t → Uniq K s (place K r t)
      unfolding place
      uniq-place r {t} n u = uniq-set r _ (none-set (s r) K.zero (free-skip (s r) dead) t _ n) u

      -- k is the test of r's key
      pub uniq-put : (k : A → Bool) (r : A) {t : List A} → ((x : A) → s r x ≡ k x) → Uniq K s t → Uniq K s (put K k r t)
      uniq-put k r {t} f u = subst (λ (j : A → Bool). Uniq K s (put K j r t)) (λ i x. f x i) (split (has K (s r) t)
          (λ h. rw (put-over (s r) r t h) (uniq-set r _ (only r u) u))
          (λ h. rw (put-new (s r) r t h) (uniq-place r h u)))
