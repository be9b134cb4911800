-- A bounded table over a row type: a list of places, some of them free.
use Rattle.std.specs.Prelude.{ℕ, ◌≡◌, Bool, true, false, cond, List, [], ◌∷◌, map, ltb, leb, length, get_or, set}
use Rattle.numbers.specs.Tests.{◌and◌, ◌or◌, isnt}
use Rattle.numbers.specs.Search.{first}

-- What a row type says of itself: the zero row, and which rows are free places.
pub record Shape (A : Type 0) : Type 0 where
  pub zero : A
  pub free : A → Bool

module _ {A : Type 0} where
  -- each row, with the rows after it, passes the test
  unfoldable pub all : (A → List A → Bool) → List A → Bool
  all ok [] = true
  all ok (x ∷ t) = ok x t and all ok t

module _ {A : Type 0} (K : Shape A) where
  abbrev pub live : A → Bool
  live x = isnt (K.free x)

  -- a live row that passes the test of a key
  abbrev pub hit : (A → Bool) → A → Bool
  hit k x = live x and k x

  -- ── lookup: the first hit, or the zero row ──
  unfoldable pub find : (A → Bool) → List A → A
  find k t = get_or t (first (hit k) t) K.zero

  unfoldable pub has : (A → Bool) → List A → Bool
  has k t = ltb (first (hit k) t) (length t)

  -- ── room ──
  -- every place is live
  unfoldable pub full : List A → Bool
  full t = leb (length t) (first K.free t)

  -- 15: key absent and every place live
  abbrev pub no_room : (A → Bool) → List A → Bool
  no_room k t = isnt (has k t) and full t

  -- ── changes: a store past the end does nothing ──
  -- insert: at the lowest free place
  unfoldable pub place : A → List A → List A
  place r t = set t (first K.free t) r

  -- where a row goes: over the one that has its key, else to the lowest free place
  unfoldable pub seat : (A → Bool) → List A → ℕ
  seat k t = cond (has k t) (first (hit k) t) (first K.free t)

  -- insert, or overwrite in place
  unfoldable pub put : (A → Bool) → A → List A → List A
  put k r t = set t (seat k t) r

  -- remove every hit, to zero
  abbrev pub cleared : (A → Bool) → A → A
  cleared k x = cond (hit k x) K.zero x

  unfoldable pub wipe : (A → Bool) → List A → List A
  wipe k t = map (cleared k) t

  -- ── a statement of each live row, and the same as a test ──
  pub data Each (P : A → Type 0) : List A → Type 0 where
    none : Each P []
    more : {x : A} {t : List A} → (live x ≡ true → P x) → Each P t → Each P (x ∷ t)

  unfoldable pub each : (A → Bool) → List A → Bool
  each p t = all (λ x later. isnt (live x) or p x) t

  -- ── no key stands twice: `same x y` says that y stands under x's key ──
  pub data Uniq (same : A → A → Bool) : List A → Type 0 where
    none : Uniq same []
    more : {x : A} {t : List A} → (live x ≡ true → has (same x) t ≡ false) → Uniq same t → Uniq same (x ∷ t)

  unfoldable pub uniq : (A → A → Bool) → List A → Bool
  uniq same t = all (λ x later. isnt (live x) or isnt (has (same x) later)) t
