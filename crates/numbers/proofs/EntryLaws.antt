-- Entries and pairs as words: what is put into a word comes out of it again, and the other way round.
use mathlib.Core.Path.{◌≡◌, ap, ◌∙◌}
use Prim.Native.Nat.{ℕ, ◌+◌, ◌*◌, ◌/◌, ◌%◌, ◌<◌}
use native.Mathlib.Nat.{mod-eq_of_lt, div-eq_of_lt, add-mul-mod_self_left, add-mul-div_left, zero-add}
use native.Mathlib.Omega.{arith}
use Rattle.numbers.specs.Sizes.{guests, units, pages, gpages, accesses, access_span, page_span, gpage_span, guest_span, unit_span}
use Rattle.numbers.specs.Entries.{key_of, entry, access_in, page_in, key_in, gpage_in, guest_in, tag_in, unit_in, at_unit, pair, right_in, left_in, pair_tag_in}

-- ── a digit x below n, and the rest above it ──
low : {n : ℕ} (x y : ℕ) → x < n → (x + n * y) % n ≡ x
low {n} x y h = add-mul-mod_self_left x n y ∙ mod-eq_of_lt h

high : {n : ℕ} (x y : ℕ) → x < n → (x + n * y) / n ≡ y
high {n} x y h = add-mul-div_left x y (omega arith) ∙ ap (λ (k : ℕ). k + y) (div-eq_of_lt h) ∙ zero-add y

-- ── fields are below their spans, and so are numbers in range ──
pub record InSpan (w : ℕ) : Type 0 where
  pub access : access_in w < access_span
  pub page : page_in w < page_span
  pub gpage : gpage_in w < gpage_span
  pub guest : guest_in w < guest_span
  pub unit : unit_in w < unit_span
  pub left : left_in w < guest_span
  pub right : right_in w < guest_span

pub in_span : (w : ℕ) → InSpan w
unfolding access_in page_in gpage_in guest_in unit_in left_in right_in access_span page_span gpage_span guest_span unit_span
in_span w = omega arith

pub record CountsFit : Type 0 where
  pub access : (x : ℕ) → x < accesses → x < access_span
  pub page : (p : ℕ) → p < pages → p < page_span
  pub gpage : (v : ℕ) → v < gpages → v < gpage_span
  pub guest : (g : ℕ) → g < guests → g < guest_span
  pub unit : (u : ℕ) → u < units → u < unit_span

pub counts-fit : CountsFit
unfolding accesses pages gpages guests units access_span page_span gpage_span guest_span unit_span
counts-fit = omega arith

-- ── a key, of a guest and a guest page that fit ──
module _ (u g v : ℕ) (hg : g < guest_span) (hv : v < gpage_span) where
  key-gpage : key_of u g v % gpage_span ≡ v
  unfolding key_of
  key-gpage = low v _ hv

  key-guest : key_of u g v / gpage_span % guest_span ≡ g
  unfolding key_of
  key-guest = rw (high v (g + guest_span * (u + unit_span)) hv) (low g _ hg)

  key-top : key_of u g v / gpage_span / guest_span ≡ u + unit_span
  unfolding key_of
  key-top = rw (high v (g + guest_span * (u + unit_span)) hv) (high g _ hg)

-- ── an entry whose numbers fit ──
module _ (u g v p x : ℕ) (hp : p < page_span) (hx : x < access_span) where
  pub access-entry : access_in (entry u g v p x) ≡ x
  unfolding access_in entry
  access-entry = low x _ hx

  pub page-entry : page_in (entry u g v p x) ≡ p
  unfolding page_in entry
  page-entry = rw (high x (p + page_span * key_of u g v) hx) (low p _ hp)

  pub key-entry : key_in (entry u g v p x) ≡ key_of u g v
  unfolding key_in entry
  key-entry = rw (high x (p + page_span * key_of u g v) hx) (high p _ hp)

-- ── what stands under a key ──
module _ (u g v w : ℕ) (hg : g < guest_span) (hv : v < gpage_span) (k : key_in w ≡ key_of u g v) where
  pub gpage-under : gpage_in w ≡ v
  unfolding gpage_in
  gpage-under = rw k (key-gpage u g v hg hv)

  pub guest-under : guest_in w ≡ g
  unfolding guest_in
  guest-under = rw k (key-guest u g v hg hv)

  pub unit-under : u < unit_span → unit_in w ≡ u
  unfolding unit_in unit_span
  unit-under h = rw (k, key-top u g v hg hv) (omega arith)

  pub tag-under : u < unit_span → tag_in w ≡ 1
  unfolding tag_in unit_span
  tag-under h = rw (k, key-top u g v hg hv) (omega arith)

-- ── the key and the whole word, out of its fields ──
pub key-own : (w : ℕ) → tag_in w ≡ 1 → key_in w ≡ key_of (unit_in w) (guest_in w) (gpage_in w)
unfolding key_of unit_in guest_in gpage_in tag_in gpage_span guest_span unit_span
key-own w t = omega arith

pub entry-own : (w : ℕ) → tag_in w ≡ 1 → entry (unit_in w) (guest_in w) (gpage_in w) (page_in w) (access_in w) ≡ w
unfolding entry page_in access_in access_span page_span key_in
entry-own w t = let k : key_in w ≡ key_of (unit_in w) (guest_in w) (gpage_in w) = key-own w t in omega arith

-- ── the same entry at another unit ──
module _ (u w : ℕ) where
  pub access-at-unit : access_in (at_unit u w) ≡ access_in w
  unfolding at_unit
  access-at-unit = access-entry u _ _ _ _ (in_span w).page (in_span w).access

  pub page-at-unit : page_in (at_unit u w) ≡ page_in w
  unfolding at_unit
  page-at-unit = page-entry u _ _ _ _ (in_span w).page (in_span w).access

  pub key-at-unit : key_in (at_unit u w) ≡ key_of u (guest_in w) (gpage_in w)
  unfolding at_unit
  key-at-unit = key-entry u _ _ _ _ (in_span w).page (in_span w).access

  pub gpage-at-unit : gpage_in (at_unit u w) ≡ gpage_in w
  gpage-at-unit = gpage-under u _ _ (at_unit u w) (in_span w).guest (in_span w).gpage key-at-unit

  pub guest-at-unit : guest_in (at_unit u w) ≡ guest_in w
  guest-at-unit = guest-under u _ _ (at_unit u w) (in_span w).guest (in_span w).gpage key-at-unit

  pub tag-at-unit : u < unit_span → tag_in (at_unit u w) ≡ 1
  tag-at-unit = tag-under u _ _ (at_unit u w) (in_span w).guest (in_span w).gpage key-at-unit

  pub unit-at-unit : u < unit_span → unit_in (at_unit u w) ≡ u
  unit-at-unit = unit-under u _ _ (at_unit u w) (in_span w).guest (in_span w).gpage key-at-unit

pub at-unit-again : (t u w : ℕ) → at_unit t (at_unit u w) ≡ at_unit t w
unfolding at_unit
at-unit-again t u w = rw (guest-at-unit u w, gpage-at-unit u w, page-at-unit u w, access-at-unit u w)

pub at-unit-own : (w : ℕ) → tag_in w ≡ 1 → at_unit (unit_in w) w ≡ w
unfolding at_unit
at-unit-own w t = entry-own w t

-- ── a live word is not 0 ──
pub entry-live : (u g v p x : ℕ) → 0 < entry u g v p x
unfolding entry key_of access_span page_span gpage_span guest_span unit_span
entry-live u g v p x = omega arith

pub at-unit-live : (u w : ℕ) → 0 < at_unit u w
unfolding at_unit
at-unit-live u w = entry-live u _ _ _ _

pub pair-live : (l r p x : ℕ) → 0 < pair l r p x
unfolding pair access_span page_span guest_span
pair-live l r p x = omega arith

-- ── pairs ──
module _ (l r p x : ℕ) (hp : p < page_span) (hx : x < access_span) where
  ends : ℕ
  ends = r + guest_span * (l + guest_span)

  pub access-pair : access_in (pair l r p x) ≡ x
  unfolding access_in pair
  access-pair = low x _ hx

  pub page-pair : page_in (pair l r p x) ≡ p
  unfolding page_in pair ends
  page-pair = rw (high x (p + page_span * ends) hx) (low p _ hp)

  key-pair : key_in (pair l r p x) ≡ ends
  unfolding key_in pair ends
  key-pair = rw (high x (p + page_span * ends) hx) (high p _ hp)

  module _ (hl : l < guest_span) (hr : r < guest_span) where
    pub right-pair : right_in (pair l r p x) ≡ r
    unfolding right_in ends
    right-pair = rw key-pair (low r _ hr)

    above : key_in (pair l r p x) / guest_span ≡ l + guest_span
    unfolding ends
    above = rw key-pair (high r _ hr)

    pub left-pair : left_in (pair l r p x) ≡ l
    unfolding left_in guest_span
    left-pair = let h : key_in (pair l r p x) / guest_span ≡ l + guest_span = above in omega arith

    pub tag-pair : pair_tag_in (pair l r p x) ≡ 1
    unfolding pair_tag_in guest_span
    tag-pair = let h : key_in (pair l r p x) / guest_span ≡ l + guest_span = above in omega arith

pub pair-own : (q : ℕ) → pair_tag_in q ≡ 1 → pair (left_in q) (right_in q) (page_in q) (access_in q) ≡ q
unfolding pair left_in right_in page_in access_in pair_tag_in key_in access_span page_span guest_span
pair-own q t = omega arith
