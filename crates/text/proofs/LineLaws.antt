-- The line that is kept: what of it counts, that no line means more than it keeps, and what stands open after a text.
use mathlib.Core.Path.{◌≡◌, refl, sym, ap, ◌∙◌}
use mathlib.Core.Bool.{not}
use mathlib.Core.List.{List, [], ◌∷◌, ◌++◌, append-nil}
use Prim.Native.Nat.{ℕ, zero, suc, ◌+◌, ◌-◌, ◌≤◌, ◌<◌, min}
use native.Mathlib.Nat.{zero-min, suc-min-suc}
use native.Mathlib.Numerals.{add-one}
use native.Mathlib.Omega.{arith}
use lib.Dec.{eqb, leb, ltb}
use lib.ListN.{length, take, set, length-append, length-take, length-set}
use lib.Seq.{take-nil, take_all, take-append-le, take-suc-set, append_snoc}
use borrow.Author.Tests.{ltb-true, ltb-false, leb-true, leb-false, eqb-true, eq-eqb, le-ltb}
use Rattle.std.specs.Prelude.{Some}
use Rattle.std.specs.List.{slice_get}
use Rattle.std.proofs.lemmas.List.{take_min}
use Rattle.std.proofs.lemmas.Option.{slice_get_within, get_or_from_slice_get}
use Rattle.numbers.specs.Sizes.{frame_bytes}
use Rattle.numbers.specs.Tests.{isnt}
use Rattle.numbers.proofs.Bools.{split, bool-ext}
use Rattle.text.specs.Text.{line_digits, feed, cut}
use Rattle.text.specs.Line.{most, padded, kept, held}
use Rattle.text.specs.Walks.{heard, pushed, added}
use Rattle.text.specs.declared.line.Line.{Line}
use Rattle.text.proofs.TextLaws.{too_long}
use Rattle.text.proofs.Cuts.{rest-last}

-- ── a text of n bytes ──
padded-take : (n : ℕ) (l : List ℕ) → padded n (take n l) ≡ padded n l
unfolding padded
padded-take zero l = refl
padded-take (suc n) [] = refl
padded-take (suc n) (b ∷ l) = ap (λ (r : List ℕ). b ∷ r) (padded-take n l)

take-padded : (n : ℕ) (l : List ℕ) → take (min (length l) n) (padded n l) ≡ take n l
unfolding padded
take-padded zero l = take-nil (min (length l) 0)
take-padded (suc n) [] = rw zero-min
take-padded (suc n) (b ∷ l) = rw suc-min-suc (ap (λ (r : List ℕ). b ∷ r) (take-padded n l))

padded-more : (n : ℕ) (l : List ℕ) (b : ℕ) → length l < n → set (padded n l) (length l) b ≡ padded n (l ++ b ∷ [])
unfolding padded
padded-more zero l b h = absurd (omega arith)
padded-more (suc n) [] b h = refl
padded-more (suc n) (c ∷ l) b h = ap (λ (r : List ℕ). c ∷ r) (padded-more n l b (omega arith))

-- ── what is kept of a line ──
pub held_kept : (l : List ℕ) → held (kept l) ≡ take most l
unfolding held kept
held_kept l = take-padded most l

pub kept-take : (l : List ℕ) → kept (take most l) ≡ kept l
unfolding kept
kept-take l =
    let n : min (length (take most l)) most ≡ min (length l) most = rw length-take (omega arith) in rw (n, padded-take most l)

pub kept-held : (l : List ℕ) → kept (held (kept l)) ≡ kept l
kept-held l = rw held_kept (kept-take l)

pub held-nothing : held (kept []) ≡ []
held-nothing = held_kept [] ∙ take-nil most

-- what is no longer in the first bytes changes nothing
kept-alike : (l k : List ℕ) → take most l ≡ take most k → kept l ≡ kept k
kept-alike l k e = sym (kept-take l) ∙ ap kept e ∙ kept-take k

pub pushed-kept : (l : List ℕ) (b : ℕ) → pushed (kept l) b ≡ kept (l ++ b ∷ [])
unfolding pushed kept
pushed-kept l b = split (ltb (length l) most)
    (λ t.
    let h : length l < most = ltb-true _ _ t in
    let n : min (length l) most ≡ length l = omega arith in
    let m : length l + 1 ≡ min (length (l ++ b ∷ [])) most = rw length-append (omega arith) in
    rw (n, t, m, padded-more most l b h))
    (λ t.
    let h : most ≤ length l = ltb-false _ _ t in
    rw (le-ltb (min (length l) most) most (omega arith)) (kept-alike l (l ++ b ∷ []) (sym (take-append-le most l (b ∷ []) h))))

pub added-kept : (l a : List ℕ) → added (kept l) a ≡ kept (l ++ a)
unfolding added
added-kept l [] = rw append-nil
added-kept l (b ∷ a) = rw (pushed-kept l b, added-kept (l ++ b ∷ []) a, append_snoc)

-- ── any line with a whole text ──
length-pushed : (x : Line) (b : ℕ) → length x.text ≡ most → length (pushed x b).text ≡ most
unfolding pushed
length-pushed x b h = split (ltb x.count most)
    (λ t. rw t (length-set x.text x.count b ∙ h))
    (λ t. rw t h)

length-held : (x : Line) → length x.text ≡ most → length (held x) ≡ min x.count most
unfolding held
length-held x h = length-take x.count x.text ∙ rw h

held_one : (x : Line) (b : ℕ) → x.count < length x.text →
    held (record { count = x.count + 1; text = set x.text x.count b }) ≡ held x ++ b ∷ []
unfolding held
held_one x b k = rw (add-one, take-suc-set x.text x.count b k)

held-pushed : (x : Line) (b : ℕ) (a : List ℕ) → length x.text ≡ most → take most (held (pushed x b) ++ a) ≡ take most (held x ++ b ∷ a)
unfolding pushed
held-pushed x b a h = split (ltb x.count most)
    (λ t. let k : x.count < most = ltb-true _ _ t in rw (t, held_one x b (omega arith), append_snoc))
    (λ t.
    let n : length (held x) ≡ min x.count most = length-held x h in
    let k : most ≤ x.count = ltb-false _ _ t in
    let m : most ≤ length (held x) = omega arith in
    rw t (take-append-le most (held x) a m ∙ sym (take-append-le most (held x) (b ∷ a) m)))

pub held-added : (x : Line) (a : List ℕ) → length x.text ≡ most → held (added x a) ≡ take most (held x ++ a)
unfolding added
held-added x [] h =
    let n : length (held x) ≡ min x.count most = length-held x h in rw append-nil (sym (take_all most (held x) (omega arith)))
held-added x (b ∷ a) h = held-added (pushed x b) a (length-pushed x b h) ∙ held-pushed x b a h

-- ── what a line means ──
-- more bytes than are kept are too many for a line of good shape
pub heard-take : (l : List ℕ) → heard (take most l) ≡ heard l
unfolding most
heard-take l = split (leb (length l) most)
    (λ t. ap heard (take_all most l (leb-true _ _ t)))
    (λ t.
    let k : most < length l = leb-false _ _ t in
    let n : length (take most l) ≡ min most (length l) = length-take most l in
    sym (too_long (take most l) (λ (e : length (take most l) ≡ line_digits). omega arith))
    ∙ too_long l (λ (e : length l ≡ line_digits). omega arith))

-- ── a line that goes on ──
take-front : (n : ℕ) (l a : List ℕ) → take n (take n l ++ a) ≡ take n (l ++ a)
take-front zero l a = refl
take-front (suc n) [] a = refl
take-front (suc n) (b ∷ l) a = ap (λ (r : List ℕ). b ∷ r) (take-front n l a)

pub take-grown : (l k a : List ℕ) → take most l ≡ take most k → take most (l ++ a) ≡ take most (k ++ a)
take-grown l k a e = sym (take-front most l a) ∙ ap (λ (r : List ℕ). take most (r ++ a)) e ∙ take-front most k a

-- ── the kept bytes as a part of the text ──
pub held-part : (x : Line) → length x.text ≡ 33 → take (min x.count 33) x.text ≡ held x
unfolding held
held-part x n = ap (λ (m : ℕ). take (min x.count m) x.text) (sym n) ∙ take_min x.count x.text

pub held_none : (x : Line) (l : List ℕ) → x.count ≡ 0 → l ≡ held x ++ l
unfolding held
held_none x l e = rw e

pub heard-added : (x : Line) (a : List ℕ) → length x.text ≡ 33 → heard (held (added x a)) ≡ heard (held x ++ a)
unfolding most line_digits frame_bytes
heard-added x a n = ap heard (held-added x a n) ∙ heard-take (held x ++ a)

-- made anew from the bytes it keeps
pub tidy-by : (x : Line) {e y : Line} {l : List ℕ} → e ≡ kept [] → l ≡ held x → y ≡ added e l → y ≡ kept (held x)
tidy-by x p q h = h ∙ rw (p, q) (added-kept [] (held x))

-- it is then as it is kept, and holds the same text
module _ (x : Line) {y : Line} (t : y ≡ kept (held x)) where
  pub tidied : y ≡ kept (held y)
  tidied = t ∙ sym (kept-held (held x)) ∙ ap (λ (z : Line). kept (held z)) (sym t)

  pub same_text : length x.text ≡ 33 → held y ≡ held x
  unfolding most line_digits frame_bytes
  same_text n =
      let k : length (held x) ≡ min x.count most = length-held x n in
      ap held t ∙ held_kept (held x) ∙ take_all most (held x) (omega arith)

-- ── what stands open ──
pub open-before : (x : Line) (l : List ℕ) → length x.text ≡ 33 → length l ≡ 0 →
    not (eqb x.count 0) ≡ isnt (eqb (length (cut (held x) l).rest) 0)
unfolding cut held isnt
open-before x [] n e =
    let k : length (take x.count x.text) ≡ min x.count (length x.text) = length-take x.count x.text in
    ap not (bool-ext _ _
    (λ t. let z = eqb-true x.count 0 t in eq-eqb (length (take x.count x.text)) 0 (omega arith))
    (λ t. let z = eqb-true (length (take x.count x.text)) 0 t in eq-eqb x.count 0 (omega arith)))
open-before x (b ∷ l) n e = absurd (omega arith)

pub open-last : (x : Line) (l : List ℕ) (b : ℕ) → Some b ≡ slice_get l (length l - 1) →
    not (eqb b 10) ≡ isnt (eqb (length (cut (held x) l).rest) 0)
unfolding feed isnt
open-last x l b e =
    let some : 0 < length l = let k = slice_get_within l (length l - 1) b (sym e) in omega arith in
    rw (← get_or_from_slice_get l (length l - 1) b 0 (sym e)) (ap not (sym (rest-last (held x) l some)))
