-- Answer lines: how long they are, and that writing their digits one by one writes the line.
use mathlib.Core.Path.{◌≡◌, refl, sym, ap, ◌∙◌}
use mathlib.Core.List.{List, [], ◌∷◌, ◌++◌, append-nil, append_assoc}
use Prim.Native.Nat.{ℕ, zero, suc, ◌+◌, ◌-◌, ◌/◌, ◌%◌, ◌≤◌, ◌<◌}
use native.Mathlib.Nat.{add-zero}
use native.Mathlib.Omega.{arith}
use lib.Dec.{leb}
use lib.ListN.{length, take, drop, set, length-append, length-take, length-drop, drop_of_length-le}
use lib.Seq.{sets, sets-eq, length-sets, set_comm, drop-drop}
use borrow.Rule.Slice.PartMut.{put_mid}
use borrow.Author.Tests.{le-leb, lt-leb}
use Rattle.numbers.specs.declared.answers.Seen.{Seen}
use Rattle.numbers.proofs.Bools.{split}
use Rattle.text.specs.Text.{glyph, digits, feed}
use Rattle.text.specs.Answers.{spelt, answer_bytes, placed}

-- ── lengths ──
pub length_digits : (n w : ℕ) → length (digits n w) ≡ n
unfolding digits
length_digits zero w = refl
length_digits (suc n) w = let i = length_digits n (w / 16) in rw length-append (omega arith)

pub length-spelt : (s : Seen) → length (spelt s) ≡ answer_bytes
unfolding spelt answer_bytes
length-spelt s = simp (length-append, length_digits)

pub length-placed : (out : List ℕ) (at : ℕ) (l : List ℕ) → length (placed out at l) ≡ length out
unfolding placed
length-placed out at l = split (leb (at + length l) (length out)) (λ t. rw t (length-sets out at l)) (λ t. rw t)

-- ── digits, as they are written ──
sets-append : (a b l : List ℕ) (i : ℕ) → sets l i (a ++ b) ≡ sets (sets l i a) (i + length a) b
sets-append [] b l i = rw add-zero
sets-append (v ∷ a) b l i =
    let n : suc i + length a ≡ i + suc (length a) = omega arith in sets-append a b (set l i v) (suc i) ∙ rw n

-- all of a list
sets-whole : (vs l : List ℕ) → length vs ≡ length l → sets l 0 vs ≡ vs
sets-whole vs l n =
    let over : length l ≤ 0 + length vs = omega arith in
    sets-eq vs l 0 (omega arith) ∙ rw (drop_of_length-le l over, append-nil)

-- a part of it, written through a slice
part-written : (a k : ℕ) (l vs : List ℕ) → length vs ≡ k → a + k ≤ length l → put_mid a k l vs ≡ sets l a vs
part-written a k l vs n h =
    sym (sets-eq vs l a (omega arith) ∙ append_assoc (take a l) vs _
    ∙ ap (λ (r : List ℕ). take a l ++ (vs ++ r)) (ap (λ (m : ℕ). drop (a + m) l) n ∙ sym (drop-drop k a l)))

-- the last one first
sets_last : (vs l : List ℕ) (i a : ℕ) → sets (set l (i + length vs) a) i vs ≡ sets l i (vs ++ a ∷ [])
sets_last [] l i a = rw add-zero
sets_last (v ∷ vs) l i a =
    let n : i + suc (length vs) ≡ suc i + length vs = omega arith in
    rw (n, set_comm l (suc i + length vs) i a v (λ (e : suc i + length vs ≡ i). omega arith)) (sets_last vs (set l i v) (suc i) a)

-- so one more is written before those that stand
pub digit-more : (i rest : ℕ) (out : List ℕ) {g : ℕ} {y : List ℕ} → sets out 0 (digits i rest) ≡ y → 0 < i → g ≡ glyph (rest % 16) →
    sets (set out (i - 1) g) 0 (digits (i - 1) (rest / 16)) ≡ y
unfolding digits
digit-more i rest out {g} e l q =
    let ds = digits (i - 1) (rest / 16) in
    let n = length_digits (i - 1) (rest / 16) in
    let p : i - 1 ≡ 0 + length ds = omega arith in
    let k : suc (i - 1) ≡ i = omega arith in
    ap (λ (m : ℕ). sets (set out m g) 0 ds) p ∙ sets_last ds out 0 g ∙ rw q (ap (λ (m : ℕ). sets out 0 (digits m rest)) k) ∙ e

-- all of them, where no others stand
pub digit-first : (out : List ℕ) (number : ℕ) → sets out 0 (digits (length out) number) ≡ digits (length out) number
digit-first out number = sets-whole (digits (length out) number) out (length_digits (length out) number)

pub no-digits : (i rest : ℕ) (out : List ℕ) {y : List ℕ} → sets out 0 (digits i rest) ≡ y → i ≤ 0 → out ≡ y
unfolding digits
no-digits i rest out e l = let k : 0 ≡ i = omega arith in ap (λ (n : ℕ). sets out 0 (digits n rest)) k ∙ e

-- ── a whole line ──
-- written in its parts
filled : (l : List ℕ) (s : Seen) {x y : List ℕ} → length l ≡ answer_bytes → x ≡ digits (length (take 2 l)) s.number →
    y ≡ digits (length (take 16 (drop 2 (put_mid 0 2 l x)))) s.word → set (put_mid 2 16 (put_mid 0 2 l x) y) 18 feed ≡ spelt s
unfolding spelt answer_bytes
filled l s {x} {y} n e f =
    let number = digits 2 s.number in
    let word = digits 16 s.word in
    let two : length number ≡ 2 = length_digits 2 s.number in
    let sixteen : length word ≡ 16 = length_digits 16 s.word in
    let x-is : x ≡ number = e ∙ ap (λ (k : ℕ). digits k s.number) (length-take 2 l ∙ omega arith) in
    let first : put_mid 0 2 l x ≡ sets l 0 number = rw x-is (part-written 0 2 l number two (omega arith)) in
    let m : length (sets l 0 number) ≡ 19 = length-sets l 0 number ∙ n in
    let part : length (take 16 (drop 2 (sets l 0 number))) ≡ 16 = simp (length-take, length-drop) (omega arith) in
    let y-is : y ≡ word =
    f ∙ ap (λ (r : List ℕ). digits (length (take 16 (drop 2 r))) s.word) first ∙ ap (λ (k : ℕ). digits k s.word) part in
    let second : put_mid 2 16 (put_mid 0 2 l x) y ≡ sets (sets l 0 number) 2 word =
    ap (λ (r : List ℕ). put_mid 2 16 r y) first ∙ rw y-is (part-written 2 16 (sets l 0 number) word sixteen (omega arith)) in
    let j : 0 + length number ≡ 2 = omega arith in
    let k : 0 + length (number ++ word) ≡ 18 = rw length-append (omega arith) in
    let whole : length (spelt s) ≡ length l = length-spelt s ∙ sym n in
    rw second (sym (sets-append (number ++ word) (feed ∷ []) l 0 ∙ rw (k, sets-append number word l 0, j)) ∙ sets-whole (spelt s) l whole)

module _ (out : List ℕ) (at : ℕ) (s : Seen) where
  pub placed-in : at + answer_bytes ≤ length out → placed out at (spelt s) ≡ sets out at (spelt s)
  unfolding placed
  placed-in h = let n = length-spelt s in rw (le-leb (at + length (spelt s)) (length out) (omega arith))

  pub not-placed : length out < at + answer_bytes → out ≡ placed out at (spelt s)
  unfolding placed
  not-placed h = let n = length-spelt s in rw (lt-leb (at + length (spelt s)) (length out) (omega arith))

  pub put_whole : {x y : List ℕ} → at + answer_bytes ≤ length out →
      let l = take (at + answer_bytes - at) (drop at out) in
      x ≡ digits (length (take 2 l)) s.number → y ≡ digits (length (take 16 (drop 2 (put_mid 0 2 l x)))) s.word →
      put_mid at (at + answer_bytes - at) out (set (put_mid 2 16 (put_mid 0 2 l x) y) 18 feed) ≡ placed out at (spelt s)
  put_whole h e f =
      let l = take (at + answer_bytes - at) (drop at out) in
      let n : length l ≡ answer_bytes = simp (length-take, length-drop) (omega arith) in
      let whole : length (spelt s) ≡ at + answer_bytes - at = let k = length-spelt s in omega arith in
      ap (put_mid at (at + answer_bytes - at) out) (filled l s n e f) ∙ part-written at _ out (spelt s) whole (omega arith) ∙ sym (placed-in h)
