-- The lines of a text, one line feed at a time.
use mathlib.Core.Path.{◌≡◌, refl, ap, ◌∙◌}
use mathlib.Core.Bool.{Bool, cond}
use mathlib.Core.List.{List, [], ◌∷◌, ◌++◌, append_assoc, append-nil}
use Prim.Native.Nat.{ℕ, suc, ◌+◌, ◌-◌, ◌≤◌, ◌<◌}
use native.Mathlib.Omega.{arith}
use lib.Dec.{eqb, eqb-suc-zero, ltb}
use lib.ListN.{length, take, drop, get_or, length-append}
use borrow.Author.Tests.{ne_eqb, ltb-true, ltb-false}
use Rattle.std.specs.Prelude.{Option, Some, None}
use Rattle.std.specs.Option.{option_map}
use Rattle.std.specs.List.{position, position_or_len}
use Rattle.numbers.proofs.Bools.{split}
use Rattle.text.specs.Text.{Cut, feed, cut, unended, all_lines}
use Rattle.text.specs.Walks.{feeds}

-- ── one text after another ──
pub cut-append : (h a b : List ℕ) →
    cut h (a ++ b) ≡ record { ended = (cut h a).ended ++ (cut (cut h a).rest b).ended; rest = (cut (cut h a).rest b).rest }
unfolding cut
cut-append h [] b = refl
cut-append h (x ∷ a) b = split (eqb x feed)
    (λ e. rw e (ap (λ (c : Cut). record { ended = h ∷ c.ended; rest = c.rest }) (cut-append [] a b)))
    (λ e. rw e (cut-append (h ++ x ∷ []) a b))

-- ── up to the first line feed ──
abbrev is_feed : ℕ → Bool
is_feed b = eqb b feed

abbrev line_end : List ℕ → ℕ
line_end l = position_or_len is_feed l

-- what an answer of where the first line ends says
ends-at : (l : List ℕ) {n : ℕ} → Some n ≡ position (λ b. eqb b feed) l → (n ≡ line_end l) × (line_end l < length l)
ends-at l {n} e = split (ltb (line_end l) (length l))
    (λ t. let q : Some n ≡ Some (line_end l) = rw t at e in (cc, ltb-true _ _ t))
    (λ t. let q : Some n ≡ None = rw t at e in cc)

no-end : (l : List ℕ) → None ≡ position (λ b. eqb b feed) l → length l ≤ line_end l
no-end l e = split (ltb (line_end l) (length l))
    (λ t. let q : None ≡ Some (line_end l) = rw t at e in cc)
    (λ t. ltb-false _ _ t)

one-more : (n : ℕ) → 1 + n ≡ suc n
one-more n = omega arith

at-line : (h l : List ℕ) → line_end l < length l →
    cut h l ≡ record {
      ended = (h ++ take (line_end l) l) ∷ (cut [] (drop (suc (line_end l)) l)).ended;
      rest = (cut [] (drop (suc (line_end l)) l)).rest;
    }
unfolding cut
at-line h [] k = absurd (omega arith)
at-line h (x ∷ l) k = split (eqb x feed)
    (λ e. rw (e, append-nil))
    (λ e. rw (e, one-more (line_end l)) (at-line (h ++ x ∷ []) l (let q = rw e at k in omega arith) ∙ rw append_assoc))

-- where there is none, all of it is left
at-rest : (h l : List ℕ) → length l ≤ line_end l → cut h l ≡ record { ended = []; rest = h ++ l }
unfolding cut
at-rest h [] k = rw append-nil
at-rest h (x ∷ l) k = split (eqb x feed)
    (λ e. let q = rw e at k in absurd (omega arith))
    (λ e. rw e (at-rest (h ++ x ∷ []) l (let q = rw e at k in omega arith) ∙ rw append_assoc))

at-feed : (l : List ℕ) → line_end l < length l → feeds l ≡ suc (feeds (drop (suc (line_end l)) l))
unfolding feeds
at-feed [] k = absurd (omega arith)
at-feed (x ∷ l) k = split (eqb x feed)
    (λ e. rw e (omega arith))
    (λ e. rw (e, one-more (line_end l)) (let i = at-feed l (let q = rw e at k in omega arith) in omega arith))

-- an answer of where the line ends that starts at the first byte
from-0 : (o : Option ℕ) → option_map (λ n. 0 + n) o ≡ o
from-0 None = refl
from-0 (Some n) = let e : 0 + n ≡ n = omega arith in rw e

pub from-start : (l : List ℕ) {o : Option ℕ} → o ≡ option_map (λ n. 0 + n) (position (λ b. eqb b feed) (drop 0 l)) → o ≡ position (λ b. eqb b feed) l
from-start l e = e ∙ from-0 _

pub end-inside : (l : List ℕ) {n : ℕ} → Some n ≡ position (λ b. eqb b feed) l → n < length l
end-inside l e = let q = ends-at l e in omega arith

pub cut_line : (h l : List ℕ) {n : ℕ} → Some n ≡ position (λ b. eqb b feed) l →
    cut h l ≡ record { ended = (h ++ take n l) ∷ (cut [] (drop (suc n) l)).ended; rest = (cut [] (drop (suc n) l)).rest }
cut_line h l e = let q = ends-at l e in rw q.0 (at-line h l q.1)

pub cut-rest : (h l : List ℕ) → None ≡ position (λ b. eqb b feed) l → cut h l ≡ record { ended = []; rest = h ++ l }
cut-rest h l e = at-rest h l (no-end l e)

-- ── how many lines ──
pub feeds-line : (l : List ℕ) {n : ℕ} → Some n ≡ position (λ b. eqb b feed) l → feeds l ≡ suc (feeds (drop (suc n) l))
feeds-line l e = let q = ends-at l e in rw q.0 (at-feed l q.1)

pub ended-feeds : (h l : List ℕ) → length (cut h l).ended ≡ feeds l
unfolding cut feeds
ended-feeds h [] = refl
ended-feeds h (x ∷ l) = split (eqb x feed)
    (λ e. rw e (let i = ended-feeds [] l in omega arith))
    (λ e. rw e (let i = ended-feeds (h ++ x ∷ []) l in omega arith))

-- ── what is left after the last line feed ──
grown : (h : List ℕ) (x : ℕ) → length (h ++ x ∷ []) ≡ 0 → ⊥
grown h x e = let q = length-append h (x ∷ []) in omega arith

-- nothing, where the text ends with a line feed
pub rest-last : (h l : List ℕ) → 0 < length l → eqb (length (cut h l).rest) 0 ≡ eqb (get_or l (length l - 1) 0) feed
unfolding cut
rest-last h [] k = absurd (omega arith)
rest-last h (x ∷ []) k = split (eqb x feed)
    (λ e. rw e)
    (λ e. rw e (ne_eqb _ _ (grown h x)))
rest-last h (x ∷ y ∷ l) k =
    let n : suc (suc (length l)) - 1 ≡ suc (length (y ∷ l) - 1) = omega arith in
    rw n (split (eqb x feed)
    (λ e. rw e (rest-last [] (y ∷ l) (omega arith)))
    (λ e. rw e (rest-last (h ++ x ∷ []) (y ∷ l) (omega arith))))

unended-one : (l : List ℕ) → length (unended l) ≡ cond (eqb (length l) 0) 0 1
unfolding unended
unended-one [] = refl
unended-one (x ∷ l) = rw (eqb-suc-zero (length l))

pub one_line : (l : List ℕ) → 0 < length l → unended l ≡ l ∷ []
unfolding unended
one_line [] h = absurd (omega arith)
one_line (b ∷ l) h = refl

pub length-all-lines : (c : Cut) → length (all_lines c) ≡ length c.ended + cond (eqb (length c.rest) 0) 0 1
unfolding all_lines
length-all-lines c = length-append c.ended (unended c.rest) ∙ ap (λ (n : ℕ). length c.ended + n) (unended-one c.rest)
