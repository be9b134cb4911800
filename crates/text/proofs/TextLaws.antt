-- What a loop knows on its way: through the digits of a line, over all feeds, along an unfinished line.
use mathlib.Core.Path.{◌≡◌, refl, sym, ◌∙◌, ap}
use mathlib.Core.Bool.{Bool, true, false, cond, ◌&&◌}
use mathlib.Core.List.{List, [], ◌∷◌, ◌++◌, append_assoc, append-nil}
use Prim.Native.Nat.{ℕ, suc, ◌+◌, ◌-◌, ◌*◌, ◌≤◌, ◌<◌}
use native.Mathlib.Numerals.{add-one}
use native.Mathlib.Omega.{arith}
use lib.Dec.{eqb, leb, ltb}
use lib.ListN.{length, get_or, take, drop, set, length-set, drop_of_length-le}
use lib.Seq.{drop-cons, take-suc-set, take_all}
use borrow.Author.Tests.{ltb-true, eq-eqb, ne_eqb}
use Rattle.std.specs.Prelude.{Option, Some, None}
use Rattle.std.specs.Bool.{then_some}
use Rattle.std.specs.Option.{is_some, unwrap_or}
use Rattle.std.specs.List.{count_by}
use Rattle.std.proofs.lemmas.List.Recursion.{is_sum_by}
use Rattle.std.proofs.lemmas.List.Sums.{count_by-le-length}
use Rattle.numbers.specs.Sizes.{frame_bytes}
use Rattle.numbers.specs.Tests.{◌and◌}
use Rattle.numbers.proofs.Bools.{split, and_l, and_r, and_i, and-no-l, and-no-r}
use Rattle.text.specs.Text.{digit, line_digits, all_digits, well_shaped, bytes_of, feed}
use Rattle.text.specs.Walks.{heard, pushed, added, feeds}
use Rattle.text.specs.declared.line.Line.{Line}

-- ── what a byte says as a digit ──
pub digit_by_range : (b : ℕ) → digit b ≡ cond (leb 48 b && leb b 57) (b - 48) (cond (leb 97 b && leb b 102) (b - 87) 16)
unfolding digit ◌and◌
digit_by_range b = refl

abbrev pub said : ℕ → Option ℕ
said d = cond (ltb d 16) (Some d) None

said-some : (d : ℕ) → is_some (said d) ≡ ltb d 16
said-some d = split (ltb d 16) (λ t. rw t) (λ t. rw t)

said-value : (d : ℕ) → ltb d 16 ≡ true → unwrap_or (said d) 0 ≡ d
said-value d t = rw t

pub small : (d : ℕ) {x : Option ℕ} {v : ℕ} → x ≡ said d → v ≡ unwrap_or x 0 → v < 16
small d e f = rw (f, e) (split (ltb d 16) (λ t. rw t (ltb-true d 16 t)) (λ t. rw t (omega arith)))

-- ── the digits of a line, two by two ──
regroup : (g x y z : Bool) → (g and (x and (y and z))) ≡ ((g && (x && y)) and z)
unfolding ◌and◌
regroup false x y z = refl
regroup true false y z = refl
regroup true true y z = refl

pub too_long : (line : List ℕ) → (length line ≡ line_digits → ⊥) → None ≡ heard line
unfolding heard well_shaped
too_long line n = rw (and-no-l (all_digits line) (ne_eqb _ _ n))

pub not-digits : (line : List ℕ) → all_digits line ≡ false → None ≡ heard line
unfolding heard well_shaped
not-digits line e = rw (and-no-r (eqb (length line) line_digits) e)

-- of the first i bytes each is spelt, or one is not and good is false; what is left decides
pub record Spelt (line bytes : List ℕ) (good : Bool) (i : ℕ) : Type 0 where
  pub upto : i ≤ frame_bytes
  pub room : length bytes ≡ frame_bytes
  pub shape : all_digits line ≡ (good and all_digits (drop (2 * i) line))
  pub spells : good ≡ true → bytes_of line ≡ take i bytes ++ bytes_of (drop (2 * i) line)

pub spelt-none : (line bytes : List ℕ) → length bytes ≡ frame_bytes → Spelt line bytes true 0
unfolding ◌and◌
spelt-none line bytes n = record { upto = omega arith; room = n; shape = refl; spells = λ t. refl }

module _ (line bytes : List ℕ) (good : Bool) (i : ℕ) (n : length line ≡ line_digits) (q : Spelt line bytes good i) (l : i < frame_bytes) where
  abbrev one : ℕ
  one = digit (get_or line (2 * i) 0)

  abbrev two : ℕ
  two = digit (get_or line (2 * i + 1) 0)

  two-more : drop (2 * i) line ≡ get_or line (2 * i) 0 ∷ get_or line (2 * i + 1) 0 ∷ drop (2 * (i + 1)) line
  unfolding line_digits
  two-more =
      let e : suc (2 * i) ≡ 2 * i + 1 = omega arith in
      let f : suc (2 * i + 1) ≡ 2 * (i + 1) = omega arith in
      drop-cons line (2 * i) 0 (omega arith)
      ∙ ap (λ (r : List ℕ). get_or line (2 * i) 0 ∷ r) (ap (λ (j : ℕ). drop j line) e ∙ drop-cons line (2 * i + 1) 0 (omega arith)
      ∙ ap (λ (j : ℕ). get_or line (2 * i + 1) 0 ∷ drop j line) f)

  -- two digits more
  pub spelt-more : {x y : Option ℕ} {a b : Bool} {u v : ℕ} → x ≡ said (digit (get_or line (2 * i) 0)) → y ≡ said (digit (get_or line (2 * i + 1) 0)) →
      a ≡ is_some x → b ≡ is_some y → u ≡ unwrap_or x 0 → v ≡ unwrap_or y 0 →
      Spelt line (set bytes i (u * 16 + v)) (good && (a && b)) (i + 1)
  unfolding all_digits bytes_of ◌and◌
  spelt-more {a} {b} {u} {v} h k s t e f =
      let p : a ≡ ltb one 16 = s ∙ ap is_some h ∙ said-some one in
      let r : b ≡ ltb two 16 = t ∙ ap is_some k ∙ said-some two in
      record {
        upto = omega arith;
        room = length-set bytes i _ ∙ q.room;
        shape = q.shape ∙ ap (λ (z : List ℕ). good and all_digits z) two-more ∙ rw (p, r) (regroup good (ltb one 16) (ltb two 16) _);
        spells = λ z.
            let fine : good ≡ true = and_l good (a && b) z in
            let both : (a && b) ≡ true = and_r good (a && b) z in
            let high : u ≡ one = e ∙ ap (λ (w : Option ℕ). unwrap_or w 0) h ∙ said-value one (sym p ∙ and_l a b both) in
            let low : v ≡ two = f ∙ ap (λ (w : Option ℕ). unwrap_or w 0) k ∙ said-value two (sym r ∙ and_r a b both) in
            let value = one * 16 + two in
            let set_there : take (i + 1) (set bytes i (u * 16 + v)) ≡ take i bytes ++ value ∷ [] =
            rw (high, low, add-one i) (take-suc-set bytes i value (omega (arith, q.room))) in
            q.spells fine ∙ ap (λ (w : List ℕ). take i bytes ++ bytes_of w) two-more
            ∙ sym (append_assoc (take i bytes) (value ∷ []) (bytes_of (drop (2 * (i + 1)) line)))
            ∙ ap (λ (w : List ℕ). w ++ bytes_of (drop (2 * (i + 1)) line)) (sym set_there);
      }

-- so a line is heard whole, or not at all
pub all-spelt : (line bytes : List ℕ) (good : Bool) (i : ℕ) → length line ≡ line_digits → frame_bytes ≤ i → Spelt line bytes good i →
    then_some good bytes ≡ heard line
unfolding heard well_shaped all_digits bytes_of line_digits ◌and◌
all-spelt line bytes good i n l q =
    let over : length line ≤ 2 * i = omega (arith, q.upto) in
    let none : drop (2 * i) line ≡ [] = drop_of_length-le line over in
    split good
    (λ t.
    let shape : all_digits line ≡ true = q.shape ∙ ap (λ (z : List ℕ). good and all_digits z) none ∙ rw t in
    let bytes-are : bytes_of line ≡ bytes =
    q.spells t ∙ ap (λ (r : List ℕ). take i bytes ++ bytes_of r) none ∙ append-nil _ ∙ take_all i bytes (omega (arith, q.room)) in
    rw (t, and_i (eq-eqb _ _ n) shape, bytes-are))
    (λ t. rw t (not-digits line (q.shape ∙ rw t)))

-- ── how many feeds ──
pub feeds_are : (bytes : List ℕ) → feeds bytes ≡ count_by (λ b. eqb b feed) bytes
unfolding feeds
feeds_are = is_sum_by feeds (λ b. cond (eqb b feed) 1 0) refl (λ _ _. refl)

pub feeds-le : (bytes : List ℕ) → feeds bytes ≤ length bytes
feeds-le bytes = rw feeds_are (count_by-le-length (λ b. eqb b feed) bytes)

-- ── a line, byte by byte ──
module _ (x : Line) (more : List ℕ) (i : ℕ) {y : Line} (e : added x (drop i more) ≡ y) where
  pub added_more : {z : Line} → i < length more → z ≡ pushed x (get_or more i 0) → added z (drop (i + 1) more) ≡ y
  unfolding added
  added_more l q = rw (q, add-one) (sym (ap (added x) (drop-cons more i 0 l)) ∙ e)

  pub added-end : length more ≤ i → x ≡ y
  unfolding added
  added-end l = sym (ap (added x) (drop_of_length-le more l)) ∙ e
