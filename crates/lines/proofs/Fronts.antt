-- Before a piece: whether there is room for its answers, and the call's own number.
use mathlib.Core.Path.{◌≡◌, sym, ap, ◌∙◌}
use mathlib.Core.Bool.{Bool, true, false, not, ◌&&◌, ◌||◌}
use mathlib.Core.List.{List}
use Prim.Native.Nat.{ℕ, ◌+◌, ◌*◌, ◌/◌, ◌≤◌}
use native.Mathlib.Omega.{arith}
use mir.Val.{bool_byte}
use lib.Dec.{eqb, ltb}
use lib.ListN.{length}
use borrow.Author.Tests.{ltb-true, lt-ltb}
use Rattle.numbers.specs.Sizes.{pages, page_words, memory_words}
use Rattle.numbers.specs.Rules.{least}
use Rattle.numbers.specs.Tests.{◌or◌, isnt}
use Rattle.numbers.proofs.Bools.{split, bool-ext, isnt-i, isnt-no}
use Rattle.tables.specs.Wf.{wf}
use Rattle.tables.specs.declared.state.Tables.{Tables}
use Rattle.text.specs.Text.{Cut, cut, all_lines}
use Rattle.text.specs.Answers.{answer_bytes}
use Rattle.text.specs.Walks.{feeds}
use Rattle.text.proofs.Cuts.{ended-feeds, length-all-lines}
use Rattle.lines.specs.Pieces.{lines_in, piece_rules}

-- ── room ──
-- counted in lines, and in bytes
room_for : (n room : ℕ) → ltb (room / 19) n ≡ ltb room (n * answer_bytes)
unfolding answer_bytes
room_for n room = bool-ext _ _
    (λ t. let h = ltb-true (room / 19) n t in lt-ltb room (n * 19) (omega arith))
    (λ t. let h = ltb-true room (n * 19) t in lt-ltb (room / 19) n (omega arith))

-- a line more where one is left open, or not
lines-counted : (last : Bool) (c : Cut) {n k : ℕ} {more : Bool} → n ≡ length c.ended → more ≡ isnt (eqb (length c.rest) 0) →
    k ≡ bool_byte (last && more) → n + k ≡ length (lines_in last c)
lines-counted false c e o f = rw (e, f) (omega arith)
lines-counted true c {n} {k} {more} e o f = split (eqb (length c.rest) 0)
    (λ t. let z : k ≡ 0 = f ∙ ap bool_byte (o ∙ isnt-no t) in let h : length (all_lines c) ≡ n = length-all-lines c ∙ rw t (omega arith) in omega arith)
    (λ t. let z : k ≡ 1 = f ∙ ap bool_byte (o ∙ isnt-i t) in let h : length (all_lines c) ≡ n + 1 = length-all-lines c ∙ rw t (omega arith) in omega arith)

pub one-at-most : (b : Bool) {k : ℕ} → k ≡ bool_byte b → k ≤ 1
one-at-most true e = omega arith
one-at-most false e = omega arith

module _ (last : Bool) (so_far bytes : List ℕ) (m : Tables) (memory room : ℕ) {n k : ℕ} {more : Bool}
    (e : n ≡ feeds bytes) (o : more ≡ isnt (eqb (length (cut so_far bytes).rest) 0)) (f : k ≡ bool_byte (last && more)) where
  -- 1, as the code asks for it
  abbrev test : Bool
  test = not (eqb memory 1024) || ltb (room / 19) (n + k)

  asked : test ≡ (isnt (eqb memory memory_words) or ltb room (length (lines_in last (cut so_far bytes)) * answer_bytes))
  unfolding ◌or◌ isnt pages page_words
  asked = ap (λ (b : Bool). not (eqb memory 1024) || b)
      (ap (ltb (room / 19)) (lines-counted last (cut so_far bytes) (e ∙ sym (ended-feeds so_far bytes)) o f) ∙ room_for _ room)

  pub own-1 : test ≡ true → 1 ≡ least (piece_rules (length (lines_in last (cut so_far bytes))) m memory room)
  unfolding least
  own-1 t = rw (sym asked ∙ t)

  pub own-2 : test ≡ false → false ≡ wf m → 2 ≡ least (piece_rules (length (lines_in last (cut so_far bytes))) m memory room)
  unfolding least
  own-2 t w = rw (sym asked ∙ t, isnt-i (sym w))

  pub own-0 : test ≡ false → true ≡ wf m → 0 ≡ least (piece_rules (length (lines_in last (cut so_far bytes))) m memory room)
  unfolding least
  own-0 t w = rw (sym asked ∙ t, isnt-no (sym w))
