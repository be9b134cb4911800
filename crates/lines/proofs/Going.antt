-- A call with a piece, from its parts: its own number, its lines, and the end of the log.
use mathlib.Core.Path.{◌≡◌, sym, ap, ◌∙◌, subst}
use mathlib.Core.Bool.{Bool, true, false}
use mathlib.Core.List.{List, ◌++◌}
use Prim.Native.Nat.{ℕ, ◌+◌, ◌-◌, ◌*◌, ◌≤◌}
use native.Mathlib.Omega.{arith}
use lib.Dec.{eqb, ltb}
use lib.ListN.{length, take, drop, length-drop, length-append}
use lib.Seq.{length-take-le}
use borrow.Author.Tests.{eqb-true, eq-eqb, ne_eqb, ltb-false}
use Rattle.numbers.specs.Sizes.{memory_words}
use Rattle.numbers.specs.Rules.{least}
use Rattle.numbers.specs.Tests.{◌or◌, isnt}
use Rattle.numbers.proofs.Bools.{split, or_r}
use Rattle.tables.specs.declared.state.Tables.{Tables}
use Rattle.text.specs.Text.{Cut, cut, all_lines}
use Rattle.text.specs.Answers.{answer_bytes}
use Rattle.text.specs.Line.{most, kept, held}
use Rattle.text.specs.Walks.{feeds}
use Rattle.text.specs.declared.line.Line.{Line}
use Rattle.text.proofs.Cuts.{ended-feeds, length-all-lines}
use Rattle.lines.specs.Log.{Log, answers}
use Rattle.lines.specs.Pieces.{lines_in, left_open, piece_rules, Passed, refused, passed, piece, reached}
use Rattle.lines.specs.Walks.{gone, closed}
use Rattle.lines.specs.declared.replay.Fed.{Fed}
use Rattle.lines.proofs.Walked.{length-answers, passed-feed, passed-end}

-- no more lines than there is room for
room_of : (n : ℕ) (m : Tables) (memory room : ℕ) → least (piece_rules n m memory room) ≡ 0 → n * answer_bytes ≤ room
unfolding least
room_of n m memory room e = split (isnt (eqb memory memory_words) or ltb room (n * answer_bytes))
    (λ t. let k : 1 ≡ 0 = rw t at e in absurd (omega arith))
    (λ t. ltb-false room (n * answer_bytes) (or_r _ _ t))

ended-le : (last : Bool) (c : Cut) → length c.ended ≤ length (lines_in last c)
ended-le false c = omega arith
ended-le true c = let k = length-all-lines c in omega arith

-- the room after a piece, if bytes stand after its last feed
room-left : (c : Cut) (s : Log) (out : List ℕ) → length (all_lines c) * answer_bytes ≤ length out →
    let y = passed c.ended c.rest s out in
    (y.line.count ≡ 0 → ⊥) → y.written + answer_bytes ≤ length y.out
unfolding kept most answer_bytes
room-left c s out h m =
    let a = answers s c.ended in
    let k = length-all-lines c in
    let l : length a ≡ length c.ended * answer_bytes = length-answers s c.ended in
    let o : length (a ++ drop (length a) out) ≡ length a + (length out - length a) =
    length-append a (drop (length a) out) ∙ rw (length-drop (length a) out) in
    split (eqb (length c.rest) 0)
    (λ t. absurd (m (let z : length c.rest ≡ 0 = eqb-true (length c.rest) 0 t in omega arith)))
    (λ t. let more : length (all_lines c) ≡ length c.ended + 1 = k ∙ rw t in omega arith)

module _ (last : Bool) (line : Line) (s : Log) (bytes out : List ℕ) {own : ℕ}
    (e : own ≡ least (piece_rules (length (lines_in last (cut (held line) bytes))) s.tables (length s.memory) (length out))) where
  pub refused-is : (own ≡ 0 → ⊥) → refused own line s out ≡ piece last line s bytes out
  unfolding piece
  refused-is n = rw (← e, ne_eqb own 0 n)

  module _ (z : own ≡ 0) where
    room : length (lines_in last (cut (held line) bytes)) * answer_bytes ≤ length out
    room = room_of _ _ _ _ (sym e ∙ z)

    ended-room : length (cut (held line) bytes).ended * answer_bytes ≤ length out
    unfolding answer_bytes
    ended-room = let h = ended-le last (cut (held line) bytes) in omega (arith, room)

    accepted-is : (b : Bool) → last ≡ b →
        let c = cut (held line) bytes in passed (lines_in b c) (left_open b c) s out ≡ piece last line s bytes out
    unfolding piece
    accepted-is b f = let c = cut (held line) bytes in
        ap (λ (a : Bool). passed (lines_in a c) (left_open a c) s out) (sym f) ∙ rw (← e, eq-eqb own 0 z)

    pub room-for-lines : feeds bytes * answer_bytes ≤ length out
    room-for-lines = subst (λ (k : ℕ). k * answer_bytes ≤ length out) (ended-feeds (held line) bytes) ended-room

    -- the lines that the piece ends
    module _ {y : Passed} (g : y ≡ gone (held line) bytes (record { log = s; out = out; written = 0 })) where
      lines-passed : y ≡ passed (cut (held line) bytes).ended (cut (held line) bytes).rest s out
      lines-passed = g ∙ passed-feed line s bytes out ended-room

      pub gone-accepted : y.number ≡ 0
      gone-accepted = ap (λ (p : Passed). p.number) lines-passed

      pub fed-is : last ≡ false → y ≡ piece last line s bytes out
      fed-is f = lines-passed ∙ accepted-is false f

      all_room : last ≡ true → length (all_lines (cut (held line) bytes)) * answer_bytes ≤ length out
      all_room f = subst (λ (b : Bool). length (lines_in b (cut (held line) bytes)) * answer_bytes ≤ length out) f room

      pub room-to-close : last ≡ true → (y.line.count ≡ 0 → ⊥) → y.written + answer_bytes ≤ length y.out
      room-to-close f = subst (λ (v : Passed). (v.line.count ≡ 0 → ⊥) → v.written + answer_bytes ≤ length v.out) (sym lines-passed)
          (room-left (cut (held line) bytes) s out (all_room f))

      pub closed_is : {v : Passed} → last ≡ true → v ≡ closed y → v ≡ piece last line s bytes out
      closed_is f h = h ∙ ap closed g ∙ passed-end line s bytes out (all_room f) ∙ accepted-is true f

-- ── what is written stands in the room ──
written-le : (last : Bool) (line : Line) (s : Log) (bytes out : List ℕ) {p : Passed} → p ≡ piece last line s bytes out → p.written ≤ length p.out
unfolding piece
written-le last line s bytes out e =
    let c = cut (held line) bytes in
    let a = answers s (lines_in last c) in
    rw e (split (eqb (least (piece_rules (length (lines_in last c)) s.tables (length s.memory) (length out))) 0)
    (λ t. rw t (let k = length-append a (drop (length a) out) in omega arith))
    (λ t. rw t (omega arith)))

-- so its bytes can be counted off
pub written-counts : (last : Bool) (line : Line) (s : Log) (bytes out : List ℕ) {p : Passed} → p ≡ piece last line s bytes out →
    (p.written ≤ length p.out) × (p.written ≡ length (take p.written p.out))
written-counts last line s bytes out {p} e = let l = written-le last line s bytes out e in (l, sym (length-take-le p.written p.out l))

-- ── no second answer satisfies a call's promise ──
pub one_piece : {r q : Fed} {ws us x y : List ℕ} {p : Passed} → reached r ws x ≡ p → reached q us y ≡ p → (r ≡ q) × (ws ≡ us) × (x ≡ y)
one_piece e f =
    let k = e ∙ sym f in (
      ap (λ (p : Passed). record {
        number = p.number;
        written = p.written;
        replay = record { line = p.line; booted = p.log.booted; tables = p.log.tables };
      }) k,
      ap (λ (p : Passed). p.log.memory) k,
      ap (λ (p : Passed). p.out) k,
    )
