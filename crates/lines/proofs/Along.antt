-- The loop over the lines of a piece: what it knows on its way.
use mathlib.Core.Path.{◌≡◌, refl, sym, ap, ◌∙◌}
use mathlib.Core.List.{List, [], ◌++◌}
use Prim.Native.Nat.{ℕ, suc, ◌+◌, ◌-◌, ◌*◌, ◌≤◌, ◌<◌}
use native.Mathlib.Numerals.{add-one}
use native.Mathlib.Omega.{arith}
use lib.Dec.{eqb}
use lib.ListN.{length, take, drop, length-take, length-drop}
use lib.Seq.{length-sets, take_all}
use Rattle.std.specs.Prelude.{Some, None}
use Rattle.std.specs.List.{position}
use Rattle.text.specs.Text.{feed, Cut, unended}
use Rattle.text.specs.Answers.{spelt, answer_bytes, placed}
use Rattle.text.specs.Line.{kept, held}
use Rattle.text.specs.Walks.{added, feeds}
use Rattle.text.specs.declared.line.Line.{Line}
use Rattle.text.proofs.Cuts.{cut_line, cut-rest, feeds-line, one_line}
use Rattle.text.proofs.AnswerLaws.{placed-in}
use Rattle.text.proofs.LineLaws.{held-nothing, added-kept}
use Rattle.lines.specs.Log.{Turn, turn, answer_line}
use Rattle.lines.specs.Pieces.{Passed}
use Rattle.lines.specs.Walks.{Way, way_of, stepped, walked, held_by, gone, closed}
use Rattle.lines.proofs.TurnLaws.{turn-long}

-- ── one line: its answer stands in the room ──
pub step_by : (l : List ℕ) (w : Way) {t : Turn} {out : List ℕ} → w.written + answer_bytes ≤ length w.out → t ≡ turn w.log l →
    out ≡ placed w.out w.written (spelt t.seen) →
    record { log = t.log; out = out; written = w.written + answer_bytes } ≡ stepped l w
unfolding stepped
step_by l w {t} room e p = rw (p, placed-in w.out w.written t.seen room, e)

-- ── many lines ──
-- the first of them, and then the others
gone-line : (h rest : List ℕ) (w : Way) {n : ℕ} → Some n ≡ position (λ b. eqb b feed) rest →
    gone [] (drop (suc n) rest) (stepped (h ++ take n rest) w) ≡ gone h rest w
unfolding gone walked
gone-line h rest w e = sym (ap (λ (c : Cut). held_by c.rest (walked c.ended w)) (cut_line h rest e))

-- the text that is held, and the bytes that are left
pub record Along (bytes : List ℕ) (line₀ : Line) (w₀ : Way) (line : Line) (rest : List ℕ) (w : Way) : Type 0 where
  pub tidy : line ≡ kept (held line)
  pub same : gone (held line) rest w ≡ gone (held line₀) bytes w₀
  pub upto : length rest ≤ length bytes
  pub room : w.written + feeds rest * answer_bytes ≤ length w.out
  pub out_long : length w.out ≡ length w₀.out
  pub memory_long : length w.log.memory ≡ length w₀.log.memory

module _ (bytes : List ℕ) (line₀ : Line) (w₀ : Way) where
  pub along-start : {line : Line} → w₀.written ≡ 0 → line ≡ kept (held line) → held line ≡ held line₀ → feeds bytes * answer_bytes ≤ length w₀.out →
      Along bytes line₀ w₀ line bytes w₀
  along-start z t h r = record {
    tidy = t;
    same = ap (λ (l : List ℕ). gone l bytes w₀) h;
    upto = omega arith;
    room = omega arith;
    out_long = refl;
    memory_long = refl;
  }

  module _ {line : Line} {rest : List ℕ} {w : Way} (q : Along bytes line₀ w₀ line rest w) where
    pub along-end : {x : Line} → None ≡ position (λ b. eqb b feed) rest → x ≡ added line rest →
        record { number = 0; written = w.written; line = x; log = w.log; out = w.out } ≡ gone (held line₀) bytes w₀
    unfolding gone walked
    along-end e h =
        let k : added line rest ≡ kept (held line ++ rest) = ap (λ (y : Line). added y rest) q.tidy ∙ added-kept (held line) rest in
        rw (h, k) (sym (ap (λ (c : Cut). held_by c.rest (walked c.ended w)) (cut-rest (held line) rest e)) ∙ q.same)

    module _ {end : ℕ} (e : Some end ≡ position (λ b. eqb b feed) rest) where
      pub room-here : w.written + answer_bytes ≤ length w.out
      unfolding answer_bytes
      room-here = let f = feeds-line rest e in omega (arith, q.room)

      pub along-more : {x : Line} {v : Way} → x ≡ kept [] → v ≡ stepped (held line ++ take end rest) w →
          Along bytes line₀ w₀ x (take (length rest - (end + 1)) (drop (end + 1) rest)) v
      unfolding answer_bytes stepped
      along-more h k =
          let text = held line ++ take end rest in
          let f = feeds-line rest e in
          let left : take (length rest - (end + 1)) (drop (end + 1) rest) ≡ drop (suc end) rest =
          rw (add-one end) (let n = length-drop (suc end) rest in take_all _ (drop (suc end) rest) (omega arith)) in
          let long = length-sets w.out w.written (answer_line (turn w.log text)) in
          rw (left, h, k) (record {
            tidy = sym (ap kept held-nothing);
            same = ap (λ (y : List ℕ). gone y (drop (suc end) rest) (stepped text w)) held-nothing ∙ gone-line (held line) rest w e ∙ q.same;
            upto = let n = length-drop (suc end) rest in omega (arith, q.upto);
            room = omega (arith, q.room, long);
            out_long = long ∙ q.out_long;
            memory_long = turn-long w.log text ∙ q.memory_long;
          })

-- ── the end of the log ──
module _ (p : Passed) {x : Line} (e : x ≡ kept []) where
  pub closed_none : p.line.count ≡ 0 → record { number = 0; written = p.written; line = x; log = p.log; out = p.out } ≡ closed p
  unfolding closed held unended walked
  closed_none z = rw (e, z)

  pub closed-one : {t : Turn} {out : List ℕ} → (p.line.count ≡ 0 → ⊥) → length p.line.text ≡ 33 →
      p.written + answer_bytes ≤ length p.out → t ≡ turn p.log (held p.line) →
      out ≡ placed p.out p.written (spelt t.seen) →
      record { number = 0; written = p.written + answer_bytes; line = x; log = t.log; out = out } ≡ closed p
  unfolding closed walked held
  closed-one n k room q o =
      let l = held p.line in
      let some : 0 < length l = let m = length-take p.line.count p.line.text in omega arith in
      rw e (ap (held_by []) (step_by l (way_of p) room q o ∙ ap (λ (ls : List (List ℕ)). walked ls (way_of p)) (sym (one_line l some))))
