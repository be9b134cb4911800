-- A place that a search comes to, as an answer: it is there, or the refusal that says so is given.
use Rattle.std.specs.Prelude.{◌≡◌, ◌<◌, ◌≤◌, ℕ, Bool, true, false, cond, List, Option, None, Some, Result, IfSome, IfNone, IfOk, IfErr, length}
use Rattle.std.specs.Option.{ok_or, option_map}
use Rattle.std.specs.List.{position}
use mathlib.Core.Path.{refl, sym, ap, ◌∙◌}
use native.Mathlib.Omega.{arith}
use borrow.Author.Tests.{lt-ltb, le-ltb, lt-leb, le-leb}
use Rattle.numbers.specs.Search.{first}
use Rattle.numbers.specs.Tests.{◌and◌, isnt}
use Rattle.numbers.specs.declared.refusals.Refusal.{Refusal}
use Rattle.numbers.proofs.SearchLaws.{position-some, position-none}
use Rattle.tables.specs.Table.{hit, find, has, full, no_room, seat}
use Rattle.tables.specs.Wants.{W, found}
use Rattle.tables.proofs.TableLaws.{no-room-seat, live-find}
use Rattle.tables.proofs.WantLaws.{found-some, found-none}
use Rattle.numbers.proofs.Bools.{split, cond-true, cond-false, isnt-i, isnt-no}
use Rattle.verdicts.specs.Places.{new_place, new_row}
use Rattle.verdicts.specs.declared.walks.Row.{Row}

module _ (k : ℕ → Bool) (t : List ℕ) (e : Refusal) {q : Result ℕ Refusal} where
  -- ── over the row that has the key, else at the lowest free place ──
  pub seat-ok : (r : Option ℕ) → q ≡ ok_or r e → IfSome r (λ at. (at ≡ seat W k t) × (at < length t)) → IfOk q (λ at. (at ≡ seat W k t) × (no_room W k t ≡ false))
  seat-ok None o s = rw o tt
  seat-ok (Some at) o s = let l : seat W k t < length t = omega arith in rw o (s.0, no-room-seat W k t ∙ lt-leb _ _ l)

  pub seat-err : (r : Option ℕ) → q ≡ ok_or r e → IfNone r (length t ≤ seat W k t) → IfErr q (λ x. (x ≡ e) × (no_room W k t ≡ true))
  seat-err None o n = rw o (refl, no-room-seat W k t ∙ le-leb _ _ n)
  seat-err (Some at) o n = rw o tt

  -- ── where it stands ──
  pub stands-ok : (r : Option ℕ) → q ≡ ok_or r e → r ≡ position (hit W k) t → IfOk q (λ at. (at ≡ first (hit W k) t) × (isnt (has W k t) ≡ false))
  unfolding has isnt
  stands-ok None o p = rw o tt
  stands-ok (Some at) o p = let h = position-some (hit W k) t p in
      let l : first (hit W k) t < length t = omega (arith, h.0, h.1) in rw o (h.0, rw (lt-ltb _ _ l))

  pub stands-err : (r : Option ℕ) → q ≡ ok_or r e → r ≡ position (hit W k) t → IfErr q (λ x. (x ≡ e) × (isnt (has W k t) ≡ true))
  unfolding has isnt
  stands-err None o p = rw o (refl, rw (le-ltb _ _ (position-none (hit W k) t p)))
  stands-err (Some at) o p = rw o tt

-- ── the row that has a key ──
module _ (k : ℕ → Bool) (t : List ℕ) (e : Refusal) {q : Result ℕ Refusal} where
  pub home-ok : (r : Option ℕ) → q ≡ ok_or r e → r ≡ found (find W k t) → IfOk q (λ w. (w ≡ find W k t) × (isnt (has W k t) ≡ false))
  home-ok None o p = rw o tt
  home-ok (Some w) o p = let h = found-some p in rw o (h.0, isnt-no (sym (live-find W refl k t) ∙ h.1))

  pub home-err : (r : Option ℕ) → q ≡ ok_or r e → r ≡ found (find W k t) → IfErr q (λ x. (x ≡ e) × (isnt (has W k t) ≡ true))
  home-err None o p = rw o (refl, isnt-i (sym (live-find W refl k t) ∙ found-none _ p))
  home-err (Some w) o p = rw o tt

-- ── a row that is not to stand twice ──
module _ (k : ℕ → Bool) (t : List ℕ) (h : has W k t ≡ false) where
  pub new-ok : {at : ℕ} → at ≡ first W.free t → at < length t → (Some at ≡ new_place k t) × (no_room W k t ≡ false)
  unfolding ◌and◌ isnt full
  new-ok e l = (rw (h, e), rw (h, ← e, lt-leb _ _ l))

  pub new-err : length t ≤ first W.free t → no_room W k t ≡ true
  unfolding ◌and◌ isnt full
  new-err l = rw (h, le-leb _ _ l)

-- ── a pair that is to be taken away: whether it stands is asked first, though 13 comes before 14 ──
pub asked_first : (stands leant : Bool) → ◌≡◌ {A = ℕ} (cond (stands and leant) 13 (cond (isnt stands) 14 0)) (cond (isnt stands) 14 (cond leant 13 0))
unfolding ◌and◌ isnt
asked_first true leant = refl
asked_first false leant = refl

-- and back
module _ (k : ℕ → Bool) (t : List ℕ) where
  pub nowhere : None ≡ new_place k t → has W k t ≡ true
  nowhere e = split (has W k t) (λ h. h) (λ h. let f : None ≡ Some (first W.free t) = e ∙ cond-false h _ _ in absurd (cc))

  pub somewhere : {at : ℕ} → Some at ≡ new_place k t → (has W k t ≡ false) × (at ≡ first W.free t)
  somewhere {at} e = split (has W k t)
      (λ h. let f : Some at ≡ None = e ∙ cond-true h _ _ in absurd (cc))
      (λ h. let f : Some at ≡ Some (first W.free t) = e ∙ cond-false h _ _ in (h, cc))

-- ── a new row: its place, and the row itself ──
module _ (k : ℕ → Bool) (t : List ℕ) (w : ℕ) where
  pub place-of : {o : Option Row} → o ≡ new_row k t w → option_map (λ (r : Row). r.at) o ≡ new_place k t
  place-of e = split (has W k t) (λ h. rw (e, h)) (λ h. rw (e, h))

  pub word-of : {row : Row} → Some row ≡ new_row k t w → row.word ≡ w
  word-of {row} e = split (has W k t)
      (λ h. let f : Some row ≡ None = e ∙ cond-true h _ _ in absurd (cc))
      (λ h. let new : Row = record { at = first W.free t; word = w } in
      let f : Some row ≡ Some new = e ∙ cond-false h _ _ in
      let g : row ≡ new = cc in ap (λ (r : Row). r.word) g)
