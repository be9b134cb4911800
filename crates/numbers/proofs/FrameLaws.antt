-- Frames: every action gets exactly one of 0, 3 and 4; the kinds of the table are those of 01's three ranges.
use mathlib.Core.Path.{◌≡◌, refl, sym, ◌∙◌}
use mathlib.Core.Bool.{Bool, true, false, beq}
use Prim.Native.Nat.{ℕ, ◌≤◌, ◌<◌}
use lib.Dec.{eqb, leb}
use lib.ListN.{get_or}
use borrow.Author.Tests.{leb-true}
use Rattle.numbers.specs.Tests.{◌and◌, ◌or◌, isnt}
use Rattle.numbers.specs.Rules.{least}
use Rattle.numbers.specs.Search.{first, upto}
use Rattle.numbers.specs.Frames.{kinds, row_of, stray, beyond, frame_rules, frame_number}
use Rattle.numbers.specs.declared.frames.Action.{Action}
use Rattle.numbers.proofs.Bools.{split, not-true, and_l, and_r, or_no, isnt-true, isnt-false}
use Rattle.numbers.proofs.RulesLaws.{Applies, rising, least-lowest}
use Rattle.numbers.proofs.SearchLaws.{upto-at}

-- ── 0, 3 or 4 ──
pub data Checked (a : Action) : ℕ → Type 0 where
  -- a known kind, unused fields zero, numbers in range
  fine : eqb (row_of a.kind) 0 ≡ false → stray (row_of a.kind) a ≡ false → beyond (row_of a.kind) a ≡ false → Checked a 0
  -- not a frame
  unknown : eqb (row_of a.kind) 0 ≡ true → Checked a 3
  unused : eqb (row_of a.kind) 0 ≡ false → stray (row_of a.kind) a ≡ true → Checked a 3
  -- a frame, with a number out of range
  out_of_range : eqb (row_of a.kind) 0 ≡ false → stray (row_of a.kind) a ≡ false → beyond (row_of a.kind) a ≡ true → Checked a 4

pub checked : (a : Action) → Checked a (frame_number a)
unfolding frame_number least
checked a = split (eqb (row_of a.kind) 0)
    (λ e. rw e (unknown e))
    (λ e. split (stray (row_of a.kind) a)
    (λ s. rw (e, s) (unused e s))
    (λ s. split (beyond (row_of a.kind) a) (λ b. rw (e, s, b) (out_of_range e s b)) (λ b. rw (e, s, b) (fine e s b))))

-- the number given is the lowest that applies
pub frame-lowest : (a : Action) (n : ℕ) → Applies n (frame_rules a) → (0 < frame_number a) × (frame_number a ≤ n)
unfolding frame_number rising ◌and◌
frame-lowest a n h = least-lowest 3 (frame_rules a) refl h

-- ── no row is 0, so that 0 can stand for none ──
live-row : ℕ → Bool
live-row i = isnt (eqb (get_or kinds i 0) 0)

pub no_row_is-0 : (i : ℕ) → i < 23 → eqb (get_or kinds i 0) 0 ≡ false
unfolding live-row upto kinds ◌and◌ isnt
no_row_is-0 i h = isnt-true _ (upto-at 23 live-row refl i h)

-- ── the table's rule: a kind has a row exactly when it is one of 01..05, 10..1b, 20..25 ──
within : ℕ → ℕ → ℕ → Bool
within from to k = leb from k and leb k to

in-ranges : ℕ → Bool
in-ranges k = within 0x01 0x05 k or within 0x10 0x1b k or within 0x20 0x25 k

right-row : ℕ → Bool
right-row k = beq (isnt (eqb (row_of k) 0)) (in-ranges k)

beq-eq : (a b : Bool) → beq a b ≡ true → a ≡ b
beq-eq true true e = refl
beq-eq true false e = sym e
beq-eq false true e = e
beq-eq false false e = refl

-- computed over the whole byte
kind-known : (k : ℕ) → k < 256 → isnt (eqb (row_of k) 0) ≡ in-ranges k
unfolding right-row upto row_of kinds first in-ranges within ◌and◌ ◌or◌ isnt
kind-known k h = beq-eq _ _ (upto-at 256 right-row refl k h)

-- what lies between them has none
pub no_row : (k : ℕ) → k < 256 →
    (0x01 ≤ k → k ≤ 0x05 → ⊥) → (0x10 ≤ k → k ≤ 0x1b → ⊥) → (0x20 ≤ k → k ≤ 0x25 → ⊥) → eqb (row_of k) 0 ≡ true
unfolding in-ranges within
no_row k h x y z = isnt-false _ (kind-known k h ∙ or_no (gap x) (or_no (gap y) (gap z)))
  where
    gap : {from to : ℕ} → (from ≤ k → k ≤ to → ⊥) → (leb from k and leb k to) ≡ false
    gap {from} {to} f = not-true _ (λ t. f (leb-true from k (and_l _ _ t)) (leb-true k to (and_r _ _ t)))
