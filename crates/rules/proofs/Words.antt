-- Memory: its length is kept; a cleared page is zero, and every other word as it was.
use mathlib.Core.Path.{◌≡◌, refl, ◌∙◌}
use mathlib.Core.List.{List}
use Prim.Native.Nat.{ℕ, zero, suc, ◌+◌, ◌≤◌, ◌<◌}
use native.Mathlib.Omega.{arith}
use lib.Dec.{eqb, ltb}
use lib.ListN.{get_or, set, length, length-set, get_or-eq_default}
use lib.Seq.{get_or-set_same, get_or-set_other}
use borrow.Author.Tests.{eqb-true, eqb-false, ltb-true, ltb-false}
use Rattle.numbers.specs.Sizes.{page_words}
use Rattle.numbers.specs.Addresses.{page_of, word_of}
use Rattle.numbers.proofs.Bools.{split}
use Rattle.rules.specs.Actions.{Touch, cleared, clear_page, touched}
use Rattle.rules.specs.Actions.Touch.{Keeps, Reads, Writes, Clears}

-- ── n words from place i on ──
length-cleared : (n i : ℕ) (ws : List ℕ) → length (cleared n i ws) ≡ length ws
unfolding cleared
length-cleared zero i ws = refl
length-cleared (suc n) i ws = length-set (cleared n i ws) (i + n) 0 ∙ length-cleared n i ws

set-zero : (ws : List ℕ) (i : ℕ) → get_or (set ws i 0) i 0 ≡ 0
set-zero ws i = split (ltb i (length ws))
    (λ l. get_or-set_same ws i 0 0 (ltb-true _ _ l))
    (λ l.
    let n : length ws ≤ i = ltb-false _ _ l in
    let k : length (set ws i 0) ≡ length ws = length-set ws i 0 in
    get_or-eq_default (set ws i 0) 0 (omega arith))

cleared-zero : (n i : ℕ) (ws : List ℕ) (j : ℕ) → i ≤ j → j < i + n → get_or (cleared n i ws) j 0 ≡ 0
unfolding cleared
cleared-zero zero i ws j p q = absurd (omega arith)
cleared-zero (suc n) i ws j p q = split (eqb j (i + n))
    (λ e. rw (eqb-true j (i + n) e) (set-zero (cleared n i ws) (i + n)))
    (λ e. let t : j ≡ i + n → ⊥ = eqb-false j (i + n) e in get_or-set_other (cleared n i ws) (i + n) j 0 0 t ∙ cleared-zero n i ws j p (omega arith))

cleared-other : (n i : ℕ) (ws : List ℕ) (j : ℕ) → (i ≤ j → j < i + n → ⊥) → get_or (cleared n i ws) j 0 ≡ get_or ws j 0
unfolding cleared
cleared-other zero i ws j f = refl
cleared-other (suc n) i ws j f = get_or-set_other (cleared n i ws) (i + n) j 0 0 (λ (e : j ≡ i + n). f (omega arith) (omega arith))
    ∙ cleared-other n i ws j (λ p q. f p (omega arith))

-- ── a page ──
pub length-clear_page : (p : ℕ) (ws : List ℕ) → length (clear_page p ws) ≡ length ws
unfolding clear_page
length-clear_page p ws = length-cleared page_words (word_of p 0) ws

pub page-cleared : (p : ℕ) (ws : List ℕ) (i : ℕ) → page_of i ≡ p → get_or (clear_page p ws) i 0 ≡ 0
unfolding clear_page word_of page_of page_words
page-cleared p ws i e = cleared-zero page_words (word_of p 0) ws i (omega arith) (omega arith)

pub other-page-kept : (p : ℕ) (ws : List ℕ) (i : ℕ) → (page_of i ≡ p → ⊥) → get_or (clear_page p ws) i 0 ≡ get_or ws i 0
unfolding clear_page word_of page_of page_words
other-page-kept p ws i n = cleared-other page_words (word_of p 0) ws i (λ a b. n (omega arith))

-- ── whatever an action does ──
pub length-touched : (t : Touch) (ws : List ℕ) → length (touched t ws) ≡ length ws
length-touched Keeps ws = refl
length-touched (Reads at) ws = refl
length-touched (Writes at w) ws = length-set ws at w
length-touched (Clears p) ws = length-clear_page p ws
