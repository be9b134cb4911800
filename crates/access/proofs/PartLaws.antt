-- A search of a list of holders, and a page cleared word by word.
use mathlib.Core.Path.{◌≡◌, refl, ◌∙◌}
use mathlib.Core.List.{List, [], ◌∷◌}
use Prim.Native.Nat.{ℕ, suc, ◌+◌}
use native.Mathlib.Numerals.{add-one}
use native.Mathlib.Omega.{arith}
use lib.Dec.{eqb, leb-suc-suc}
use lib.ListN.{length, set}
use borrow.Author.Tests.{lt-ltb}
use Rattle.std.specs.List.{list_any}
use Rattle.numbers.specs.Addresses.{word_of}
use Rattle.numbers.specs.Search.{first}
use Rattle.numbers.proofs.Bools.{split, eqb_comm}
use Rattle.rules.specs.Actions.{named, cleared}

-- to be named is to be found, in either order of the test
pub named_any : (h : ℕ) (t : List ℕ) → named h t ≡ list_any (λ x. eqb x h) t
unfolding named first
named_any h [] = refl
named_any h (x ∷ t) =
    let turned : eqb h x ≡ eqb x h = eqb_comm h x in
    let later : named h t ≡ list_any (λ y. eqb y h) t = named_any h t in
    rw turned (split (eqb x h) (λ e. rw e (lt-ltb 0 (suc (length t)) (omega arith))) (λ e. rw e (leb-suc-suc _ _ ∙ later)))

pub cleared_more : (n p : ℕ) (ws : List ℕ) → set (cleared n (word_of p 0) ws) (word_of p n) 0 ≡ cleared (n + 1) (word_of p 0) ws
unfolding cleared word_of
cleared_more n p ws = let e : word_of p n ≡ word_of p 0 + n = omega arith in rw (add-one, e)
