-- A pair made of numbers in range.
use mathlib.Core.Path.{◌≡◌}
use mathlib.Core.Bool.{Bool, true, false}
use mathlib.Core.List.{List}
use Prim.Native.Nat.{ℕ, ◌<◌}
use native.Mathlib.Omega.{arith}
use lib.ListN.{get_or}
use Rattle.numbers.specs.Sizes.{guests, pages, access_span}
use Rattle.numbers.specs.Entries.{page_in, left_in, right_in, pair}
use Rattle.numbers.proofs.EntryLaws.{counts-fit, access-pair, page-pair, left-pair, right-pair, tag-pair}
use Rattle.tables.specs.Wants.{to_page, joins, shared_by, same_pair}
use Rattle.tables.specs.Wf.{PairWf}
use Rattle.rules.specs.Source.{edge}

pub record Paired (l r p : ℕ) : Type 0 where
  pub left : l < guests
  pub right : r < guests
  pub page : p < pages

no_access : 0 < access_span
unfolding access_span
no_access = omega arith

module _ (l r p : ℕ) (k : Paired l r p) where
  pub made-left : left_in (pair l r p 0) ≡ l
  made-left = left-pair l r p 0 (counts-fit.page p k.page) no_access (counts-fit.guest l k.left) (counts-fit.guest r k.right)

  pub made-right : right_in (pair l r p 0) ≡ r
  made-right = right-pair l r p 0 (counts-fit.page p k.page) no_access (counts-fit.guest l k.left) (counts-fit.guest r k.right)

  pub made-page : page_in (pair l r p 0) ≡ p
  made-page = page-pair l r p 0 (counts-fit.page p k.page) no_access

  pub pair-wf : {here : List Bool} → (l ≡ r → ⊥) → get_or here l false ≡ true → get_or here r false ≡ true → PairWf here (pair l r p 0)
  pair-wf differ left right = record {
    live_tag = tag-pair l r p 0 (counts-fit.page p k.page) no_access (counts-fit.guest l k.left) (counts-fit.guest r k.right);
    left = rw made-left k.left;
    right = rw made-right k.right;
    page = rw made-page k.page;
    access = access-pair l r p 0 (counts-fit.page p k.page) no_access;
    differ = rw (made-left, made-right) differ;
    left_present = rw made-left left;
    right_present = rw made-right right;
  }

  -- what stands under its key is what its three numbers look for
  pub pair-test : (x : ℕ) → same_pair (pair l r p 0) x ≡ shared_by l r p x
  pair-test x = rw (made-left, made-right, made-page)

  -- and others find it by its ends, in either order
  pub pair-edge : (x y q : ℕ) → shared_by x y q (pair l r p 0) ≡ edge l r p x y q
  unfolding to_page joins
  pair-edge x y q = rw (made-left, made-right, made-page)
