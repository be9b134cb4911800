-- Whatever the tables of good order name is in range: past the end nobody is present, holds, or runs.
use mathlib.Core.Path.{◌≡◌}
use mathlib.Core.Bool.{true, false}
use mathlib.Core.List.{List}
use Prim.Native.Nat.{ℕ, ◌<◌}
use native.Mathlib.Omega.{arith}
use lib.Dec.{ltb}
use lib.ListN.{get_or, length}
use borrow.Author.Tests.{ltb-true, ltb-false, leb-false, lt-leb}
use Rattle.numbers.specs.Sizes.{guests, units, pages}
use Rattle.numbers.specs.Frames.{off}
use Rattle.numbers.proofs.Bools.{split, clash}
use Rattle.tables.specs.State.{nobody, is_present, in_region, holder_of, dma_of, running_on}
use Rattle.tables.specs.Wf.{Wf}
use Rattle.tables.specs.declared.state.Tables.{Tables}
use Rattle.tables.proofs.LoopLaws.{get_d_past}

-- what is not the default stands before the end
before-end : {A : Type 0} (l : List A) (d : A) (n i : ℕ) → length l ≡ n → (get_or l i d ≡ d → ⊥) → i < n
before-end l d n i e h = split (ltb i n) (λ t. ltb-true _ _ t) (λ t. absurd (h (get_d_past l d n i e (ltb-false _ _ t))))

module _ {m : Tables} (h : Wf m) where
  pub present-below : (g : ℕ) → is_present m g ≡ true → g < guests
  present-below g e = before-end m.present false guests g h.sizes.present (λ z. clash e z)

  pub region-below : (p : ℕ) → in_region m p ≡ true → p < pages
  region-below p e = before-end m.region false pages p h.sizes.region (λ z. clash e z)

  pub holder-below : (p : ℕ) → 0 < holder_of m p → p < pages
  holder-below p e = before-end m.holder nobody pages p h.sizes.holder (λ (z : holder_of m p ≡ nobody). omega arith)

  pub dma-below : (p : ℕ) → 0 < dma_of m p → p < pages
  dma-below p e = before-end m.dma nobody pages p h.sizes.dma (λ (z : dma_of m p ≡ nobody). omega arith)

  pub running-below : (u : ℕ) → 0 < running_on m u → u < units
  running-below u e = before-end m.running nobody units u h.sizes.running (λ (z : running_on m u ≡ nobody). omega arith)

-- and numbers in range pass the test
pub in-range : (n count : ℕ) → n < count → off n count ≡ false
in-range n count l = lt-leb count n l

pub below : (n count : ℕ) → off n count ≡ false → n < count
below n count e = leb-false count n e
