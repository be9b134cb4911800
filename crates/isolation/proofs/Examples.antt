-- What the computed examples of this crate share: how they are put down, and the tables and memories that they start from.
use Prim.Native.Nat.{ℕ, ◌^◌}
use mathlib.Core.Bool.{Bool, true, false}
use mathlib.Core.List.{List, [], ◌∷◌}
use lib.Dec.{eqb}
use lib.ListN.{replicate}
use lib.Seq.{sets}
use Rattle.numbers.specs.Sizes.{page_words, memory_words}
use Rattle.numbers.specs.Tests.{◌and◌}
use Rattle.numbers.specs.Addresses.{word_of}
use Rattle.tables.specs.State.{boot}
use Rattle.tables.specs.declared.state.Tables.{Tables}
use Rattle.rules.specs.Actions.{Op}
use Rattle.rules.specs.Actions.Op.{AddVm, AssignPage}
use Rattle.rules.specs.Calls.{taken}
use Rattle.rules.proofs.Asking.{frame_of}

unfoldable pub all_true : List Bool → Bool
all_true [] = true
all_true (b ∷ bs) = b and all_true bs

unfoldable pub equal : List ℕ → List ℕ → Bool
equal [] [] = true
equal [] (y ∷ ys) = false
equal (x ∷ xs) [] = false
equal (x ∷ xs) (y ∷ ys) = eqb x y and equal xs ys

-- the tables after some actions: each is asked for by its frame, so that the frame check is done too
unfoldable pub done : Tables → List Op → Tables
done m [] = m
done m (o ∷ os) = done (taken m (frame_of o) []).tables os

-- hypervisor pages 0 .. 15, region page 63, guests 1 and 2
unfoldable pub two : Tables
two = done (boot 0xffff (2 ^ 63)) (AddVm 1 ∷ AddVm 2 ∷ [])

-- then guest 1 holds page 5
unfoldable pub held : Tables
held = done two (AssignPage 1 5 ∷ [])

-- a memory with one word everywhere; and one of zeros, but for page 5, which is full of one word
unfoldable pub filled : ℕ → List ℕ
filled w = replicate memory_words w

unfoldable pub five_full : ℕ → List ℕ
five_full w = sets (filled 0) (word_of 5 0) (replicate page_words w)
