-- A refusal's number is not that of an acceptance.
use Rattle.std.specs.Prelude.{◌≡◌}
use native.Mathlib.Omega.{arith}
use Rattle.numbers.specs.Refusals.{number_of}
use Rattle.numbers.specs.declared.refusals.Refusal.{Refusal}
use Rattle.numbers.specs.declared.refusals.Refusal.TheVariants.{Lengths, Disorder, NotAFrame, OutOfRange, SameGuest, AbsentGuest, PresentGuest, Elsewhere, NoTranslation, NotAllowed, NotHeld, Taken, StillInUse, NotThere, NoRoom}

pub refusal-not-0 : (r : Refusal) → number_of r ≡ 0 → ⊥
refusal-not-0 Lengths e = omega arith
refusal-not-0 Disorder e = omega arith
refusal-not-0 NotAFrame e = omega arith
refusal-not-0 OutOfRange e = omega arith
refusal-not-0 SameGuest e = omega arith
refusal-not-0 AbsentGuest e = omega arith
refusal-not-0 PresentGuest e = omega arith
refusal-not-0 Elsewhere e = omega arith
refusal-not-0 NoTranslation e = omega arith
refusal-not-0 NotAllowed e = omega arith
refusal-not-0 NotHeld e = omega arith
refusal-not-0 Taken e = omega arith
refusal-not-0 StillInUse e = omega arith
refusal-not-0 NotThere e = omega arith
refusal-not-0 NoRoom e = omega arith
