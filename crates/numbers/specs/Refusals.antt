-- Refusals by name, and the numbers that the rules speak of.
use Rattle.std.specs.Prelude.{ℕ, Result, Ok, Err}
use Rattle.numbers.specs.declared.refusals.Refusal.{Refusal}
use Rattle.numbers.specs.declared.refusals.Refusal.TheVariants.{Lengths, Disorder, NotAFrame, OutOfRange, SameGuest, AbsentGuest, PresentGuest, Elsewhere, NoTranslation, NotAllowed, NotHeld, Taken, StillInUse, NotThere, NoRoom}

abbrev pub number_of : Refusal → ℕ
number_of Lengths = 1
number_of Disorder = 2
number_of NotAFrame = 3
number_of OutOfRange = 4
number_of SameGuest = 5
number_of AbsentGuest = 6
number_of PresentGuest = 7
number_of Elsewhere = 8
number_of NoTranslation = 9
number_of NotAllowed = 10
number_of NotHeld = 11
number_of Taken = 12
number_of StillInUse = 13
number_of NotThere = 14
number_of NoRoom = 15

-- the number of an answer: 0 is an acceptance, whatever it carries
abbrev pub numbered : {A : Type 0} → Result A Refusal → ℕ
numbered (Ok x) = 0
numbered (Err r) = number_of r
