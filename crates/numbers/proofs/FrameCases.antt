-- Frames worked out: how 16 bytes are read, and what the check says of 01's own lines and at the edges of each rule.
use mathlib.Core.Path.{◌≡◌, refl}
use mathlib.Core.Bool.{Bool, true}
use mathlib.Core.List.{List, [], ◌∷◌}
use Prim.Native.Nat.{ℕ}
use lib.Dec.{eqb}
use Rattle.numbers.specs.Sizes.{guests, units, pages, gpages, accesses, page_words}
use Rattle.numbers.specs.Tests.{◌and◌, ◌or◌, isnt}
use Rattle.numbers.specs.Rules.{least}
use Rattle.numbers.specs.Search.{first}
use Rattle.numbers.specs.Frames.{big, decode, kinds, row_of, uses, stray, beyond, frame_number}
use Rattle.numbers.specs.declared.frames.Action.{Action}

-- each field by its own bytes, highest byte first
decoded : decode (0x01 ∷ 0x23 ∷ 0x45 ∷ 0x67 ∷ 0x89 ∷ 0xab ∷ 0xcd ∷ 0xef ∷ 0x10 ∷ 0x32 ∷ 0x54 ∷ 0x76 ∷ 0x98 ∷ 0xba ∷ 0xdc ∷ 0xfe ∷ []) ≡
    record { kind = 0x01; guest = 0x23; second = 0x45; access = 0x67; address = 0x89ab; page = 0xcdef; word = 0x1032547698badcfe }
unfolding decode big
decoded = refl

-- kind, guest, second, access, address, page, word, and the number that the check gives
record Case : Type 0 where
  action : Action
  number : ℕ

case : ℕ → ℕ → ℕ → ℕ → ℕ → ℕ → ℕ → ℕ → Case
case k g s x a p w n = record { action = record { kind = k; guest = g; second = s; access = x; address = a; page = p; word = w }; number = n }

cases : List Case
cases =
    -- 01's whole input, after the boot line
    case 0x10 1 0 0 0 0 0 0
    ∷ case 0x12 1 0 0 0 5 0 0
    ∷ case 0x16 1 0 3 2 5 0 0
    ∷ case 0x18 1 0 0 0 0 0 0
    ∷ case 0x02 1 0 0 0x21 0 0xab 0
    ∷ case 0x01 1 0 0 0x21 0 0 0
    -- the last word address, and one more (case 9 of the marked proofs); the last guest page, and one more
    ∷ case 0x01 7 3 0 4095 0 0 0
    ∷ case 0x01 7 3 0 4096 0 0 4
    ∷ case 0x17 0 0 0 255 0 0 0
    ∷ case 0x17 0 0 0 256 0 0 4
    -- guest, unit, page and access at their ends
    ∷ case 0x10 8 0 0 0 0 0 4
    ∷ case 0x18 0 4 0 0 0 0 4
    ∷ case 0x12 0 0 0 0 63 0 0
    ∷ case 0x12 0 0 0 0 64 0 4
    ∷ case 0x22 0 0 4 0 0 0 4
    -- the right guest is a guest's number and no unit's
    ∷ case 0x14 1 7 0 0 5 0 0
    ∷ case 0x14 1 8 0 0 5 0 4
    -- unknown kinds
    ∷ case 0x00 0 0 0 0 0 0 3
    ∷ case 0x06 0 0 0 0 0 0 3
    ∷ case 0x1c 0 0 0 0 0 0 3
    ∷ case 0x26 0 0 0 0 0 0 3
    ∷ case 0xff 0 0 0 0 0 0 3
    -- unused fields, each by itself; an unused field beats a number out of range
    ∷ case 0x19 1 0 0 0 0 0 3
    ∷ case 0x10 1 1 0 0 0 0 3
    ∷ case 0x01 1 0 1 0 0 0 3
    ∷ case 0x03 1 0 0 1 0 0 3
    ∷ case 0x02 1 0 0 0 1 0 3
    ∷ case 0x01 1 0 0 0 0 1 3
    ∷ case 0x10 8 0 4 0 0 0 3
    ∷ []

right : Case → Bool
right c = eqb (frame_number c.action) c.number

all_right : List Case → Bool
all_right [] = true
all_right (c ∷ cs) = right c and all_right cs

checked-cases : all_right cases ≡ true
unfolding all_right right cases case frame_number least row_of kinds first stray beyond uses ◌and◌ ◌or◌ isnt guests units pages gpages accesses page_words
checked-cases = refl
