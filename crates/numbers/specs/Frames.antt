-- Frames: the action that 16 bytes say, the table of the 23 kinds, and refusals 3 and 4.
use Rattle.std.specs.Prelude.{ℕ, zero, suc, ◌+◌, ◌*◌, ◌/◌, ◌%◌, ◌^◌, Bool, List, [], ◌∷◌, eqb, leb, get_or}
use Rattle.numbers.specs.Sizes.{guests, units, pages, gpages, accesses, guest_words}
use Rattle.numbers.specs.Tests.{◌and◌, ◌or◌, isnt}
use Rattle.numbers.specs.Rules.{Rules, least}
use Rattle.numbers.specs.Rules.Rules.{accept, ◌⇒◌∣◌}
use Rattle.numbers.specs.Search.{first}
use Rattle.numbers.specs.declared.frames.Action.{Action}

-- ── 16 bytes as an action ──
-- the number of n bytes from place i on, highest byte first
unfoldable pub big : ℕ → List ℕ → ℕ → ℕ
big zero s i = 0
big (suc n) s i = 256 * big n s i + get_or s (i + n) 0

-- kind, guest, second, access, address (2 bytes), page (2), word (8)
unfoldable pub decode : List ℕ → Action
decode s = record {
  kind = get_or s 0 0;
  guest = get_or s 1 0;
  second = get_or s 2 0;
  access = get_or s 3 0;
  address = big 2 s 4;
  page = big 2 s 6;
  word = big 8 s 8;
}

-- ── which fields a kind uses: a flag each. The second is a unit or the right guest, the address a word's or a guest page ──
abbrev GUEST : ℕ
GUEST = 2 ^ 0

abbrev UNIT : ℕ
UNIT = 2 ^ 1

abbrev RIGHT : ℕ
RIGHT = 2 ^ 2

abbrev ACCESS : ℕ
ACCESS = 2 ^ 3

abbrev ADDRESS : ℕ
ADDRESS = 2 ^ 4

abbrev GPAGE : ℕ
GPAGE = 2 ^ 5

abbrev PAGE : ℕ
PAGE = 2 ^ 6

abbrev WORD : ℕ
WORD = 2 ^ 7

-- a row has its kind above the flags
abbrev KIND : ℕ
KIND = 2 ^ 8

abbrev row : ℕ → ℕ → ℕ
row kind flags = kind * KIND + flags

unfoldable pub kinds : List ℕ
kinds =
    row 0x01 (GUEST + UNIT + ADDRESS)  -- Read
    ∷ row 0x02 (GUEST + UNIT + ADDRESS + WORD)  -- Write
    ∷ row 0x03 (GUEST + UNIT + WORD)  -- HyperCall
    ∷ row 0x04 (GUEST + UNIT + ADDRESS)  -- DmaRead
    ∷ row 0x05 (GUEST + UNIT + ADDRESS + WORD)  -- DmaWrite
    ∷ row 0x10 GUEST  -- AddVm
    ∷ row 0x11 GUEST  -- RemoveVm
    ∷ row 0x12 (GUEST + PAGE)  -- AssignPage
    ∷ row 0x13 (GUEST + PAGE)  -- ReclaimPage
    ∷ row 0x14 (GUEST + RIGHT + PAGE)  -- SharePage
    ∷ row 0x15 (GUEST + RIGHT + PAGE)  -- UnsharePage
    ∷ row 0x16 (GUEST + GPAGE + PAGE + ACCESS)  -- Map
    ∷ row 0x17 (GUEST + GPAGE)  -- Unmap
    ∷ row 0x18 (GUEST + UNIT)  -- ContextSwitch
    ∷ row 0x19 UNIT  -- Idle
    ∷ row 0x1a (GUEST + UNIT + GPAGE)  -- Fill
    ∷ row 0x1b (GUEST + UNIT + GPAGE)  -- Drop
    ∷ row 0x20 (GUEST + PAGE)  -- IommuAssignPage
    ∷ row 0x21 (GUEST + PAGE)  -- IommuReclaimPage
    ∷ row 0x22 (GUEST + GPAGE + PAGE + ACCESS)  -- IommuMap
    ∷ row 0x23 (GUEST + GPAGE)  -- IommuUnmap
    ∷ row 0x24 (GUEST + UNIT + GPAGE)  -- IommuFill
    ∷ row 0x25 (GUEST + UNIT + GPAGE)  -- IommuDrop
    ∷ []

abbrev pub of_kind : ℕ → ℕ → Bool
of_kind k r = eqb k (r / KIND)

-- the row of a kind, or 0 where the kind is unknown
unfoldable pub row_of : ℕ → ℕ
row_of k = get_or kinds (first (of_kind k) kinds) 0

-- ── the frame check ──
unfoldable pub uses : ℕ → ℕ → Bool
uses r flag = eqb (r / flag % 2) 1

-- an unused field is not zero
unfoldable pub stray : ℕ → Action → Bool
stray r a =
    isnt (uses r GUEST) and isnt (eqb a.guest 0)
    or isnt (uses r UNIT or uses r RIGHT) and isnt (eqb a.second 0)
    or isnt (uses r ACCESS) and isnt (eqb a.access 0)
    or isnt (uses r ADDRESS or uses r GPAGE) and isnt (eqb a.address 0)
    or isnt (uses r PAGE) and isnt (eqb a.page 0)
    or isnt (uses r WORD) and isnt (eqb a.word 0)

-- a number is out of range
abbrev pub off : ℕ → ℕ → Bool
off n count = leb count n

unfoldable pub beyond : ℕ → Action → Bool
beyond r a =
    uses r GUEST and off a.guest guests
    or uses r UNIT and off a.second units
    or uses r RIGHT and off a.second guests
    or uses r ACCESS and off a.access accesses
    or uses r ADDRESS and off a.address guest_words
    or uses r GPAGE and off a.address gpages
    or uses r PAGE and off a.page pages

abbrev pub frame_rules : Action → Rules
frame_rules a =
    let r = row_of a.kind in
    eqb r 0 ⇒ 3 ∣
    stray r a ⇒ 3 ∣
    beyond r a ⇒ 4 ∣
    accept

unfoldable pub frame_number : Action → ℕ
frame_number a = least (frame_rules a)
