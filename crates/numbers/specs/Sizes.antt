-- The sizes of 01. No other file of definitions has them.
use Rattle.std.specs.Prelude.{ℕ, ◌*◌, ◌^◌}

-- ── how many there are: a number is in range below its count ──
unfoldable pub guests : ℕ
guests = 8

-- CPUs, and streams
unfoldable pub units : ℕ
units = 4

unfoldable pub pages : ℕ
pages = 64

unfoldable pub gpages : ℕ
gpages = 256

unfoldable pub page_words : ℕ
page_words = 16

-- bit 0 read, bit 1 write
unfoldable pub accesses : ℕ
accesses = 4

-- the words of all guest pages: a guest word address is below this
abbrev pub guest_words : ℕ
guest_words = gpages * page_words

-- the words of memory
abbrev pub memory_words : ℕ
memory_words = pages * page_words

-- ── room in each table ──
unfoldable pub map_room : ℕ
map_room = 64

unfoldable pub tlb_room : ℕ
tlb_room = 32

unfoldable pub pair_room : ℕ
pair_room = 16

-- ── how many values each field of an entry or a pair has room for; a page has ten bits, so that more pages change no entry ──
unfoldable pub access_span : ℕ
access_span = 4

unfoldable pub page_span : ℕ
page_span = 2 ^ 10

unfoldable pub gpage_span : ℕ
gpage_span = 256

unfoldable pub guest_span : ℕ
guest_span = 8

unfoldable pub unit_span : ℕ
unit_span = 4

-- ── frames ──
unfoldable pub frame_bytes : ℕ
frame_bytes = 16
