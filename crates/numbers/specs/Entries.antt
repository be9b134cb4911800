-- Entries of maps and TLBs, and shared pairs, each as one word. A free place is 0; a live one has a 1 above its fields.
use Rattle.std.specs.Prelude.{ℕ, ◌+◌, ◌*◌, ◌/◌, ◌%◌, Bool, eqb}
use Rattle.numbers.specs.Sizes.{access_span, page_span, gpage_span, guest_span, unit_span}

-- ── made: unit u (0 in a map), guest g, guest page v, page p, access x ──
-- the key: what stands above page and access
unfoldable pub key_of : ℕ → ℕ → ℕ → ℕ
key_of u g v = v + gpage_span * (g + guest_span * (u + unit_span))

unfoldable pub entry : ℕ → ℕ → ℕ → ℕ → ℕ → ℕ
entry u g v p x = x + access_span * (p + page_span * key_of u g v)

-- ── taken apart ──
unfoldable pub access_in : ℕ → ℕ
access_in w = w % access_span

unfoldable pub page_in : ℕ → ℕ
page_in w = w / access_span % page_span

unfoldable pub key_in : ℕ → ℕ
key_in w = w / access_span / page_span

unfoldable pub gpage_in : ℕ → ℕ
gpage_in w = key_in w % gpage_span

unfoldable pub guest_in : ℕ → ℕ
guest_in w = key_in w / gpage_span % guest_span

unfoldable pub unit_in : ℕ → ℕ
unit_in w = key_in w / gpage_span / guest_span % unit_span

-- the 1 of a live entry
unfoldable pub tag_in : ℕ → ℕ
tag_in w = key_in w / gpage_span / guest_span / unit_span

-- the same entry at another unit
unfoldable pub at_unit : ℕ → ℕ → ℕ
at_unit u w = entry u (guest_in w) (gpage_in w) (page_in w) (access_in w)

-- ── what an entry allows: bit 0 of its access read, bit 1 write ──
unfoldable pub readable : ℕ → Bool
readable w = eqb (access_in w % 2) 1

unfoldable pub writable : ℕ → Bool
writable w = eqb (access_in w / 2 % 2) 1

-- ── pairs: left guest l, right guest r, page p, access x ──
unfoldable pub pair : ℕ → ℕ → ℕ → ℕ → ℕ
pair l r p x = x + access_span * (p + page_span * (r + guest_span * (l + guest_span)))

unfoldable pub right_in : ℕ → ℕ
right_in q = key_in q % guest_span

unfoldable pub left_in : ℕ → ℕ
left_in q = key_in q / guest_span % guest_span

-- the 1 of a live pair
unfoldable pub pair_tag_in : ℕ → ℕ
pair_tag_in q = key_in q / guest_span / guest_span
