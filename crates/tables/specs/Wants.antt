-- What is looked for in a table of words.
use Rattle.std.specs.Prelude.{ℕ, Bool, cond, List, Option, None, Some, eqb}
use Rattle.numbers.specs.Tests.{◌and◌, ◌or◌}
use Rattle.numbers.specs.Entries.{key_in, guest_in, gpage_in, page_in, left_in, right_in}
use Rattle.tables.specs.Table.{Shape, live, wipe}
use Rattle.tables.specs.declared.search.Want.{Want}
use Rattle.tables.specs.declared.search.Want.TheVariants.{Key, Everywhere, Page, Guest, Maps, Pair, End, Shared}

-- a word is live unless it is 0
abbrev pub W : Shape ℕ
W = record { zero = 0; free = λ w. eqb w 0 }

-- a word that a search by key comes to, or nothing where it is 0
abbrev pub found : ℕ → Option ℕ
found w = cond (live W w) (Some w) None

-- ── tests of a word ──
unfoldable pub has_key : ℕ → ℕ → Bool
has_key k w = eqb k (key_in w)

unfoldable pub of_guest : ℕ → ℕ → Bool
of_guest g w = eqb g (guest_in w)

unfoldable pub of_gpage : ℕ → ℕ → Bool
of_gpage v w = eqb v (gpage_in w)

-- an entry that leads to the page, or a pair on it
unfoldable pub to_page : ℕ → ℕ → Bool
to_page p w = eqb p (page_in w)

unfoldable pub ends_at : ℕ → ℕ → Bool
ends_at g q = eqb g (left_in q) or eqb g (right_in q)

-- either order counts as the same
unfoldable pub joins : ℕ → ℕ → ℕ → Bool
joins l r q = eqb l (left_in q) and eqb r (right_in q) or eqb l (right_in q) and eqb r (left_in q)

-- a guest's entries for a guest page, on every unit
abbrev pub everywhere : ℕ → ℕ → ℕ → Bool
everywhere g v w = of_guest g w and of_gpage v w

-- an entry of a guest that leads to the page
abbrev pub maps : ℕ → ℕ → ℕ → Bool
maps g p w = of_guest g w and to_page p w

-- the pair of two guests on a page
abbrev pub shared_by : ℕ → ℕ → ℕ → ℕ → Bool
shared_by l r p q = to_page p q and joins l r q

-- a pair on the page that has the guest as an end
abbrev pub shared_with : ℕ → ℕ → ℕ → Bool
shared_with g p q = to_page p q and ends_at g q

abbrev pub meets : Want → ℕ → Bool
meets (Key k) = has_key k
meets (Everywhere g v) = everywhere g v
meets (Page p) = to_page p
meets (Guest g) = of_guest g
meets (Maps g p) = maps g p
meets (Pair l r p) = shared_by l r p
meets (End g) = ends_at g
meets (Shared g p) = shared_with g p

-- ── y stands under the key of x: entries go by their key, pairs by page and ends ──
abbrev pub same_entry : ℕ → ℕ → Bool
same_entry x y = has_key (key_in x) y

abbrev pub same_pair : ℕ → ℕ → Bool
same_pair x y = shared_by (left_in x) (right_in x) (page_in x) y

-- a TLB without the guest's entries for a guest page, whatever their unit
abbrev pub invalidated : ℕ → ℕ → List ℕ → List ℕ
invalidated g v tlb = wipe W (everywhere g v) tlb
