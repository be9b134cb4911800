-- The hypotheses can be met by two logs that do differ, as in case 12 of 01, here as text. Guest 1 holds page 5, maps it, runs, writes 7
-- or 9 there and reads it back. Then the page is taken from it and given to guest 2, which reads 0 there in both.
use mathlib.Core.Path.{◌≡◌, refl, sym, ◌∙◌, ap}
use mathlib.Core.Bool.{Bool, true}
use mathlib.Core.List.{List, [], ◌∷◌, ◌++◌, map}
use Prim.Native.Nat.{ℕ, ◌+◌, ◌<◌}
use native.Mathlib.Omega.{arith}
use lib.Dec.{eqb}
use lib.ListN.{length, drop, get_or, set, length-map, get_or-map}
use lib.Seq.{get_or-set_same, get_or-set_other, drop-append_seam}
use borrow.Author.Tests.{eqb-true, eqb-false}
use Rattle.numbers.specs.Sizes.{guests, units, pages, gpages, accesses, page_words, frame_bytes}
use Rattle.numbers.specs.Sizes.{access_span, page_span, gpage_span, guest_span, unit_span, map_room, tlb_room, pair_room}
use Rattle.numbers.specs.Tests.{◌and◌, ◌or◌, isnt}
use Rattle.numbers.specs.Rules.{least}
use Rattle.numbers.specs.Search.{first, upto}
use Rattle.numbers.specs.Addresses.{page_of, offset_of, word_of}
use Rattle.numbers.specs.Entries.{key_of, entry, access_in, page_in, key_in, readable, writable}
use Rattle.numbers.specs.Answers.{wordless}
use Rattle.numbers.specs.Frames.{big, decode, kinds, row_of, uses, stray, beyond}
use Rattle.numbers.specs.declared.frames.Action.{Action}
use Rattle.numbers.proofs.Bools.{split, isnt-true}
use Rattle.numbers.proofs.SearchLaws.{upto-at}
use Rattle.text.specs.Text.{digit, glyph, digits, line_digits, all_digits, well_shaped, bytes_of, feed, cut, unended, all_lines, lines}
use Rattle.text.specs.Answers.{spelt, answer_bytes}
use Rattle.text.specs.Walks.{heard}
use Rattle.tables.specs.Table.{all, find, has, full, seat, put, wipe, each, uniq}
use Rattle.tables.specs.Wants.{has_key}
use Rattle.tables.specs.State.{reach, effective_entry, bare, empty, bit, tabulate, boot}
use Rattle.tables.specs.Wf.{vm_ok, page_ok, pages_ok, cpus_ok, walk_ok, sized, in_order, wf}
use Rattle.rules.specs.Actions.{another, cleared, clear_page, accepted, next, does}
use Rattle.rules.specs.Calls.{op_of, ◌then◌, action_rules, after, answer}
use Rattle.isolation.specs.Marks.{Marks, ours, marks, left_marked, touch_at, still_marked, with_word, Same, gives_away, Twins}
use Rattle.isolation.specs.Marks.Same.{same, wrote}
use Rattle.isolation.proofs.OneGuest.{two_runs}
use Rattle.lines.specs.Log.{Log, turn, after_lines, answers, start, replay}
use Rattle.logs.specs.Secrets.{action_of, action_in, machine_of, TwoLogs, line_at, after_text, ReplaysAlike}
use Rattle.logs.proofs.Isolated.{replays-isolated}

-- ── the two inputs ──
-- a line, as the number that its digits say
line : ℕ → List ℕ
line n = digits 32 n ++ feed ∷ []

-- boot: hypervisor pages 0 .. 15, region page 63. Guests 1 and 2, page 5 for guest 1
pub head : List ℕ
head =
    line 0x000000000000ffff8000000000000000
    ++ line 0x10010000000000000000000000000000
    ++ line 0x10020000000000000000000000000000
    ++ line 0x12010000000000050000000000000000

pub body : ℕ → List ℕ
body w =
    -- guest 1 maps page 5, runs on CPU 0, writes w there, and reads its own word
    line 0x16010003000200050000000000000000
    ++ line 0x18010000000000000000000000000000
    ++ line (0x02010000002300000000000000000000 + w)
    ++ line 0x01010000002300000000000000000000
    -- the page goes from guest 1 to guest 2
    ++ line 0x17010000000200000000000000000000
    ++ line 0x13010000000000050000000000000000
    ++ line 0x12020000000000050000000000000000
    -- guest 2 maps it, runs on CPU 0, and reads the word
    ++ line 0x16020001000000050000000000000000
    ++ line 0x18020000000000000000000000000000
    ++ line 0x01020000000300000000000000000000

s : Log
s = after_text head

one : ℕ → Action
one = action_in (lines (body 7))

-- ── what is computed of them ──
marked-at : ℕ → Marks
marked-at i = still_marked (marks (eqb 1) s.tables) one (machine_of s) i

keeps : ℕ → Bool
keeps i = let m = (after one i (machine_of s)).tables in
    isnt (accepted (action_rules m (one i)) and gives_away (eqb 1) (marked-at i) (op_of (one i)))

-- guest 1 reads its own word; guest 2 reads 0
pub record Reads (w : ℕ) : Type 0 where
  pub own : line_at (answers (after_text head) (lines (body w))) 3 ≡ spelt (record { number = 0; word = w })
  pub later : line_at (answers (after_text head) (lines (body w))) 9 ≡ spelt (wordless 0)

record Facts : Type 0 where
  ended : (cut [] head).rest ≡ []
  -- the hypotheses of the demand
  booted : s.booted ≡ true
  well_formed : wf s.tables ≡ true
  long : length (lines (body 7)) ≡ 10
  also_long : length (lines (body 9)) ≡ 10
  acts : map action_of (lines (body 9)) ≡ set (map action_of (lines (body 7))) 2 (with_word 9 (one 2))
  written : Same (eqb 1) (marked-at 2) (touch_at one (machine_of s) 2) (one 2) (with_word 9 (one 2))
  kept : upto 10 keeps ≡ true
  -- what is then read
  seven : Reads 7
  nine : Reads 9

facts : Facts
unfolding line head body s one marked-at keeps
    digit glyph digits line_digits all_digits well_shaped bytes_of feed cut unended all_lines
    turn spelt answer_bytes after_lines answers start heard
    frame_bytes guests units pages gpages accesses page_words access_span page_span gpage_span guest_span unit_span
    map_room tlb_room pair_room ◌and◌ ◌or◌ isnt least first upto page_of offset_of word_of
    key_of entry access_in page_in key_in readable writable big decode kinds row_of uses stray beyond
    all find has full seat put wipe each uniq has_key reach effective_entry bare empty bit tabulate boot
    vm_ok page_ok pages_ok cpus_ok walk_ok sized in_order wf
    another cleared clear_page next does ◌then◌ after answer ours marks left_marked still_marked
facts = record {
  ended = refl;
  booted = refl;
  well_formed = refl;
  long = refl;
  also_long = refl;
  acts = refl;
  written = wrote refl refl refl;
  kept = refl;
  seven = record { own = refl; later = refl };
  nine = record { own = refl; later = refl };
}

-- ── so they are two logs ──
-- the action is the same at every place but one, and there guest 1 writes
matching : (i : ℕ) → Same (eqb 1) (marked-at i) (touch_at one (machine_of s) i) (one i) (action_in (lines (body 9)) i)
unfolding one
matching i =
    let acts = map action_of (lines (body 7)) in
    let write = with_word 9 (one 2) in
    let other : action_in (lines (body 9)) i ≡ get_or (set acts 2 write) i (action_of []) =
    sym (get_or-map action_of (lines (body 9)) i []) ∙ ap (λ (xs : List Action). get_or xs i (action_of [])) facts.acts in
    let below : 2 < length acts = omega (arith, length-map (lines (body 7)) action_of, facts.long) in
    rw other (split (eqb i 2)
    (λ e. rw (eqb-true i 2 e, get_or-set_same acts 2 write (action_of []) below) facts.written)
    (λ e. rw (get_or-set_other acts 2 i write (action_of []) (eqb-false i 2 e), get_or-map action_of (lines (body 7)) i []) same))

twins : Twins (eqb 1) (machine_of s) (machine_of s) one (action_in (lines (body 9))) 10
unfolding keeps marked-at
twins = record {
  tables = refl;
  memory = record { long = refl; equal = λ i e. refl };
  actions = λ i below. record { same = matching i; kept = isnt-true _ (upto-at 10 keeps facts.kept i below) };
}

pub logs : TwoLogs 1 (after_text head) (after_text head) (lines (body 7)) (lines (body 9))
unfolding s one
logs = record {
  booted = facts.booted;
  also_booted = facts.booted;
  long = facts.long ∙ sym facts.also_long;
  runs = rw facts.long ((two_runs 1 (machine_of s) (machine_of s) one (action_in (lines (body 9))) 10).0 (facts.well_formed, twins));
}

pub alike : ReplaysAlike 1 head (body 7) (body 9)
alike = replays-isolated 1 head (body 7) (body 9) facts.ended logs

pub reads : Reads 7 × Reads 9
reads = (facts.seven, facts.nine)

-- the whole outputs differ, for guest 1 is answered its own word
pub differ : replay (head ++ body 7) ≡ replay (head ++ body 9) → ⊥
unfolding spelt digits glyph
differ e =
    let x = answers (after_text head) (lines (body 7)) in
    let y = answers (after_text head) (lines (body 9)) in
    let front = replay head in
    let same : x ≡ y =
    sym (drop-append_seam front x) ∙ ap (drop (length front)) (sym alike.first ∙ e ∙ alike.second) ∙ drop-append_seam front y in
    let words : spelt (record { number = 0; word = 7 }) ≡ spelt (record { number = 0; word = 9 }) =
    sym reads.0.own ∙ ap (λ (out : List ℕ). line_at out 3) same ∙ reads.1.own in
    let last-digit : ◌≡◌ {A = ℕ} 55 57 = ap (λ (l : List ℕ). get_or l 17 0) words in
    omega arith
