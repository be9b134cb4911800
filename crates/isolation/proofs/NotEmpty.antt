-- Demand 3's hypotheses can be met, and by two runs that do differ. Guest 1 holds page 5, a word of which is 7 in one run and 9 in the
-- other. It maps the page, runs, and writes a second word there, again 7 or 9. Then the page is taken from it and given to guest 2,
-- which maps it, runs, and reads both words: 0, in both runs.
use mathlib.Core.Path.{◌≡◌, refl, sym, ◌∙◌, ap, subst}
use mathlib.Core.Bool.{Bool, true, false, cond}
use mathlib.Core.List.{List, [], ◌∷◌, map}
use Prim.Native.Nat.{ℕ, suc}
use native.Mathlib.Omega.{arith}
use lib.Dec.{eqb}
use lib.ListN.{get_or, replicate, set, length-set}
use lib.Seq.{get_or-set_other}
use borrow.Author.Tests.{eqb-true}
use Rattle.numbers.specs.Sizes.{guests, units, pages, gpages, accesses, page_words, access_span, page_span, gpage_span, guest_span, unit_span, map_room, tlb_room, pair_room}
use Rattle.numbers.specs.Tests.{◌and◌, ◌or◌, isnt}
use Rattle.numbers.specs.Rules.{least}
use Rattle.numbers.specs.Search.{first, upto}
use Rattle.numbers.specs.Addresses.{page_of, offset_of, word_of}
use Rattle.numbers.specs.Entries.{key_of, entry, access_in, page_in, key_in, readable, writable}
use Rattle.numbers.specs.Frames.{kinds, row_of, uses, stray, beyond}
use Rattle.numbers.specs.declared.frames.Action.{Action}
use Rattle.numbers.proofs.Bools.{split, clash, isnt-true}
use Rattle.numbers.proofs.SearchLaws.{upto-at}
use Rattle.tables.specs.Table.{all, find, has, full, seat, put, wipe, each, uniq}
use Rattle.tables.specs.Wants.{has_key}
use Rattle.tables.specs.State.{reach, effective_entry, bare, bit, tabulate, boot}
use Rattle.tables.specs.Wf.{vm_ok, page_ok, pages_ok, cpus_ok, walk_ok, sized, in_order, wf}
use Rattle.tables.specs.declared.state.Side.TheVariants.{Cpu}
use Rattle.rules.specs.Actions.{Op, another, cleared, clear_page, accepted, next, does}
use Rattle.rules.specs.Actions.Op.{Read, Write, AssignPage, ReclaimPage, Map, Unmap, ContextSwitch}
use Rattle.rules.specs.Calls.{op_of, ◌then◌, action_rules, Machine, after, answer, action_at}
use Rattle.rules.proofs.Asking.{frame_of}
use Rattle.isolation.specs.Marks.{Marks, ours, marks, left_marked, touch_at, still_marked, with_word, Same, gives_away, Alike, Twins}
use Rattle.isolation.specs.Marks.Same.{same, wrote}
use Rattle.isolation.specs.Demands.{TwoRuns}
use Rattle.isolation.proofs.OneGuest.{two_runs}
use Rattle.isolation.proofs.Examples.{done, two, held, filled}

-- ── the two states ──
-- the words of memory that are to differ: one from the start on, one that guest 1 writes. Both are of page 5
pub stored : ℕ
stored = word_of 5 4

pub spoken : ℕ
spoken = word_of 5 3

-- guest 1 holds page 5; the stored word is w, and all others are 0
pub start : ℕ → Machine
start w = record { tables = held; memory = set (filled 0) stored w }

-- ── the two lists of actions ──
ops : List Op
ops =
    -- guest 1 maps page 5, runs on CPU 0, writes there, and reads its own word
    Map Cpu 1 2 5 3
    ∷ ContextSwitch 1 0
    ∷ Write Cpu 1 0 0x23 7
    ∷ Read Cpu 1 0 0x23
    -- the page goes from guest 1 to guest 2
    ∷ Unmap Cpu 1 2
    ∷ ReclaimPage 1 5
    ∷ AssignPage 2 5
    -- guest 2 maps it, runs on CPU 0, and reads both words
    ∷ Map Cpu 2 0 5 1
    ∷ ContextSwitch 2 0
    ∷ Read Cpu 2 0 0x04
    ∷ Read Cpu 2 0 0x03
    ∷ []

-- how many they are; how many are done when guest 1 is about to write, when the page is reclaimed, and when it is guest 2's
abbrev pub count : ℕ
count = 11

abbrev pub writing : ℕ
writing = 2

abbrev pub reclaimed : ℕ
reclaimed = 6

abbrev pub reassigned : ℕ
reassigned = 7

pub one : ℕ → Action
one = action_at (map frame_of ops)

-- the same, but that guest 1 writes 9
pub other : ℕ → Action
other i = cond (eqb i writing) (with_word 9 (one i)) (one i)

-- ── what is computed of them ──
-- the marks of the first run after i actions
pub marked-at : ℕ → Marks
marked-at i = still_marked (marks (eqb 1) (start 7).tables) one (start 7) i

-- the action at place i, where it is accepted, shares no marked page with somebody outside
pub keeps : ℕ → Bool
keeps i =
    let m = (after one i (start 7)).tables in
    isnt (accepted (action_rules m (one i)) and gives_away (eqb 1) (marked-at i) (op_of (one i)))

-- the answers of a run, the numbers and the words
pub numbers : (ℕ → Action) → Machine → List ℕ
numbers f s = tabulate count (λ i. (answer f s i).seen.number)

pub words : (ℕ → Action) → Machine → List ℕ
words f s = tabulate count (λ i. (answer f s i).seen.word)

pub record Facts : Type 0 where
  -- the hypotheses of demand 3
  pub well_formed : wf (start 7).tables ≡ true
  pub marked : marks (eqb 1) (start 7).tables (page_of stored) ≡ true
  pub written : Same (eqb 1) (marked-at writing) (touch_at one (start 7) writing) (one writing) (with_word 9 (one writing))
  pub kept : upto count keeps ≡ true
  -- every action is accepted, in both runs
  pub numbers_one : numbers one (start 7) ≡ replicate count 0
  pub numbers_other : numbers other (start 9) ≡ replicate count 0
  -- the word that is stored differs at the start, and still when the page is reclaimed
  pub stored_one : get_or (start 7).memory stored 0 ≡ 7
  pub stored_other : get_or (start 9).memory stored 0 ≡ 9
  pub stored_one_reclaimed : get_or (after one reclaimed (start 7)).memory stored 0 ≡ 7
  pub stored_other_reclaimed : get_or (after other reclaimed (start 9)).memory stored 0 ≡ 9
  -- the word that is written differs once it is, and still when the page is reclaimed
  pub spoken_one : get_or (after one (suc writing) (start 7)).memory spoken 0 ≡ 7
  pub spoken_other : get_or (after other (suc writing) (start 9)).memory spoken 0 ≡ 9
  pub spoken_one_reclaimed : get_or (after one reclaimed (start 7)).memory spoken 0 ≡ 7
  pub spoken_other_reclaimed : get_or (after other reclaimed (start 9)).memory spoken 0 ≡ 9
  -- until then the page is marked; guest 2 gets it zeroed, and the mark is gone
  pub still : marked-at reclaimed 5 ≡ true
  pub gone : marked-at reassigned 5 ≡ false
  -- guest 1 reads its own word, 7 or 9; the last two answers, which are guest 2's, are 0 and 0 in both runs
  pub words_one : words one (start 7) ≡ 0 ∷ 0 ∷ 0 ∷ 7 ∷ 0 ∷ 0 ∷ 0 ∷ 0 ∷ 0 ∷ 0 ∷ 0 ∷ []
  pub words_other : words other (start 9) ≡ 0 ∷ 0 ∷ 0 ∷ 9 ∷ 0 ∷ 0 ∷ 0 ∷ 0 ∷ 0 ∷ 0 ∷ 0 ∷ []

pub facts : Facts
unfolding start stored spoken ops one other marked-at keeps numbers words done two held filled guests units pages gpages accesses page_words access_span page_span gpage_span guest_span unit_span map_room tlb_room pair_room ◌and◌ ◌or◌ isnt least first upto page_of offset_of word_of key_of entry access_in page_in key_in readable writable kinds row_of uses stray beyond all find has full seat put wipe each uniq has_key reach effective_entry bare bit tabulate boot vm_ok page_ok pages_ok cpus_ok walk_ok sized in_order wf another cleared clear_page next does ◌then◌ after answer ours marks left_marked still_marked
facts = record {
  well_formed = refl;
  marked = refl;
  written = wrote refl refl refl;
  kept = refl;
  numbers_one = refl;
  numbers_other = refl;
  stored_one = refl;
  stored_other = refl;
  stored_one_reclaimed = refl;
  stored_other_reclaimed = refl;
  spoken_one = refl;
  spoken_other = refl;
  spoken_one_reclaimed = refl;
  spoken_other_reclaimed = refl;
  still = refl;
  gone = refl;
  words_one = refl;
  words_other = refl;
}

-- ── so they are twins, and two ──
-- the memories are equal everywhere but at one word, and that is of a marked page
alike : Alike (marks (eqb 1) (start 7).tables) (start 7).memory (start 9).memory
unfolding start
alike = record {
  long = length-set (filled 0) stored 7 ∙ sym (length-set (filled 0) stored 9);
  equal = λ i unmarked.
      let elsewhere : i ≡ stored → ⊥ = λ e. clash facts.marked (subst (λ (j : ℕ). marks (eqb 1) held (page_of j) ≡ false) e unmarked) in
      get_or-set_other (filled 0) stored i 7 0 elsewhere ∙ sym (get_or-set_other (filled 0) stored i 9 0 elsewhere);
}

-- the action is the same at every place but one, and there guest 1 writes
matching : (i : ℕ) → Same (eqb 1) (marked-at i) (touch_at one (start 7) i) (one i) (other i)
unfolding other
matching i = split (eqb i writing)
    (λ e. rw (eqb-true i writing e) facts.written)
    (λ e. rw e same)

pub twins : Twins (eqb 1) (start 7) (start 9) one other count
unfolding start keeps marked-at
twins = record {
  tables = refl;
  memory = alike;
  actions = λ i below. record { same = matching i; kept = isnt-true _ (upto-at count keeps facts.kept i below) };
}

-- in 01's words too
pub runs : TwoRuns 1 (start 7) (start 9) one other count
runs = (two_runs 1 (start 7) (start 9) one other count).0 (facts.well_formed, twins)

pub differ : start 7 ≡ start 9 → ⊥
differ e =
    let seven_nine : ◌≡◌ {A = ℕ} 7 9 = sym facts.stored_one ∙ ap (λ (s : Machine). get_or s.memory stored 0) e ∙ facts.stored_other in
    omega arith
