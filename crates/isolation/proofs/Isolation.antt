-- Demand 3: one action, then a list, for a group of guests. What is equal before an action is equal after it, and so is every answer to
-- somebody outside.
use mathlib.Core.Path.{◌≡◌, refl, sym, ◌∙◌, ap, subst}
use mathlib.Core.Bool.{true, false}
use mathlib.Core.List.{List, [], ◌∷◌}
use Prim.Native.Nat.{ℕ, zero, suc, ◌≤◌}
use native.Mathlib.Omega.{arith}
use lib.Dec.{eqb}
use lib.ListN.{length, get_or, set, length-set}
use borrow.Author.Tests.{eqb-true, eqb-false}
use Rattle.numbers.specs.Tests.{◌and◌, ◌or◌, isnt}
use Rattle.numbers.specs.Rules.{Rules, least}
use Rattle.numbers.specs.Addresses.{page_of}
use Rattle.numbers.specs.Entries.{page_in}
use Rattle.numbers.specs.declared.frames.Action.{Action}
use Rattle.numbers.proofs.Bools.{split, clash, and_i, isnt-i, isnt-false, not-true}
use Rattle.tables.specs.Table.{live}
use Rattle.tables.specs.Wants.{W}
use Rattle.tables.specs.State.{map_of, tlb_of, effective_entry, may_reach}
use Rattle.tables.specs.Wf.{Wf, wf}
use Rattle.tables.specs.Views.{view}
use Rattle.tables.specs.declared.state.Tables.{Tables}
use Rattle.tables.specs.declared.state.Side.{Side}
use Rattle.tables.proofs.SourceWf.{source-wf}
use Rattle.tables.proofs.ViewLaws.{Keyed, reach-agrees}
use Rattle.tables.proofs.WfAgrees.{wf-sound}
use Rattle.rules.specs.Actions.{Op, Touch, refusals, touch, seen, word_at, accepted, next, does, touched, handed_back, holds, dma_holds}
use Rattle.rules.specs.Actions.Op.{Read, Write, HyperCall, AddVm, RemoveVm, AssignPage, ReclaimPage, SharePage, UnsharePage, Map, Unmap, ContextSwitch, Idle, Fill, Drop, IommuAssignPage, IommuReclaimPage}
use Rattle.rules.specs.Actions.Touch.{Keeps, Reads, Writes, Clears}
use Rattle.rules.specs.Calls.{op_of, action_rules, Machine, after, answer}
use Rattle.rules.proofs.Lowest.{Clear, accepted-clear}
use Rattle.rules.proofs.Words.{length-clear_page, page-cleared, other-page-kept}
use Rattle.rules.proofs.Accesses.{entries-alike, access-keyed, nothing_is, word-at-page}
use Rattle.rules.proofs.Lists.{accepted-op, after-wf}
use Rattle.isolation.specs.Marks.{Group, Marks, marks, left_marked, touch_at, still_marked, with_word, lands_in, Same, Matched, Alike, Twins, to_member, Isolated}
use Rattle.isolation.proofs.Confined.{translation-entitled}
use Rattle.isolation.proofs.Frames.{writing, same_number, reader, read-by-member}
use Rattle.isolation.proofs.Sealed.{AllSealed, sealed-start, out-of-reach, sealed-next}

-- ── the words of two memories ──
-- two stores at one place, of words that are equal if it is looked at there
pub set-alike : (ws vs : List ℕ) (at w v i : ℕ) → length ws ≡ length vs → (i ≡ at → w ≡ v) → get_or ws i 0 ≡ get_or vs i 0 →
    get_or (set ws at w) i 0 ≡ get_or (set vs at v) i 0
set-alike [] [] at w v i n f e = e
set-alike [] (y ∷ vs) at w v i n f e = absurd (omega arith)
set-alike (x ∷ ws) [] at w v i n f e = absurd (omega arith)
set-alike (x ∷ ws) (y ∷ vs) zero w v zero n f e = f refl
set-alike (x ∷ ws) (y ∷ vs) zero w v (suc i) n f e = e
set-alike (x ∷ ws) (y ∷ vs) (suc at) w v zero n f e = e
set-alike (x ∷ ws) (y ∷ vs) (suc at) w v (suc i) n f e = set-alike ws vs at w v i (omega arith) (λ q. f (ap suc q)) e

-- where nothing was zeroed, what is not marked now was not marked
still : (k : Marks) (p : ℕ) → (k p and isnt false) ≡ false → k p ≡ false
still k p e = not-true _ (λ t. clash (and_i t (isnt-i refl)) e)

module _ (k : Marks) (ws vs : List ℕ) (h : Alike k ws vs) where
  stored : (at w v : ℕ) → ((i : ℕ) → k (page_of i) ≡ false → i ≡ at → w ≡ v) → Alike (λ p. k p and isnt false) (set ws at w) (set vs at v)
  stored at w v f = record {
    long = length-set ws at w ∙ h.long ∙ sym (length-set vs at v);
    equal = λ i e. set-alike ws vs at w v i h.long (f i (still k _ e)) (h.equal i (still k _ e));
  }

  -- the same touch on both
  touched-alike : (t : Touch) → Alike (left_marked t k) (touched t ws) (touched t vs)
  unfolding left_marked
  touched-alike Keeps = record { long = h.long; equal = λ i e. h.equal i (still k _ e) }
  touched-alike (Reads at) = record { long = h.long; equal = λ i e. h.equal i (still k _ e) }
  touched-alike (Writes at w) = stored at w w (λ i e q. refl)
  touched-alike (Clears p) = record {
    long = length-clear_page p ws ∙ h.long ∙ sym (length-clear_page p vs);
    equal = λ i e. split (eqb p (page_of i))
        (λ f. let q = sym (eqb-true p (page_of i) f) in page-cleared p ws i q ∙ sym (page-cleared p vs i q))
        (λ f. let q : page_of i ≡ p → ⊥ = λ z. eqb-false p (page_of i) f (sym z) in
        other-page-kept p ws i q ∙ h.equal i (not-true _ (λ g. clash (and_i g (isnt-i f)) e)) ∙ sym (other-page-kept p vs i q));
  }

-- ── what an outsider reads ──
-- an entry that is found leads where its guest may reach
found-entitled : (d : Side) (m : Tables) (u g v : ℕ) → Wf m → Keyed u g v →
    let e = effective_entry (map_of d m) (tlb_of d m) u g v in live W e ≡ true → may_reach d m g (page_in e) ≡ true
found-entitled d m u g v w k l =
    let al = entries-alike d m [] u g v k in
    subst (λ (p : ℕ). may_reach d m g p ≡ true) (sym al.page)
    ((reach-agrees m [] g _ d).1 (translation-entitled d (view m []) u g v (source-wf m [] w) (sym al.alive ∙ l)).1)

module _ (G : Group) (m : Tables) (k : Marks) (w : Wf m) (s : AllSealed G k m) (ws vs : List ℕ) (h : Alike k ws vs) where
  outsider-reads : (d : Side) (g u a : ℕ) → G g ≡ false → Clear (refusals m (Read d g u a)) →
      get_or ws (word_at (seen d m g u a) a) 0 ≡ get_or vs (word_at (seen d m g u a) a) 0
  outsider-reads d g u a n c =
      let e = effective_entry (map_of d m) (tlb_of d m) u g (page_of a) in
      let l : live W e ≡ true = isnt-false _ (sym (nothing_is e) ∙ c 9) in
      let at = word_at (seen d m g u a) a in
      h.equal at (not-true _ (λ t. out-of-reach G m (page_in e) g (s (page_in e) (subst (λ (q : ℕ). k q ≡ true) (word-at-page e a l) t)) n d
      (found-entitled d m u g (page_of a) w (access-keyed g u a (c 4)) l)))

  hands-back : (o : Op) → reader G o ≡ false → Clear (refusals m o) → handed_back (touch m o) ws ≡ handed_back (touch m o) vs
  hands-back (Read d g u a) n c = outsider-reads d g u a n c
  hands-back (Write d g u a x) n c = refl
  hands-back (HyperCall g u x) n c = refl
  hands-back (AddVm g) n c = refl
  hands-back (RemoveVm g) n c = refl
  hands-back (AssignPage g p) n c = refl
  hands-back (ReclaimPage g p) n c = refl
  hands-back (SharePage l r p) n c = refl
  hands-back (UnsharePage l r p) n c = refl
  hands-back (Map d g v p x) n c = refl
  hands-back (Unmap d g v) n c = refl
  hands-back (ContextSwitch g u) n c = refl
  hands-back (Idle u) n c = refl
  hands-back (Fill d g u v) n c = refl
  hands-back (Drop d g u v) n c = refl
  hands-back (IommuAssignPage g p) n c = split (dma_holds m g p or holds m g p) (λ e. rw e) (λ e. rw e)
  hands-back (IommuReclaimPage g p) n c = refl

  -- accepted or refused, by whatever refusals stand in front
  hands-back-by : (rules : Rules) (o : Op) → (accepted rules ≡ true → accepted (refusals m o) ≡ true) → reader G o ≡ false →
      handed_back (does rules m o) ws ≡ handed_back (does rules m o) vs
  unfolding does
  hands-back-by rules o own n = split (accepted rules)
      (λ e. rw e (hands-back o n (accepted-clear m o (own e))))
      (λ e. rw e)

-- ── one action ──
-- only the number of the refusals decides
next-by : (rules later : Rules) (m : Tables) (o : Op) → least rules ≡ least later → next rules m o ≡ next later m o
unfolding next
next-by rules later m o e = rw e

does-by : (rules later : Rules) (m : Tables) (o : Op) → least rules ≡ least later → does rules m o ≡ does later m o
unfolding does
does-by rules later m o e = rw e

-- a write, by what it finds
next-write : (rules : Rules) (m : Tables) (d : Side) (g u a w : ℕ) → next rules m (Write d g u a w) ≡ m
unfolding next
next-write rules m d g u a w = split (accepted rules) (λ e. rw e) (λ e. rw e)

word_write : (rules : Rules) (m : Tables) (d : Side) (g u a w : ℕ) (ws : List ℕ) → handed_back (does rules m (Write d g u a w)) ws ≡ 0
unfolding does
word_write rules m d g u a w ws = split (accepted rules) (λ e. rw e) (λ e. rw e)

writes-alike : (k : Marks) (ws vs : List ℕ) → Alike k ws vs → (rules : Rules) (m : Tables) (d : Side) (g u a w v : ℕ) →
    lands_in k (does rules m (Write d g u a w)) ≡ true →
    Alike (left_marked (does rules m (Write d g u a w)) k) (touched (does rules m (Write d g u a w)) ws) (touched (does rules m (Write d g u a v)) vs)
unfolding does left_marked
writes-alike k ws vs h rules m d g u a w v = split (accepted rules)
    (λ e. rw e (λ l. stored k ws vs h _ w v (λ i n q. clash (subst (λ (j : ℕ). k (page_of j) ≡ true) (sym q) l) n)))
    (λ e. rw e (λ l. touched-alike k ws vs h Keeps))

module _ (m : Tables) (rules later : Rules) (n : least rules ≡ least later) where
  pub tables_after : (G : Group) (k : Marks) (t : Touch) (a b : Action) → Same G k t a b → next rules m (op_of a) ≡ next later m (op_of b)
  tables_after G k t a b Same.same = next-by rules later m (op_of a) n
  tables_after G k t a b (Same.wrote {w} e i l) =
      let q = writing a e in
      ap (next rules m) q.as_it_is ∙ next-write rules m _ _ _ _ _
      ∙ sym (ap (next later m) (q.with_another w) ∙ next-write later m _ _ _ _ _)

  pub words-after : (G : Group) (k : Marks) (a b : Action) (ws vs : List ℕ) → Alike k ws vs → Same G k (does rules m (op_of a)) a b →
      Alike (left_marked (does rules m (op_of a)) k) (touched (does rules m (op_of a)) ws) (touched (does later m (op_of b)) vs)
  words-after G k a b ws vs h Same.same =
      subst (λ (t : Touch). Alike (left_marked (does rules m (op_of a)) k) (touched (does rules m (op_of a)) ws) (touched t vs))
      (does-by rules later m (op_of a) n) (touched-alike k ws vs h (does rules m (op_of a)))
  words-after G k a b ws vs h (Same.wrote {w} e i l) =
      let q = writing a e in
      let write : ℕ → Op = λ x. Write q.side a.guest a.second a.address x in
      let wrote : Alike (left_marked (does rules m (write a.word)) k) (touched (does rules m (write a.word)) ws) (touched (does rules m (write w)) vs)
      = writes-alike k ws vs h rules m q.side a.guest a.second a.address a.word w
      (subst (λ (o : Op). lands_in k (does rules m o) ≡ true) q.as_it_is l) in
      subst (λ (t : Touch). Alike (left_marked (does rules m (op_of a)) k) (touched (does rules m (op_of a)) ws) (touched t vs))
      (ap (does rules m) (sym (q.with_another w)) ∙ does-by rules later m (op_of (with_word w a)) n)
      (subst (λ (o : Op). Alike (left_marked (does rules m o) k) (touched (does rules m o) ws) (touched (does rules m (write w)) vs)) (sym q.as_it_is) wrote)

  pub word_after : (G : Group) (k : Marks) (a b : Action) (ws vs : List ℕ) → Wf m → AllSealed G k m → Alike k ws vs →
      (accepted rules ≡ true → accepted (refusals m (op_of a)) ≡ true) → Same G k (does rules m (op_of a)) a b → to_member G a ≡ false →
      handed_back (does rules m (op_of a)) ws ≡ handed_back (does later m (op_of b)) vs
  word_after G k a b ws vs v s h own Same.same out =
      hands-back-by G m k v s ws vs h rules (op_of a) own (not-true _ (λ t. clash (read-by-member G a t) out))
      ∙ ap (λ (t : Touch). handed_back t vs) (does-by rules later m (op_of a) n)
  word_after G k a b ws vs v s h own (Same.wrote {w} e i l) out =
      let q = writing a e in
      ap (λ (o : Op). handed_back (does rules m o) ws) q.as_it_is ∙ word_write rules m _ _ _ _ _ ws
      ∙ sym (ap (λ (o : Op). handed_back (does later m o) vs) (q.with_another w) ∙ word_write later m _ _ _ _ _ vs)

-- ── a list ──
-- what is equal on the way, after the first i actions
record Along (G : Group) (s t : Machine) (f h : ℕ → Action) (i : ℕ) : Type 0 where
  tables : (after f i s).tables ≡ (after h i t).tables
  memory : Alike (still_marked (marks G s.tables) f s i) (after f i s).memory (after h i t).memory
  sealed : AllSealed G (still_marked (marks G s.tables) f s i) (after f i s).tables

module _ (G : Group) (s t : Machine) (f h : ℕ → Action) (n : ℕ) (w : wf s.tables ≡ true) (T : Twins G s t f h n) where
  good : (i : ℕ) → Wf (after f i s).tables
  good i = after-wf f i s (wf-sound s.tables w)

  along : (i : ℕ) → i ≤ n → Along G s t f h i
  unfolding after still_marked
  along zero l = record { tables = T.tables; memory = T.memory; sealed = sealed-start G s.tables (good 0) }
  along (suc i) l =
      let m = (after f i s).tables in
      let k = still_marked (marks G s.tables) f s i in
      let now : Along G s t f h i = along i (omega arith) in
      let q : Matched G k (action_rules m (f i)) m (f i) (h i) = T.actions i (omega arith) in
      let e = same_number m q.same in
      record {
        tables = tables_after m (action_rules m (f i)) (action_rules m (h i)) e G k _ (f i) (h i) q.same
            ∙ ap (λ (x : Tables). next (action_rules x (h i)) x (op_of (h i))) now.tables;
        memory = subst (λ (x : Tables). Alike (left_marked (touch_at f s i) k) (touched (touch_at f s i) (after f i s).memory)
            (touched (does (action_rules x (h i)) x (op_of (h i))) (after h i t).memory)) now.tables
            (words-after m (action_rules m (f i)) (action_rules m (h i)) e G k (f i) (h i) _ _ now.memory q.same);
        sealed = sealed-next G m k now.sealed (action_rules m (f i)) (op_of (f i)) (accepted-op m (f i)) q.kept;
      }

  pub isolation : Isolated G s t f h n
  unfolding answer
  isolation = record {
    numbers = λ i l.
        let m = (after f i s).tables in
        same_number m (T.actions i l).same ∙ ap (λ (x : Tables). least (action_rules x (h i))) (along i (omega arith)).tables;
    words = λ i l out.
        let m = (after f i s).tables in
        let now : Along G s t f h i = along i (omega arith) in
        let q = T.actions i l in
        word_after m (action_rules m (f i)) (action_rules m (h i)) (same_number m q.same) G _ (f i) (h i) _ _
        (good i) now.sealed now.memory (accepted-op m (f i)) q.same out
        ∙ ap (λ (x : Tables). handed_back (does (action_rules x (h i)) x (op_of (h i))) (after h i t).memory) now.tables;
    tables = (along n (omega arith)).tables;
    memory = (along n (omega arith)).memory;
  }
