-- An action of the source is accepted exactly when the source's guards hold, with what 01 asks besides.
use mathlib.Core.Path.{◌≡◌, refl, sym, ◌∙◌, ap, subst, fun_ext}
use mathlib.Core.Bool.{Bool, true, false, cond}
use mathlib.Core.List.{List}
use mathlib.Core.Option.{IsSome}
use mathlib.Core.Option.Option.{none, some}
use mathlib.Core.Logic.{◌↔◌, inl, inr, ⊎_elim}
use Prim.Native.Nat.{ℕ, ◌<◌}
use native.Mathlib.Omega.{arith}
use lib.Dec.{eqb, ltb}
use lib.ListN.{length, get_or}
use borrow.Author.Tests.{eqb-true, eq-eqb, eqb-false, ne_eqb, ltb-true, lt-ltb}
use Rattle.numbers.specs.Sizes.{guests, units, pages, gpages, accesses, guest_words, memory_words}
use Rattle.numbers.specs.Tests.{◌and◌, ◌or◌}
use Rattle.numbers.specs.Addresses.{page_of, offset_of, word_of}
use Rattle.numbers.specs.Entries.{key_of, page_in, readable, writable}
use Rattle.numbers.specs.Frames.{off}
use Rattle.numbers.proofs.Bools.{split, clash, cond-true, and_l, and_r, and_i, and-no-r, or-e, or_l, or_r, or_no, isnt-true, isnt-false, isnt-i, isnt-no, not-true}
use Rattle.numbers.proofs.AddressLaws.{offset-below, word_below}
use Rattle.tables.specs.Table.{live, has, no_room}
use Rattle.tables.specs.Wants.{W, has_key, to_page, shared_by, shared_with}
use Rattle.tables.specs.State.{hypervisor, guest, is_present, in_region, holder_of, dma_of, running_on, map_of, tlb_of, may_reach}
use Rattle.tables.specs.Wf.{Wf}
use Rattle.tables.specs.Views.{view, entry_at, InS2Map}
use Rattle.tables.specs.declared.state.Tables.{Tables}
use Rattle.tables.specs.declared.state.Side.{Side}
use Rattle.tables.specs.declared.state.Side.TheVariants.{Cpu, Iommu}
use Rattle.tables.proofs.TableLaws.{find-passes, each-find}
use Rattle.tables.proofs.WantLaws.{to_page-agrees}
use Rattle.tables.proofs.ViewLaws.{Keyed, entry-keyed, entry-there, there-entry, turned, reach-agrees}
use Rattle.tables.proofs.SourceWf.{source-wf}
use Rattle.rules.specs.Actions.{refusals, accepted, elsewhere, holds, leans, named, another}
use Rattle.rules.specs.Actions.Op.{Read, Write, HyperCall, AddVm, RemoveVm, AssignPage, ReclaimPage, SharePage, UnsharePage, Map, Unmap, ContextSwitch, IommuAssignPage, IommuReclaimPage}
use Rattle.rules.specs.Source.{observation, effective_entry, VmReadGuards, VmWriteGuards, VmHypercallGuards, MapGuards, UnmapGuards, HvIommuAssignPageGuards, HvIommuReclaimPageGuards, HvAssignPageGuards, HvReclaimPageGuards, HvSharePageGuards, HvUnsharePageGuards, HvContextSwitchGuards, HvAddVmGuards, HvRemoveVmGuards, empty_set}
use Rattle.rules.proofs.Lowest.{accepted-passes, accepted-clear}
use Rattle.rules.proofs.Places.{named-agrees, another-agrees}
use Rattle.rules.proofs.Ranges.{in-range, below, present-below, region-below, holder-below, dma-below, running-below}
use Rattle.rules.proofs.Accesses.{address-page, access-keyed, Alike, readable-alike, writable-alike, by_cond, entries-alike, found-page, nothing_is, can_read-is, can-write-is}
use Rattle.rules.proofs.Walks.{some-unit}
use Rattle.rules.proofs.Quiescence.{unmapped-agrees, uncached-agrees, unshared-agrees, maps-nothing-agrees, caches-nothing-agrees, shares-nothing-agrees, leans-agrees}

-- ── an option that is there ──
pub some_is : (b : Bool) (x : ℕ) → IsSome (cond b (some x) none) ↔ (b ≡ true)
some_is true x = (λ o. refl, λ e. tt)
some_is false x = (λ o. absurd o, λ e. clash e refl)

-- a read is observed where there is an address, it may be read, and memory has the word
observed-is : (b allowed : Bool) (x : ℕ) (ws : List ℕ) →
    IsSome (observation allowed ws (cond b (some x) none)) ↔ ((b ≡ true) × (allowed ≡ true) × (x < length ws))
observed-is true allowed x ws = (
  λ o. let e = (some_is (allowed and ltb x (length ws)) (get_or ws x 0)).0 o in (refl, and_l _ _ e, ltb-true _ _ (and_r _ _ e)),
  λ e. (some_is (allowed and ltb x (length ws)) (get_or ws x 0)).1 (and_i e.1 (lt-ltb _ _ e.2)),
)
observed-is false allowed x ws = (λ o. absurd o, λ e. clash e.0 refl)

-- and the word is the one there
pub observed-word : (b allowed : Bool) (x : ℕ) (ws : List ℕ) → IsSome (observation allowed ws (cond b (some x) none)) →
    observation allowed ws (cond b (some x) none) ≡ some (get_or ws x 0)
observed-word true allowed x ws o = cond-true ((some_is (allowed and ltb x (length ws)) (get_or ws x 0)).0 o) _ _
observed-word false allowed x ws o = absurd o

module _ {m : Tables} (h : Wf m) (ws : List ℕ) (lw : length ws ≡ memory_words) where
  -- ── guests: read, write, hypercall ──
  -- an entry of the source's state stands under a key in range
  source-keyed : (d : Side) (u g v : ℕ) → u < units → live W (effective_entry d (view m ws) u g v) ≡ true → Keyed u g v
  source-keyed d u g v hu l = by_cond (λ e. live W e ≡ true → Keyed u g v) (live W (entry_at (tlb_of d m) u g v)) _ _
      (λ t _. entry-keyed (tlb_of d m) u g v t)
      (λ _ t. let k = entry-keyed (map_of d m) 0 g v t in record { unit = hu; guest = k.guest; gpage = k.gpage })
      l

  runs-below : (u g : ℕ) → running_on m u ≡ guest g → u < units
  runs-below u g e = running-below h u (omega arith)

  -- the word of an entry that is found is in memory
  in_memory : (d : Side) (u g v a : ℕ) → Keyed u g v → live W (effective_entry d (view m ws) u g v) ≡ true →
      word_of (page_in (effective_entry d (view m ws) u g v)) (offset_of a) < length ws
  in_memory d u g v a k l =
      let al = entries-alike d m ws u g v k in
      rw lw (word_below pages _ _ (subst (λ (n : ℕ). n < pages) al.page (found-page d m ws u g v h (al.alive ∙ l))) (offset-below a))

  -- ── an access, on either side: what its refusals leave, said of the source's state ──
  module _ (d : Side) (g u a : ℕ) where
    -- what the tables' lookup finds, and what the state translates to
    e : ℕ
    e = Rattle.tables.specs.State.effective_entry (map_of d m) (tlb_of d m) u g (page_of a)

    f : ℕ
    f = effective_entry d (view m ws) u g (page_of a)

    in-ranges : Keyed u g (page_of a) → (off g guests or off u units or off a guest_words) ≡ false
    in-ranges k = or_no (in-range _ _ k.guest) (or_no (in-range _ _ k.unit) (in-range _ _ ((address-page a).1 k.gpage)))

    alike : Keyed u g (page_of a) → Alike e f
    unfolding e f
    alike k = entries-alike d m ws u g (page_of a) k

    -- the guest is present, its CPU runs it, and there is a translation
    abbrev pub Reached : Type 0
    Reached = (is_present m g ≡ true) × (elsewhere d m u g ≡ false) × (u < units) × (live W (effective_entry d (view m ws) u g (page_of a)) ≡ true)

    pub reads-when : accepted (refusals m (Read d g u a)) ≡ true ↔ (Reached × (readable (effective_entry d (view m ws) u g (page_of a)) ≡ true))
    unfolding e f
    reads-when = (
      λ q.
          let c = accepted-clear m (Read d g u a) q in let k = access-keyed g u a (c 4) in
          let z : (live W e and readable e) ≡ true = sym (can_read-is e) ∙ isnt-false _ (c 10) in
          ((isnt-false _ (c 6), c 8, k.unit, sym (alike k).alive ∙ and_l _ _ z), sym (readable-alike (alike k)) ∙ and_r _ _ z),
      λ q.
          let k = source-keyed d u g (page_of a) q.0.2 q.0.3 in
          let l : live W e ≡ true = (alike k).alive ∙ q.0.3 in
          (accepted-passes m (Read d g u a)).1
          (and_i (isnt-i (in-ranges k)) (and_i (isnt-i (isnt-no q.0.0)) (and_i (isnt-i q.0.1) (and_i (isnt-i (nothing_is e ∙ isnt-no l))
          (and_i (isnt-i (isnt-no (can_read-is e ∙ and_i l (readable-alike (alike k) ∙ q.1)))) refl))))),
    )

    pub writes-when : (w : ℕ) → accepted (refusals m (Write d g u a w)) ≡ true ↔ (Reached × (writable (effective_entry d (view m ws) u g (page_of a)) ≡ true))
    unfolding e f
    writes-when w = (
      λ q.
          let c = accepted-clear m (Write d g u a w) q in let k = access-keyed g u a (c 4) in
          let z : (live W e and writable e) ≡ true = sym (can-write-is e) ∙ isnt-false _ (c 10) in
          ((isnt-false _ (c 6), c 8, k.unit, sym (alike k).alive ∙ and_l _ _ z), sym (writable-alike (alike k)) ∙ and_r _ _ z),
      λ q.
          let k = source-keyed d u g (page_of a) q.0.2 q.0.3 in
          let l : live W e ≡ true = (alike k).alive ∙ q.0.3 in
          (accepted-passes m (Write d g u a w)).1
          (and_i (isnt-i (in-ranges k)) (and_i (isnt-i (isnt-no q.0.0)) (and_i (isnt-i q.0.1) (and_i (isnt-i (nothing_is e ∙ isnt-no l))
          (and_i (isnt-i (isnt-no (can-write-is e ∙ and_i l (writable-alike (alike k) ∙ q.1)))) refl))))),
    )

  module _ (g u a : ℕ) where
    pub read-accepted : accepted (refusals m (Read Cpu g u a)) ≡ true ↔ ((is_present m g ≡ true) × VmReadGuards (view m ws) g u a)
    read-accepted = let f = effective_entry Cpu (view m ws) u g (page_of a) in let at = word_of (page_in f) (offset_of a) in (
      λ q.
          let z = (reads-when Cpu g u a).0 q in let l = z.0.3 in (
            z.0.0,
            record {
              wf = source-wf m ws h;
              runs = eqb-true _ _ (isnt-false _ z.0.1);
              observed = (observed-is (live W f) (live W f and readable f) at ws).1
                  (l, and_i l z.1, in_memory Cpu u g (page_of a) a (source-keyed Cpu u g (page_of a) z.0.2 l) l);
            },
          ),
      λ q.
          let o = (observed-is (live W f) (live W f and readable f) at ws).0 q.1.observed in
          (reads-when Cpu g u a).1 ((q.0, isnt-no (eq-eqb _ _ q.1.runs), runs-below u g q.1.runs, o.0), and_r _ _ o.1),
    )

    pub write-accepted : (w : ℕ) → accepted (refusals m (Write Cpu g u a w)) ≡ true ↔ ((is_present m g ≡ true) × VmWriteGuards (view m ws) g u a)
    write-accepted w = let f = effective_entry Cpu (view m ws) u g (page_of a) in (
      λ q.
          let z = (writes-when Cpu g u a w).0 q in (
            z.0.0,
            record {
              wf = source-wf m ws h;
              runs = eqb-true _ _ (isnt-false _ z.0.1);
              translated = (some_is (live W f) (word_of (page_in f) (offset_of a))).1 z.0.3;
              allowed = and_i z.0.3 z.1;
            },
          ),
      λ q. (writes-when Cpu g u a w).1
          ((q.0, isnt-no (eq-eqb _ _ q.1.runs), runs-below u g q.1.runs, and_l _ _ q.1.allowed), and_r _ _ q.1.allowed),
    )

  pub hypercall-accepted : (g u w : ℕ) →
      accepted (refusals m (HyperCall g u w)) ≡ true ↔ ((is_present m g ≡ true) × VmHypercallGuards (view m ws) g u)
  hypercall-accepted g u w = (
    λ e. let c = accepted-clear m (HyperCall g u w) e in
        (isnt-false _ (c 6), record { wf = source-wf m ws h; runs = eqb-true _ _ (isnt-false _ (c 8)) }),
    λ q. (accepted-passes m (HyperCall g u w)).1
        (and_i (isnt-i (or_no (in-range _ _ (present-below h g q.0)) (in-range _ _ (runs-below u g q.1.runs))))
        (and_i (isnt-i (isnt-no q.0)) (and_i (isnt-i (isnt-no (eq-eqb _ _ q.1.runs))) refl))),
  )

  -- ── map and unmap, on either side ──
  -- the page of a pair is in range
  pair-below : (k : ℕ → Bool) (p : ℕ) → ((x : ℕ) → k x ≡ true → to_page p x ≡ true) → has W k m.pairs ≡ true → p < pages
  pair-below k p f t = subst (λ (n : ℕ). n < pages)
      (sym ((to_page-agrees p _).0 (f _ (and_r _ _ (find-passes W k m.pairs t))))) (each-find W k h.sharing_wf t).page

  -- a page that a guest may reach is in range
  reach-below : (d : Side) (g p : ℕ) → may_reach d m g p ≡ true → p < pages
  unfolding Rattle.tables.specs.State.reach
  reach-below Cpu g p e = ⊎_elim
      (λ z. let w : holder_of m p ≡ guest g = eqb-true _ _ z in holder-below h p (omega arith))
      (λ z. pair-below (shared_with g p) p (λ x e. and_l _ _ e) z)
      (or-e _ _ e)
  reach-below Iommu g p e = ⊎_elim
      (λ z. let w : dma_of m p ≡ guest g = eqb-true _ _ z in dma-below h p (omega arith))
      (λ z. region-below h p z)
      (or-e _ _ e)

  pub map-accepted : (d : Side) (g v p x : ℕ) → accepted (refusals m (Map d g v p x)) ≡ true ↔
      (MapGuards d (view m ws) g p × (v < gpages) × (x < accesses) × (no_room W (has_key (key_of 0 g v)) (map_of d m) ≡ false))
  map-accepted d g v p x = (
    λ q. let c = accepted-clear m (Map d g v p x) q in (
      record { wf = source-wf m ws h; present = isnt-false _ (c 6); entitled = (reach-agrees m ws g p d).0 (isnt-false _ (c 11)) },
      below _ _ (or_l _ _ (or_r _ _ (c 4))),
      below _ _ (or_r _ _ (or_r _ _ (or_r _ _ (c 4)))),
      c 15,
    ),
    λ q.
        let may = (reach-agrees m ws g p d).1 q.0.entitled in
        (accepted-passes m (Map d g v p x)).1
        (and_i (isnt-i (or_no (in-range _ _ (present-below h g q.0.present))
        (or_no (in-range _ _ q.1) (or_no (in-range _ _ (reach-below d g p may)) (in-range _ _ q.2)))))
        (and_i (isnt-i (isnt-no q.0.present)) (and_i (isnt-i (isnt-no may)) (and_i (isnt-i q.3) refl)))),
  )

  pub unmap-accepted : (d : Side) (g v : ℕ) → accepted (refusals m (Unmap d g v)) ≡ true ↔ UnmapGuards d (view m ws) g v
  unmap-accepted d g v = (
    λ q. let c = accepted-clear m (Unmap d g v) q in record {
      wf = source-wf m ws h;
      mapped = there-entry (map_of d m) 0 g v
          (record { unit = some-unit; guest = below _ _ (or_l _ _ (c 4)); gpage = below _ _ (or_r _ _ (c 4)) }) (isnt-false _ (c 14));
    },
    λ q.
        let k = entry-keyed (map_of d m) 0 g v q.mapped in
        (accepted-passes m (Unmap d g v)).1
        (and_i (isnt-i (or_no (in-range _ _ k.guest) (in-range _ _ k.gpage)))
        (and_i (isnt-i (isnt-no (q.wf.translation_1 d g v q.mapped)))
        (and_i (isnt-i (isnt-no (entry-there (map_of d m) 0 g v q.mapped))) refl))),
  )

  -- ── pages ──
  pub assign-accepted : (g p : ℕ) → accepted (refusals m (AssignPage g p)) ≡ true ↔
      (HvAssignPageGuards (view m ws) g p × (in_region m p ≡ false) × (another g (dma_of m p) ≡ false))
  assign-accepted g p = (
    λ q. let c = accepted-clear m (AssignPage g p) q in (
      record { wf = source-wf m ws h; present = isnt-false _ (c 6); pooled = isnt-false _ (c 11) },
      or_l _ _ (c 12),
      or_r _ _ (c 12),
    ),
    λ q.
        let held : holder_of m p ≡ hypervisor = eqb-true _ _ q.0.pooled in
        (accepted-passes m (AssignPage g p)).1
        (and_i (isnt-i (or_no (in-range _ _ (present-below h g q.0.present)) (in-range _ _ (holder-below h p (omega arith)))))
        (and_i (isnt-i (isnt-no q.0.present)) (and_i (isnt-i (isnt-no q.0.pooled)) (and_i (isnt-i (or_no q.1 q.2)) refl)))),
  )

  pub context-switch-accepted : (g u : ℕ) → accepted (refusals m (ContextSwitch g u)) ≡ true ↔ (HvContextSwitchGuards (view m ws) g × (u < units))
  context-switch-accepted g u = (
    λ q. let c = accepted-clear m (ContextSwitch g u) q in
        (record { wf = source-wf m ws h; present = isnt-false _ (c 6) }, below _ _ (or_r _ _ (c 4))),
    λ q. (accepted-passes m (ContextSwitch g u)).1
        (and_i (isnt-i (or_no (in-range _ _ (present-below h g q.0.present)) (in-range _ _ q.1))) (and_i (isnt-i (isnt-no q.0.present)) refl)),
  )

  pub add-accepted : (g : ℕ) → accepted (refusals m (AddVm g)) ≡ true ↔ (HvAddVmGuards (view m ws) g × (g < guests))
  add-accepted g = (
    λ q. let c = accepted-clear m (AddVm g) q in (record { wf = source-wf m ws h; absent = c 7 }, below _ _ (c 4)),
    λ q. (accepted-passes m (AddVm g)).1 (and_i (isnt-i (in-range _ _ q.1)) (and_i (isnt-i q.0.absent) refl)),
  )

  pub share-accepted : (l r p : ℕ) → accepted (refusals m (SharePage l r p)) ≡ true ↔
      (HvSharePageGuards (view m ws) l r p × (no_room W (shared_by l r p) m.pairs ≡ false))
  share-accepted l r p = (
    λ q. let c = accepted-clear m (SharePage l r p) q in (
      record {
        wf = source-wf m ws h;
        differ = eqb-false _ _ (c 5);
        left_present = isnt-false _ (or_l _ _ (c 6));
        right_present = isnt-false _ (or_r _ _ (c 6));
        owned = isnt-false _ (c 11);
      },
      c 15,
    ),
    λ q.
        let held : holder_of m p ≡ guest l = eqb-true _ _ q.0.owned in
        (accepted-passes m (SharePage l r p)).1
        (and_i (isnt-i (or_no (in-range _ _ (present-below h l q.0.left_present))
        (or_no (in-range _ _ (present-below h r q.0.right_present)) (in-range _ _ (holder-below h p (omega arith))))))
        (and_i (isnt-i (ne_eqb _ _ q.0.differ))
        (and_i (isnt-i (or_no (isnt-no q.0.left_present) (isnt-no q.0.right_present)))
        (and_i (isnt-i (isnt-no q.0.owned)) (and_i (isnt-i q.1) refl))))),
  )

  pub unshare-accepted : (l r p : ℕ) → accepted (refusals m (UnsharePage l r p)) ≡ true ↔ HvUnsharePageGuards (view m ws) l r p
  unshare-accepted l r p = (
    λ q.
        let c = accepted-clear m (UnsharePage l r p) q in
        let pair = isnt-false _ (c 14) in
        let free : (leans m l p or leans m r p) ≡ false = not-true _ (λ t. clash (and_i pair t) (c 13)) in
        record {
          wf = source-wf m ws h;
          shared = pair;
          reverse = turned r l p m.pairs ∙ pair;
          no_dangling = λ g v t e s. ⊎_elim
              (λ z. owner l g p z v t s (or_l _ _ free))
              (λ z. owner r g p z v t s (or_r _ _ free))
              e;
        },
    λ q.
        let w = q.wf in
        let lp = w.sharing_2 l r p q.shared in let rp = w.sharing_3 l r p q.shared in
        let pp = pair-below (shared_by l r p) p (λ x e. and_l _ _ e) q.shared in
        (accepted-passes m (UnsharePage l r p)).1
        (and_i (isnt-i (or_no (in-range _ _ (present-below h l lp)) (or_no (in-range _ _ (present-below h r rp)) (in-range _ _ pp))))
        (and_i (isnt-i (ne_eqb _ _ (w.sharing_1 l r p q.shared)))
        (and_i (isnt-i (or_no (isnt-no lp) (isnt-no rp)))
        (and_i (isnt-i (and-no-r _ (or_no
        ((leans-agrees h ws l p).1 (λ v t s. q.no_dangling l v t (inl refl) s))
        ((leans-agrees h ws r p).1 (λ v t s. q.no_dangling r v t (inr refl) s)))))
        (and_i (isnt-i (isnt-no q.shared)) refl))))),
  )
    where
      owner : (x g p : ℕ) → g ≡ x → (v : ℕ) → InS2Map Cpu (view m ws) g v → page_in (entry_at m.map 0 g v) ≡ p →
          leans m x p ≡ false → holds m g p ≡ true
      owner x g p e v t s n = (leans-agrees h ws g p).0 (subst (λ (k : ℕ). leans m k p ≡ false) (sym e) n) v t s

  pub reclaim-accepted : (g p : ℕ) → accepted (refusals m (ReclaimPage g p)) ≡ true ↔ HvReclaimPageGuards (view m ws) g p
  reclaim-accepted g p = (
    λ q. let c = accepted-clear m (ReclaimPage g p) q in let z = isnt-false _ (c 13) in record {
      wf = source-wf m ws h;
      present = isnt-false _ (c 6);
      owned = isnt-false _ (c 11);
      quiescent = (
        (unmapped-agrees h ws Cpu p).0 (isnt-true _ (and_l _ _ (and_l _ _ z))),
        (uncached-agrees h ws Cpu p).0 (isnt-true _ (and_r _ _ (and_l _ _ z))),
        (unshared-agrees h ws p).0 (isnt-true _ (and_r _ _ z)),
      );
    },
    λ q.
        let held : holder_of m p ≡ guest g = eqb-true _ _ q.owned in
        (accepted-passes m (ReclaimPage g p)).1
        (and_i (isnt-i (or_no (in-range _ _ (present-below h g q.present)) (in-range _ _ (holder-below h p (omega arith)))))
        (and_i (isnt-i (isnt-no q.present)) (and_i (isnt-i (isnt-no q.owned))
        (and_i (isnt-i (isnt-no (and_i
        (and_i (isnt-i ((unmapped-agrees h ws Cpu p).1 q.quiescent.0)) (isnt-i ((uncached-agrees h ws Cpu p).1 q.quiescent.1)))
        (isnt-i ((unshared-agrees h ws p).1 q.quiescent.2))))) refl)))),
  )

  pub iommu-reclaim-accepted : (g p : ℕ) → accepted (refusals m (IommuReclaimPage g p)) ≡ true ↔ HvIommuReclaimPageGuards (view m ws) g p
  iommu-reclaim-accepted g p = (
    λ q. let c = accepted-clear m (IommuReclaimPage g p) q in let z = isnt-false _ (c 13) in record {
      wf = source-wf m ws h;
      present = isnt-false _ (c 6);
      owned = isnt-false _ (c 11);
      quiescent = ((unmapped-agrees h ws Iommu p).0 (isnt-true _ (and_l _ _ z)), (uncached-agrees h ws Iommu p).0 (isnt-true _ (and_r _ _ z)));
    },
    λ q.
        let held : dma_of m p ≡ guest g = eqb-true _ _ q.owned in
        (accepted-passes m (IommuReclaimPage g p)).1
        (and_i (isnt-i (or_no (in-range _ _ (present-below h g q.present)) (in-range _ _ (dma-below h p (omega arith)))))
        (and_i (isnt-i (isnt-no q.present)) (and_i (isnt-i (isnt-no q.owned))
        (and_i (isnt-i (isnt-no (and_i
        (isnt-i ((unmapped-agrees h ws Iommu p).1 q.quiescent.0)) (isnt-i ((uncached-agrees h ws Iommu p).1 q.quiescent.1))))) refl)))),
  )

  -- no other guest holds the page
  others : (g n : ℕ) → ((k : ℕ) → n ≡ guest k → is_present m k ≡ true) →
      another g n ≡ false ↔ ((k : ℕ) → is_present m k ≡ true → (k ≡ g → ⊥) → eqb n (guest k) ≡ false)
  others g n here = (
    λ a k _ f. not-true _ (λ t. f ((another-agrees g n).0 a k (eqb-true _ _ t))),
    λ f. (another-agrees g n).1 (λ k e. split (eqb k g)
        (λ t. eqb-true _ _ t)
        (λ t. clash (eq-eqb _ _ e) (f k (here k e) (eqb-false _ _ t)))),
  )

  pub iommu-assign-accepted : (g p : ℕ) → accepted (refusals m (IommuAssignPage g p)) ≡ true ↔ (HvIommuAssignPageGuards (view m ws) g p × (p < pages))
  iommu-assign-accepted g p = (
    λ q. let c = accepted-clear m (IommuAssignPage g p) q in (
      record {
        wf = source-wf m ws h;
        present = isnt-false _ (c 6);
        not_shared = or_l _ _ (c 12);
        not_iommu_owned = (others g (dma_of m p) (h.pages_wf p).iommu_ownership_wf).0 (or_l _ _ (or_r _ _ (c 12)));
        not_owned = (others g (holder_of m p) (h.pages_wf p).ownership_wf).0 (or_r _ _ (or_r _ _ (c 12)));
      },
      below _ _ (or_r _ _ (c 4)),
    ),
    λ q. (accepted-passes m (IommuAssignPage g p)).1
        (and_i (isnt-i (or_no (in-range _ _ (present-below h g q.0.present)) (in-range _ _ q.1)))
        (and_i (isnt-i (isnt-no q.0.present))
        (and_i (isnt-i (or_no q.0.not_shared (or_no
        ((others g (dma_of m p) (h.pages_wf p).iommu_ownership_wf).1 q.0.not_iommu_owned)
        ((others g (holder_of m p) (h.pages_wf p).ownership_wf).1 q.0.not_owned)))) refl))),
  )

  -- ── a guest goes ──
  owns_nothing : (g : ℕ) (t : List ℕ) → named (guest g) t ≡ false ↔ ((λ (p : ℕ). eqb (get_or t p 0) (guest g)) ≡ empty_set)
  owns_nothing g t = (
    λ n. fun_ext (λ p. ne_eqb _ _ ((named-agrees g t).0 n p)),
    λ e. (named-agrees g t).1 (λ p s. clash (eq-eqb _ _ s) (ap (λ (f : ℕ → Bool). f p) e)),
  )

  pub remove-accepted : (g : ℕ) → accepted (refusals m (RemoveVm g)) ≡ true ↔ HvRemoveVmGuards (view m ws) g
  remove-accepted g = (
    λ q.
        let c = accepted-clear m (RemoveVm g) q in
        let t₁ = or_r _ _ (c 13) in let t₂ = or_r _ _ t₁ in let t₃ = or_r _ _ t₂ in
        let t₄ = or_r _ _ t₃ in let t₅ = or_r _ _ t₄ in let t₆ = or_r _ _ t₅ in
        record {
          wf = source-wf m ws h;
          present = isnt-false _ (c 6);
          owns_nothing = (owns_nothing g m.holder).0 (or_l _ _ (c 13));
          iommu_owns_nothing = (owns_nothing g m.dma).0 (or_l _ _ t₁);
          maps_nothing = elim [ Cpu ↦ (maps-nothing-agrees h ws Cpu g).0 (or_l _ _ t₂) | Iommu ↦ (maps-nothing-agrees h ws Iommu g).0 (or_l _ _ t₃) ];
          caches_nothing = elim [ Cpu ↦ (caches-nothing-agrees h ws Cpu g).0 (or_l _ _ t₄) | Iommu ↦ (caches-nothing-agrees h ws Iommu g).0 (or_l _ _ t₅) ];
          shares_nothing = (shares-nothing-agrees h ws g).0 (or_l _ _ t₆);
          runs_nowhere = (named-agrees g m.running).0 (or_r _ _ t₆);
        },
    λ q. (accepted-passes m (RemoveVm g)).1
        (and_i (isnt-i (in-range _ _ (present-below h g q.present))) (and_i (isnt-i (isnt-no q.present))
        (and_i (isnt-i (or_no ((owns_nothing g m.holder).1 q.owns_nothing) (or_no ((owns_nothing g m.dma).1 q.iommu_owns_nothing)
        (or_no ((maps-nothing-agrees h ws Cpu g).1 (q.maps_nothing Cpu)) (or_no ((maps-nothing-agrees h ws Iommu g).1 (q.maps_nothing Iommu))
        (or_no ((caches-nothing-agrees h ws Cpu g).1 (q.caches_nothing Cpu)) (or_no ((caches-nothing-agrees h ws Iommu g).1 (q.caches_nothing Iommu))
        (or_no ((shares-nothing-agrees h ws g).1 q.shares_nothing) ((named-agrees g m.running).1 q.runs_nowhere))))))))) refl))),
  )
