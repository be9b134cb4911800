-- What holds of a page as long as it is marked, and that every action keeps it so: the page is not in the region, its CPU holder and its
-- DMA holder are members or no guests at all, and no pair on it leads out. In good order, nobody outside then has a translation to it.
use mathlib.Core.Path.{◌≡◌, refl, sym, ◌∙◌, ap, subst}
use mathlib.Core.Bool.{Bool, true, false}
use mathlib.Core.List.{List}
use mathlib.Core.Logic.{◌⊎◌, ⊎_elim}
use Prim.Native.Nat.{ℕ, ◌≤◌}
use native.Mathlib.Omega.{arith}
use lib.Dec.{eqb}
use lib.ListN.{set}
use borrow.Author.Tests.{eqb-true, eq-eqb, eqb-false, leb-true, le-leb}
use Rattle.numbers.specs.Tests.{◌and◌, ◌or◌, isnt}
use Rattle.numbers.specs.Rules.{Rules}
use Rattle.numbers.specs.Entries.{pair}
use Rattle.numbers.proofs.Bools.{split, clash, and_l, and_r, and_i, or_l, or_r, or-e, or-il, or-ir, isnt-true, isnt-i, not-true, implies}
use Rattle.tables.specs.Table.{has, place}
use Rattle.tables.specs.Wants.{W, to_page, shared_by, shared_with}
use Rattle.tables.specs.State.{nobody, hypervisor, guest, a_guest, guest_of, in_region, holder_of, dma_of, held_on, reach, may_reach}
use Rattle.tables.specs.Wf.{Wf}
use Rattle.tables.specs.declared.state.Tables.{Tables}
use Rattle.tables.specs.declared.state.Side.{Side}
use Rattle.tables.specs.declared.state.Side.TheVariants.{Cpu, Iommu}
use Rattle.tables.proofs.TableLaws.{each-place, each-find, none_each, each_none, none-wipe, find-passes}
use Rattle.tables.proofs.WantLaws.{zero-free, ends-at-agrees}
use Rattle.rules.specs.Actions.{Op, refusals, effect, touch, accepted, next, does, holds, dma_holds}
use Rattle.rules.specs.Actions.Op.{Read, Write, HyperCall, AddVm, RemoveVm, AssignPage, ReclaimPage, SharePage, UnsharePage, Map, Unmap, ContextSwitch, Idle, Fill, Drop, IommuAssignPage, IommuReclaimPage}
use Rattle.rules.specs.Parts.{with_held, with_pairs}
use Rattle.rules.proofs.Lowest.{Clear, accepted-clear}
use Rattle.rules.proofs.Places.{at_set}
use Rattle.rules.proofs.Ranges.{below}
use Rattle.rules.proofs.Pairs.{Paired, made-left, made-right, made-page}
use Rattle.isolation.specs.Marks.{Group, Marks, ours, outward, leads_out, marks, zeroes, left_marked, gives_away}

-- ── holders ──
-- nobody, the hypervisor or a member
unfoldable pub inside : Group → ℕ → Bool
inside G h = isnt (a_guest h) or G (guest_of h)

a_guest-is : (g : ℕ) → a_guest (guest g) ≡ true
a_guest-is g = le-leb 2 (guest g) (omega arith)

inside-guest : (G : Group) (h g : ℕ) → inside G h ≡ true → h ≡ guest g → G g ≡ true
unfolding inside
inside-guest G h g e q = subst (λ (n : ℕ). G n ≡ true) (omega arith) (implies _ _ e (rw q (a_guest-is g)))

guest-inside : (G : Group) (g : ℕ) → G g ≡ true → inside G (guest g) ≡ true
unfolding inside
guest-inside G g e = or-ir _ (subst (λ (n : ℕ). G n ≡ true) (omega arith) e)

none_inside : (G : Group) (h : ℕ) → a_guest h ≡ false → inside G h ≡ true
unfolding inside
none_inside G h e = or-il _ (isnt-i e)

-- which guest a holder is
as-guest : (h : ℕ) → a_guest h ≡ true → h ≡ guest (guest_of h)
as-guest h e = let l : 2 ≤ h = leb-true 2 h e in omega arith

our-guest : (G : Group) (h : ℕ) → ours G h ≡ true → h ≡ guest (guest_of h)
unfolding ours
our-guest G h e = as-guest h (and_l _ _ e)

ours-inside : (G : Group) (h : ℕ) → ours G h ≡ true → inside G h ≡ true
unfolding inside ours
ours-inside G h e = or-ir _ (and_r _ _ e)

-- ── a marked page ──
-- over just the parts that it reads, so that an action on other parts keeps it as it stands
pub record SealedPage (G : Group) (p : ℕ) (region : Bool) (h d : ℕ) (pairs : List ℕ) : Type 0 where
  pub no_region : region ≡ false
  pub cpu_inside : inside G h ≡ true
  pub dma_inside : inside G d ≡ true
  pub no_way_out : has W (leads_out G p) pairs ≡ false

abbrev pub Sealed : Group → Tables → ℕ → Type 0
Sealed G m p = SealedPage G p (in_region m p) (holder_of m p) (dma_of m p) m.pairs

-- every marked page is so
abbrev pub AllSealed : Group → Marks → Tables → Type 0
AllSealed G k m = (p : ℕ) → k p ≡ true → Sealed G m p

-- a member holds the page on one side: on the other side too it is a member, or no guest
other-inside : (G : Group) (h d : ℕ) → ((g k : ℕ) → h ≡ guest g → d ≡ guest k → g ≡ k) → ours G d ≡ true → inside G h ≡ true
unfolding ours
other-inside G h d one o = split (a_guest h)
    (λ t. let e : guest_of h ≡ guest_of d = one _ _ (as-guest h t) (our-guest G d o) in
    rw (as-guest h t) (guest-inside G (guest_of h) (subst (λ (n : ℕ). G n ≡ true) (sym e) (and_r _ _ o))))
    (none_inside G h)

pub sealed-start : (G : Group) (m : Tables) → Wf m → AllSealed G (marks G m) m
unfolding marks
sealed-start G m w p e = record {
  no_region = ⊎_elim (λ o. (w.pages_wf p).region_not_owned _ (our-guest G _ o)) (λ o. (w.pages_wf p).region_not_iommu_owned _ (our-guest G _ o)) held;
  cpu_inside = ⊎_elim (ours-inside G _) (other-inside G _ _ (w.pages_wf p).one_guest) held;
  dma_inside = ⊎_elim (other-inside G _ _ (λ g k a b. sym ((w.pages_wf p).one_guest k g b a))) (ours-inside G _) held;
  no_way_out = isnt-true _ (and_r _ _ e);
}
  where
    held : (ours G (holder_of m p) ≡ true) ⊎ (ours G (dma_of m p) ≡ true)
    held = or-e _ _ (and_l _ _ e)

-- ── nobody outside may reach a marked page ──
module _ (G : Group) (m : Tables) (p g : ℕ) (s : Sealed G m p) (outside : G g ≡ false) where
  no-holder : (h : ℕ) → inside G h ≡ true → eqb h (guest g) ≡ true → ⊥
  no-holder h i e = clash (inside-guest G h g i (eqb-true _ _ e)) outside

  no_end : (q : ℕ) → shared_with g p q ≡ true → leads_out G p q ≡ true
  unfolding outward
  no_end q t = and_i (and_l _ _ t) (⊎_elim
      (λ e. or-il _ (isnt-i (subst (λ (i : ℕ). G i ≡ false) e outside)))
      (λ e. or-ir _ (isnt-i (subst (λ (i : ℕ). G i ≡ false) e outside)))
      ((ends-at-agrees g q).0 (and_r _ _ t)))

  no-share : has W (shared_with g p) m.pairs ≡ true → ⊥
  no-share t = clash
      (no_end _ (and_r _ _ (find-passes W (shared_with g p) m.pairs t)))
      (each-find W (shared_with g p) (none_each W (leads_out G p) m.pairs s.no_way_out) t)

  pub out-of-reach : (d : Side) → may_reach d m g p ≡ true → ⊥
  unfolding reach
  out-of-reach Cpu t = ⊎_elim (no-holder _ s.cpu_inside) no-share (or-e _ _ t)
  out-of-reach Iommu t = ⊎_elim (no-holder _ s.dma_inside) (λ e. clash e s.no_region) (or-e _ _ t)

-- ── every action keeps it so ──
-- a mark that is left after a page is zeroed is on another page
still-there : (k : Marks) (p q : ℕ) → (k q and isnt (eqb p q)) ≡ true → q ≡ p → ⊥
still-there k p q t e = eqb-false p q (isnt-true _ (and_r _ _ t)) (sym e)

module _ (G : Group) (m : Tables) (k : Marks) (s : AllSealed G k m) where
  -- the holder of p on a side becomes x, who is inside if the page keeps its mark
  seal-held : (d : Side) (p x q : ℕ) → (q ≡ p → inside G x ≡ true) → k q ≡ true → Sealed G (with_held d m (set (held_on d m) p x)) q
  seal-held Cpu p x q i t = record {
    no_region = (s q t).no_region;
    cpu_inside = at_set (λ n. inside G n ≡ true) m.holder p x q 0 i (s q t).cpu_inside;
    dma_inside = (s q t).dma_inside;
    no_way_out = (s q t).no_way_out;
  }
  seal-held Iommu p x q i t = record {
    no_region = (s q t).no_region;
    cpu_inside = (s q t).cpu_inside;
    dma_inside = at_set (λ n. inside G n ≡ true) m.dma p x q 0 i (s q t).dma_inside;
    no_way_out = (s q t).no_way_out;
  }

  seal-pairs : (pairs : List ℕ) (q : ℕ) → k q ≡ true → has W (leads_out G q) pairs ≡ false → Sealed G (with_pairs m pairs) q
  seal-pairs pairs q t n = record { no_region = (s q t).no_region; cpu_inside = (s q t).cpu_inside; dma_inside = (s q t).dma_inside; no_way_out = n }

  -- a new pair on a marked page has both ends inside
  seal-share : (l r q : ℕ) → Paired l r q → (k q and (isnt (G l) or isnt (G r))) ≡ false → (p : ℕ) → k p ≡ true → Sealed G (effect m (SharePage l r q)) p
  unfolding outward to_page
  seal-share l r q b n p t = split (has W (shared_by l r q) m.pairs)
      (λ e. rw e (s p t))
      (λ e. rw e (seal-pairs (place W (pair l r q 0) m.pairs) p t
      (each_none W (leads_out G p) (each-place W (pair l r q 0) fresh (none_each W (leads_out G p) m.pairs (s p t).no_way_out)))))
    where
      fresh : leads_out G p (pair l r q 0) ≡ false
      fresh = rw (made-left l r q b, made-right l r q b, made-page l r q b) (not-true _ (λ f.
          clash (and_i (subst (λ (i : ℕ). k i ≡ true) (eqb-true _ _ (and_l _ _ f)) t) (and_r _ _ f)) n))

  -- a page that devices get unwiped was the guest's already
  seal-devices : (g q p : ℕ) → (k p and isnt (zeroes (touch m (IommuAssignPage g q)) p)) ≡ true → Sealed G (effect m (IommuAssignPage g q)) p
  seal-devices g q p t = seal-held Iommu q (guest g) p here (and_l _ _ t)
    where
      here : p ≡ q → inside G (guest g) ≡ true
      here e = split (dma_holds m g q or holds m g q)
          (λ f. guest-inside G g (⊎_elim
          (λ d. inside-guest G (dma_of m p) g (s p (and_l _ _ t)).dma_inside (ap (dma_of m) e ∙ eqb-true _ _ d))
          (λ d. inside-guest G (holder_of m p) g (s p (and_l _ _ t)).cpu_inside (ap (holder_of m) e ∙ eqb-true _ _ d))
          (or-e _ _ f)))
          (λ f. clash (eq-eqb q p (sym e)) (isnt-true _ (rw f at (and_r _ _ t))))

  sealed-effect : (o : Op) → gives_away G k o ≡ false → Clear (refusals m o) → (p : ℕ) → (k p and isnt (zeroes (touch m o) p)) ≡ true → Sealed G (effect m o) p
  sealed-effect (Read d g u a) n c p t = s p (and_l _ _ t)
  sealed-effect (Write d g u a w) n c p t = s p (and_l _ _ t)
  sealed-effect (HyperCall g u w) n c p t = s p (and_l _ _ t)
  sealed-effect (AddVm g) n c p t = s p (and_l _ _ t)
  sealed-effect (RemoveVm g) n c p t = s p (and_l _ _ t)
  sealed-effect (AssignPage g q) n c p t = seal-held Cpu q (guest g) p (λ e. absurd (still-there k q p t e)) (and_l _ _ t)
  sealed-effect (ReclaimPage g q) n c p t = seal-held Cpu q hypervisor p (λ e. none_inside G hypervisor refl) (and_l _ _ t)
  sealed-effect (SharePage l r q) n c p t = seal-share l r q
      (record { left = below _ _ (or_l _ _ (c 4)); right = below _ _ (or_l _ _ (or_r _ _ (c 4))); page = below _ _ (or_r _ _ (or_r _ _ (c 4))) }) n p (and_l _ _ t)
  sealed-effect (UnsharePage l r q) n c p t = seal-pairs _ p (and_l _ _ t) (none-wipe W zero-free (leads_out G p) (shared_by l r q) m.pairs (s p (and_l _ _ t)).no_way_out)
  sealed-effect (Map d g v q x) n c p t = s p (and_l _ _ t)
  sealed-effect (Unmap d g v) n c p t = s p (and_l _ _ t)
  sealed-effect (ContextSwitch g u) n c p t = s p (and_l _ _ t)
  sealed-effect (Idle u) n c p t = s p (and_l _ _ t)
  sealed-effect (Fill d g u v) n c p t = s p (and_l _ _ t)
  sealed-effect (Drop d g u v) n c p t = s p (and_l _ _ t)
  sealed-effect (IommuAssignPage g q) n c p t = seal-devices g q p t
  sealed-effect (IommuReclaimPage g q) n c p t = seal-held Iommu q nobody p (λ e. none_inside G nobody refl) (and_l _ _ t)

  -- accepted or refused, by whatever refusals stand in front
  pub sealed-next : (rules : Rules) (o : Op) → (accepted rules ≡ true → accepted (refusals m o) ≡ true) → (accepted rules and gives_away G k o) ≡ false →
      AllSealed G (left_marked (does rules m o) k) (next rules m o)
  unfolding next left_marked does
  sealed-next rules o own n p = split (accepted rules)
      (λ e. rw e (sealed-effect o (not-true _ (λ g. clash (and_i e g) n)) (accepted-clear m o (own e)) p))
      (λ e. rw e (λ t. s p (and_l _ _ t)))
