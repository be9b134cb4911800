-- Every action has a frame that asks for it, and the frame check knows what the action's own rules know: such a frame never gets 3, and
-- gets 4 exactly where the rules give 4.
use mathlib.Core.Path.{◌≡◌, refl, sym, ◌∙◌, ap, subst}
use mathlib.Core.List.{List, [], ◌∷◌}
use native.Mathlib.Omega.{arith}
use lib.ListN.{length, get_or, get_or-eq_default}
use borrow.Author.Tests.{eqb-true, eq-eqb, ltb-true, ltb-false}
use mathlib.Core.Bool.{Bool, true, false, cond}
use Prim.Native.Nat.{ℕ, zero, suc, ◌/◌, ◌^◌, ◌<◌}
use lib.Dec.{eqb, ltb}
use Rattle.numbers.specs.Tests.{◌and◌, ◌or◌, isnt}
use Rattle.numbers.specs.Search.{first}
use Rattle.numbers.specs.Frames.{kinds, of_kind, row_of, uses, stray, beyond}
use Rattle.numbers.proofs.Bools.{split, clash, and_i, or_l, or_r, isnt-i}
use Rattle.numbers.proofs.SearchLaws.{first_passes}
use Rattle.numbers.specs.declared.frames.Action.{Action}
use Rattle.tables.specs.declared.state.Tables.{Tables}
use Rattle.tables.specs.declared.state.Side.TheVariants.{Cpu, Iommu}
use Rattle.rules.specs.Actions.{Op, refusals}
use Rattle.rules.specs.Actions.Op.{Read, Write, HyperCall, AddVm, RemoveVm, AssignPage, ReclaimPage, SharePage, UnsharePage, Map, Unmap, ContextSwitch, Idle, Fill, Drop, IommuAssignPage, IommuReclaimPage}
use Rattle.rules.specs.Calls.{op_of}
use Rattle.rules.proofs.Lowest.{when}

-- kind, guest, second, access, address, page, word
abbrev fields : ℕ → ℕ → ℕ → ℕ → ℕ → ℕ → ℕ → Action
fields k g s x a p w = record { kind = k; guest = g; second = s; access = x; address = a; page = p; word = w }

abbrev pub frame_of : Op → Action
frame_of (Read Cpu g u a) = fields 0x01 g u 0 a 0 0
frame_of (Read Iommu g u a) = fields 0x04 g u 0 a 0 0
frame_of (Write Cpu g u a w) = fields 0x02 g u 0 a 0 w
frame_of (Write Iommu g u a w) = fields 0x05 g u 0 a 0 w
frame_of (HyperCall g u w) = fields 0x03 g u 0 0 0 w
frame_of (AddVm g) = fields 0x10 g 0 0 0 0 0
frame_of (RemoveVm g) = fields 0x11 g 0 0 0 0 0
frame_of (AssignPage g p) = fields 0x12 g 0 0 0 p 0
frame_of (ReclaimPage g p) = fields 0x13 g 0 0 0 p 0
frame_of (SharePage l r p) = fields 0x14 l r 0 0 p 0
frame_of (UnsharePage l r p) = fields 0x15 l r 0 0 p 0
frame_of (Map Cpu g v p x) = fields 0x16 g 0 x v p 0
frame_of (Map Iommu g v p x) = fields 0x22 g 0 x v p 0
frame_of (Unmap Cpu g v) = fields 0x17 g 0 0 v 0 0
frame_of (Unmap Iommu g v) = fields 0x23 g 0 0 v 0 0
frame_of (ContextSwitch g u) = fields 0x18 g u 0 0 0 0
frame_of (Idle u) = fields 0x19 0 u 0 0 0 0
frame_of (Fill Cpu g u v) = fields 0x1a g u 0 v 0 0
frame_of (Fill Iommu g u v) = fields 0x24 g u 0 v 0 0
frame_of (Drop Cpu g u v) = fields 0x1b g u 0 v 0 0
frame_of (Drop Iommu g u v) = fields 0x25 g u 0 v 0 0
frame_of (IommuAssignPage g p) = fields 0x20 g 0 0 0 p 0
frame_of (IommuReclaimPage g p) = fields 0x21 g 0 0 0 p 0

-- ── tests that are not asked ──
false-or : (b : Bool) → (false or b) ≡ b
unfolding ◌or◌
false-or b = refl

or-false : (b : Bool) → (b or false) ≡ b
unfolding ◌or◌
or-false true = refl
or-false false = refl

-- the frame has its access before its pages
last-first : (a b c d : Bool) → (a or b or c or d) ≡ (a or c or d or b)
unfolding ◌or◌
last-first true b c d = refl
last-first false true true d = refl
last-first false true false true = refl
last-first false true false false = refl
last-first false false c d = ap (λ x. c or x) (sym (or-false d))

pub record Asks (m : Tables) (o : Op) : Type 0 where
  pub asks : op_of (frame_of o) ≡ o
  pub known : eqb (row_of (frame_of o).kind) 0 ≡ false
  pub shaped : stray (row_of (frame_of o).kind) (frame_of o) ≡ false
  pub ranges : beyond (row_of (frame_of o).kind) (frame_of o) ≡ when (refusals m o) 4

pub asked-by-a-frame : (m : Tables) (o : Op) → Asks m o
unfolding row_of kinds first stray beyond uses ◌and◌ isnt
asked-by-a-frame m (Read Cpu g u a) = search (false-or, or-false)
asked-by-a-frame m (Read Iommu g u a) = search (false-or, or-false)
asked-by-a-frame m (Write Cpu g u a w) = search (false-or, or-false)
asked-by-a-frame m (Write Iommu g u a w) = search (false-or, or-false)
asked-by-a-frame m (HyperCall g u w) = search (false-or, or-false)
asked-by-a-frame m (AddVm g) = search (false-or, or-false)
asked-by-a-frame m (RemoveVm g) = search (false-or, or-false)
asked-by-a-frame m (AssignPage g p) = search false-or
asked-by-a-frame m (ReclaimPage g p) = search false-or
asked-by-a-frame m (SharePage l r p) = search false-or
asked-by-a-frame m (UnsharePage l r p) = search false-or
asked-by-a-frame m (Map Cpu g v p x) = search (false-or, last-first)
asked-by-a-frame m (Map Iommu g v p x) = search (false-or, last-first)
asked-by-a-frame m (Unmap Cpu g v) = search (false-or, or-false)
asked-by-a-frame m (Unmap Iommu g v) = search (false-or, or-false)
asked-by-a-frame m (ContextSwitch g u) = search (false-or, or-false)
asked-by-a-frame m (Idle u) = search (false-or, or-false)
asked-by-a-frame m (Fill Cpu g u v) = search (false-or, or-false)
asked-by-a-frame m (Fill Iommu g u v) = search (false-or, or-false)
asked-by-a-frame m (Drop Cpu g u v) = search (false-or, or-false)
asked-by-a-frame m (Drop Iommu g u v) = search (false-or, or-false)
asked-by-a-frame m (IommuAssignPage g p) = search false-or
asked-by-a-frame m (IommuReclaimPage g p) = search false-or

-- ── and every frame of a known kind whose unused fields are zero is the frame of what it asks for ──
-- an action with the fields that its row does not use at zero: the flags are those of the table of kinds
abbrev used_only : ℕ → Action → Action
used_only r a = record {
  kind = a.kind;
  guest = cond (uses r (2 ^ 0)) a.guest 0;
  second = cond (uses r (2 ^ 1) or uses r (2 ^ 2)) a.second 0;
  access = cond (uses r (2 ^ 3)) a.access 0;
  address = cond (uses r (2 ^ 4) or uses r (2 ^ 5)) a.address 0;
  page = cond (uses r (2 ^ 6)) a.page 0;
  word = cond (uses r (2 ^ 7)) a.word 0;
}

kept : (used : Bool) (n : ℕ) → (isnt used and isnt (eqb n 0)) ≡ false → cond used n 0 ≡ n
kept true n e = refl
kept false n e = split (eqb n 0) (λ z. sym (eqb-true n 0 z)) (λ z. clash (and_i (isnt-i refl) (isnt-i z)) e)

no_stray : (r : ℕ) (a : Action) → stray r a ≡ false → used_only r a ≡ a
unfolding stray
no_stray r a e =
    let e₁ = or_r _ _ e in let e₂ = or_r _ _ e₁ in let e₃ = or_r _ _ e₂ in let e₄ = or_r _ _ e₃ in
    λ i. record {
      kind = a.kind;
      guest = kept (uses r (2 ^ 0)) a.guest (or_l _ _ e) i;
      second = kept (uses r (2 ^ 1) or uses r (2 ^ 2)) a.second (or_l _ _ e₁) i;
      access = kept (uses r (2 ^ 3)) a.access (or_l _ _ e₂) i;
      address = kept (uses r (2 ^ 4) or uses r (2 ^ 5)) a.address (or_l _ _ e₃) i;
      page = kept (uses r (2 ^ 6)) a.page (or_l _ _ e₄) i;
      word = kept (uses r (2 ^ 7)) a.word (or_r _ _ e₄) i;
    }

-- a statement of the kind of each row
Rows : (ℕ → Type 0) → List ℕ → Type 0
Rows P [] = Unit {0}
Rows P (r ∷ t) = P (r / 256) × Rows P t

row-there : (P : ℕ → Type 0) (t : List ℕ) (i : ℕ) → Rows P t → i < length t → P (get_or t i 0 / 256)
unfolding Rows
row-there P [] i f h = absurd (omega arith)
row-there P (r ∷ t) zero f h = f.0
row-there P (r ∷ t) (suc i) f h = row-there P t i f.1 (omega arith)

-- a known kind is the kind of a row
by_row : (P : ℕ → Type 0) → Rows P kinds → (k : ℕ) → eqb (row_of k) 0 ≡ false → P k
unfolding row_of
by_row P f k n = split (ltb (first (of_kind k) kinds) (length kinds))
    (λ l. subst P (sym (eqb-true _ _ (first_passes (of_kind k) kinds 0 (ltb-true _ _ l)))) (row-there P kinds _ f (ltb-true _ _ l)))
    (λ l. clash (eq-eqb _ _ (get_or-eq_default kinds 0 (ltb-false _ _ l))) n)

Own : ℕ → Type 0
Own k = (g s x a p w : ℕ) → frame_of (op_of (fields k g s x a p w)) ≡ used_only (row_of k) (fields k g s x a p w)

own-rows : Rows Own kinds
unfolding Rows Own row_of kinds first uses ◌or◌
own-rows = (
  λ g s x a p w. refl,
  (
    λ g s x a p w. refl,
    (
      λ g s x a p w. refl,
      (
        λ g s x a p w. refl,
        (
          λ g s x a p w. refl,
          (
            λ g s x a p w. refl,
            (
              λ g s x a p w. refl,
              (
                λ g s x a p w. refl,
                (
                  λ g s x a p w. refl,
                  (
                    λ g s x a p w. refl,
                    (
                      λ g s x a p w. refl,
                      (
                        λ g s x a p w. refl,
                        (
                          λ g s x a p w. refl,
                          (
                            λ g s x a p w. refl,
                            (
                              λ g s x a p w. refl,
                              (
                                λ g s x a p w. refl,
                                (
                                  λ g s x a p w. refl,
                                  (
                                    λ g s x a p w. refl,
                                    (
                                      λ g s x a p w. refl,
                                      (
                                        λ g s x a p w. refl,
                                        (
                                          λ g s x a p w. refl,
                                          (
                                            λ g s x a p w. refl,
                                            (λ g s x a p w. refl, tt),
                                          ),
                                        ),
                                      ),
                                    ),
                                  ),
                                ),
                              ),
                            ),
                          ),
                        ),
                      ),
                    ),
                  ),
                ),
              ),
            ),
          ),
        ),
      ),
    ),
  ),
)

pub frame_of-asked : (a : Action) → eqb (row_of a.kind) 0 ≡ false → stray (row_of a.kind) a ≡ false → frame_of (op_of a) ≡ a
unfolding Own
frame_of-asked a known shaped =
    by_row Own own-rows a.kind known a.guest a.second a.access a.address a.page a.word ∙ no_stray (row_of a.kind) a shaped

-- so 4 is one test, whoever asks: the frame check's over the table of kinds, and the action's own
pub one-range-test : (m : Tables) (a : Action) → eqb (row_of a.kind) 0 ≡ false → stray (row_of a.kind) a ≡ false →
    beyond (row_of a.kind) a ≡ when (refusals m (op_of a)) 4
one-range-test m a known shaped = subst (λ (b : Action). beyond (row_of b.kind) b ≡ when (refusals m (op_of a)) 4)
    (frame_of-asked a known shaped) (asked-by-a-frame m (op_of a)).ranges
