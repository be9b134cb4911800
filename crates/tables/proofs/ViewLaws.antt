-- The source's views of the tables: what a key finds, and where a guest's entries may lead.
use mathlib.Core.Path.{◌≡◌, refl, sym, ◌∙◌, ap, subst}
use mathlib.Core.Bool.{Bool, true, false}
use mathlib.Core.List.{List}
use mathlib.Core.Logic.{◌↔◌, inl, inr, ⊎_elim}
use Prim.Native.Nat.{ℕ, ◌<◌}
use lib.Dec.{ltb}
use borrow.Author.Tests.{ltb-true, lt-ltb}
use Rattle.numbers.specs.Sizes.{guests, units, gpages}
use Rattle.numbers.specs.Tests.{◌and◌}
use Rattle.numbers.specs.Entries.{key_of, guest_in, gpage_in, unit_in, left_in, right_in}
use Rattle.numbers.proofs.Bools.{split, clash, cond-false, and_l, and_r, and_i, or-e, or-il, or-ir, isnt-no, not-true, bool-ext}
use Rattle.numbers.proofs.EntryLaws.{counts-fit, guest-under, gpage-under, unit-under, key-own}
use Rattle.tables.specs.Table.{live, find, has, Each, Uniq}
use Rattle.tables.specs.Wants.{W, has_key, joins, shared_by, shared_with, same_entry}
use Rattle.tables.specs.State.{reach, may_reach}
use Rattle.tables.specs.Wf.{EntryWf}
use Rattle.tables.specs.Views.{entry_at, view, Entitled}
use Rattle.tables.specs.declared.state.Tables.{Tables}
use Rattle.tables.specs.declared.state.Side.{Side}
use Rattle.tables.specs.declared.state.Side.TheVariants.{Cpu, Iommu}
use Rattle.tables.proofs.TableLaws.{find-passes, has-also, has-ext, each_all, each-find, none_each, live-find, find-own}
use Rattle.tables.proofs.WantLaws.{zero-free, has-key-agrees, joins-agrees, ends-at-agrees, same_entry-is}

-- ── keys ──
pub record Keyed (u g v : ℕ) : Type 0 where
  pub unit : u < units
  pub guest : g < guests
  pub gpage : v < gpages

-- what a search by key finds stands under that key
module _ (u g v : ℕ) (k : Keyed u g v) (w : ℕ) (e : has_key (key_of u g v) w ≡ true) where
  pub guest-is : guest_in w ≡ g
  guest-is = guest-under u g v w (counts-fit.guest g k.guest) (counts-fit.gpage v k.gpage) (sym ((has-key-agrees _ w).0 e))

  pub gpage-is : gpage_in w ≡ v
  gpage-is = gpage-under u g v w (counts-fit.guest g k.guest) (counts-fit.gpage v k.gpage) (sym ((has-key-agrees _ w).0 e))

  pub unit-is : unit_in w ≡ u
  unit-is = unit-under u g v w (counts-fit.guest g k.guest) (counts-fit.gpage v k.gpage) (sym ((has-key-agrees _ w).0 e)) (counts-fit.unit u k.unit)

module _ (u g v : ℕ) where
  in-range : (ltb u units and ltb g guests and ltb v gpages) ≡ true ↔ Keyed u g v
  in-range = (λ e. search (and_l, and_r, ltb-true) depth 9, λ k. search (and_i, lt-ltb) depth 9)

  -- a key is in range or it is not
  pub keyed-or : {P : Type 0} → (Keyed u g v → P) → ((Keyed u g v → ⊥) → P) → P
  keyed-or inside outside = split (ltb u units and ltb g guests and ltb v gpages)
      (λ e. inside (in-range.0 e))
      (λ e. outside (λ k. clash (in-range.1 k) e))

module _ (t : List ℕ) (u g v : ℕ) where
  pub entry_in : Keyed u g v → entry_at t u g v ≡ find W (has_key (key_of u g v)) t
  unfolding entry_at
  entry_in k = rw ((in-range u g v).1 k)

  pub entry-out : (Keyed u g v → ⊥) → entry_at t u g v ≡ 0
  unfolding entry_at
  entry-out n = split (ltb u units and ltb g guests and ltb v gpages) (λ e. absurd (n ((in-range u g v).0 e))) (λ e. rw e)

  -- an entry that is there stands under a key in range
  pub entry-keyed : live W (entry_at t u g v) ≡ true → Keyed u g v
  unfolding entry_at
  entry-keyed h = split (ltb u units and ltb g guests and ltb v gpages)
      (λ e. (in-range u g v).0 e)
      (λ e. clash (ap (live W) (sym (cond-false e (find W (has_key (key_of u g v)) t) 0)) ∙ h) (isnt-no zero-free))

  pub entry-there : live W (entry_at t u g v) ≡ true → has W (has_key (key_of u g v)) t ≡ true
  entry-there h = sym (live-find W zero-free (has_key (key_of u g v)) t) ∙ ap (live W) (sym (entry_in (entry-keyed h))) ∙ h

  pub there-entry : Keyed u g v → has W (has_key (key_of u g v)) t ≡ true → live W (entry_at t u g v) ≡ true
  there-entry k h = ap (live W) (entry_in k) ∙ live-find W zero-free (has_key (key_of u g v)) t ∙ h

-- ── every row is the entry of its own key, where no key stands twice ──
module _ (j : ℕ → Bool) (t : List ℕ) (ranges : Each W EntryWf t) (keys : Uniq W same_entry t) where
  row_at : has W j t ≡ true → let x = find W j t in entry_at t (unit_in x) (guest_in x) (gpage_in x) ≡ x
  row_at h =
      let x = find W j t in let r = each-find W j ranges h in
      let k : Keyed (unit_in x) (guest_in x) (gpage_in x) = record { unit = r.unit; guest = r.guest; gpage = r.gpage } in
      entry_in t _ _ _ k ∙ ap (λ (n : ℕ). find W (has_key n) t) (sym (key-own x r.live_tag)) ∙ find-own W zero-free same_entry-is j keys h

  -- no row passes a test exactly where no key's entry does
  pub none_passes : has W j t ≡ false ↔ ((u g v : ℕ) → live W (entry_at t u g v) ≡ true → j (entry_at t u g v) ≡ false)
  none_passes = (
    λ n u g v l. rw (entry_in t u g v (entry-keyed t u g v l)) (each-find W _ (none_each W j t n) (entry-there t u g v l)),
    λ f. not-true _ (λ h. clash (and_r _ _ (find-passes W j t h)) (subst (λ (x : ℕ). j x ≡ false) (row_at h)
        (f _ _ _ (ap (live W) (row_at h) ∙ and_l _ _ (find-passes W j t h))))),
  )

-- ── pairs ──
joins-turned : (l r q : ℕ) → joins l r q ≡ true → joins r l q ≡ true
joins-turned l r q e = (joins-agrees r l q).1 (⊎_elim (λ z. inr (z.1, z.0)) (λ z. inl (z.1, z.0)) ((joins-agrees l r q).0 e))

-- either order is the same pair
pub turned : (l r p : ℕ) (t : List ℕ) → has W (shared_by l r p) t ≡ has W (shared_by r l p) t
turned l r p t = has-ext W (shared_by l r p) (shared_by r l p) (each_all W t (λ q v. bool-ext _ _
    (λ e. and_i (and_l _ _ e) (joins-turned l r q (and_r _ _ e)))
    (λ e. and_i (and_l _ _ e) (joins-turned r l q (and_r _ _ e)))))

-- ── where a guest's entries may lead ──
module _ (m : Tables) (ws : List ℕ) (g p : ℕ) where
  -- an end of a pair, and the other one
  with-other : has W (shared_with g p) m.pairs ≡ true → Rattle.tables.specs.Views.SharedWith (view m ws) g p
  with-other h =
      let q = find W (shared_with g p) m.pairs in
      let e = and_r _ _ (find-passes W (shared_with g p) m.pairs h) in
      ⊎_elim
      (λ z. record {
        other = right_in q;
        edge = or-il _ (has-also W (shared_with g p) (shared_by g (right_in q) p) m.pairs h
            (and_i (and_l _ _ e) ((joins-agrees g _ q).1 (inl (z, refl)))));
      })
      (λ z. record {
        other = left_in q;
        edge = or-il _ (has-also W (shared_with g p) (shared_by g (left_in q) p) m.pairs h
            (and_i (and_l _ _ e) ((joins-agrees g _ q).1 (inr (z, refl)))));
      })
      ((ends-at-agrees g q).0 (and_r _ _ e))

  as-end : (r : ℕ) → has W (shared_by g r p) m.pairs ≡ true → has W (shared_with g p) m.pairs ≡ true
  as-end r h =
      let q = find W (shared_by g r p) m.pairs in
      let e = and_r _ _ (find-passes W (shared_by g r p) m.pairs h) in
      has-also W (shared_by g r p) (shared_with g p) m.pairs h (and_i (and_l _ _ e)
      ((ends-at-agrees g q).1 (⊎_elim (λ z. inl z.0) (λ z. inr z.0) ((joins-agrees g r q).0 (and_r _ _ e)))))

  pub reach-agrees : (d : Side) → may_reach d m g p ≡ true ↔ Entitled d (view m ws) g p
  unfolding reach
  reach-agrees Cpu = (
    λ e. ⊎_elim (λ z. inl z) (λ z. inr (with-other z)) (or-e _ _ e),
    λ h. ⊎_elim
        (λ z. or-il _ z)
        (λ z. or-ir _ (as-end z.other (⊎_elim (λ x. x) (λ x. turned g z.other p m.pairs ∙ x) (or-e _ _ z.edge))))
        h,
  )
  reach-agrees Iommu = (λ e. or-e _ _ e, λ h. ⊎_elim (λ z. or-il _ z) (λ z. or-ir _ z) h)
