-- What a search over the tables finds nothing of, no key of the source's state leads to: quiescence, who leans on a page, who is still
-- in use.
use mathlib.Core.Path.{◌≡◌, refl, sym, ◌∙◌, subst}
use mathlib.Core.Bool.{Bool, true, false}
use mathlib.Core.List.{List}
use mathlib.Core.Logic.{◌↔◌, inl, inr, ⊎_elim}
use Prim.Native.Nat.{ℕ}
use Rattle.numbers.specs.Entries.{page_in, guest_in, left_in, right_in}
use Rattle.numbers.proofs.Bools.{split, clash, and_l, and_r, and_i, and-no-l, and-no-r, isnt-i, isnt-no, not-true, not-false}
use Rattle.tables.specs.Table.{live, find, has}
use Rattle.tables.specs.Wants.{W, of_guest, to_page, maps, ends_at, shared_by}
use Rattle.tables.specs.State.{map_of, tlb_of}
use Rattle.tables.specs.Wf.{Wf}
use Rattle.tables.specs.Views.{view, entry_at, InS2Map, InTlb}
use Rattle.tables.specs.declared.state.Tables.{Tables}
use Rattle.tables.specs.declared.state.Side.{Side}
use Rattle.tables.specs.declared.state.Side.TheVariants.{Cpu}
use Rattle.tables.proofs.TableLaws.{find-passes, each-find, each_map, has-also}
use Rattle.tables.proofs.WantLaws.{of_guest-agrees, to_page-agrees, ends-at-agrees, joins-agrees}
use Rattle.tables.proofs.ViewLaws.{guest-is, unit-is, entry_in, entry-keyed, entry-there, none_passes}
use Rattle.rules.specs.Actions.{holds, leans}

module _ {m : Tables} (h : Wf m) (ws : List ℕ) where
  -- ── maps: an entry's unit is 0 ──
  module _ (d : Side) (j : ℕ → Bool) where
    pub none-maps : has W j (map_of d m) ≡ false ↔ ((g v : ℕ) → InS2Map d (view m ws) g v → j (entry_at (map_of d m) 0 g v) ≡ false)
    none-maps = (
      λ n g v. rows.0 n 0 g v,
      λ f. rows.1 (λ u g v l. subst (λ (n : ℕ). live W (entry_at (map_of d m) n g v) ≡ true → j (entry_at (map_of d m) n g v) ≡ false)
          (no_unit u g v l) (f g v) l),
    )
      where
        rows : has W j (map_of d m) ≡ false ↔ ((u g v : ℕ) → live W (entry_at (map_of d m) u g v) ≡ true → j (entry_at (map_of d m) u g v) ≡ false)
        rows = none_passes j (map_of d m) (each_map W (λ x _ r. r.entry) (h.walks_wf d).translation_wf) (h.walks_wf d).map_keys

        no_unit : (u g v : ℕ) → live W (entry_at (map_of d m) u g v) ≡ true → 0 ≡ u
        no_unit u g v l = let t = entry-there (map_of d m) u g v l in
            sym (each-find W _ (h.walks_wf d).translation_wf t).no_unit
            ∙ unit-is u g v (entry-keyed (map_of d m) u g v l) _ (and_r _ _ (find-passes W _ (map_of d m) t))

    pub none-cached : has W j (tlb_of d m) ≡ false ↔ ((u g v : ℕ) → InTlb d (view m ws) u g v → j (entry_at (tlb_of d m) u g v) ≡ false)
    none-cached = none_passes j (tlb_of d m) (h.walks_wf d).tlb_range (h.walks_wf d).tlb_keys

  -- ── a statement of each key in place of the test ──
  test-page : (p x : ℕ) → to_page p x ≡ false ↔ (page_in x ≡ p → ⊥)
  test-page p x = (λ n e. clash ((to_page-agrees p x).1 (sym e)) n, λ f. not-true _ (λ t. f (sym ((to_page-agrees p x).0 t))))

  -- no entry of the map leads to the page
  pub unmapped-agrees : (d : Side) (p : ℕ) →
      has W (to_page p) (map_of d m) ≡ false ↔ ((g v : ℕ) → InS2Map d (view m ws) g v → page_in (entry_at (map_of d m) 0 g v) ≡ p → ⊥)
  unmapped-agrees d p = (
    λ n g v l. (test-page p _).0 ((none-maps d (to_page p)).0 n g v l),
    λ f. (none-maps d (to_page p)).1 (λ g v l. (test-page p _).1 (f g v l)),
  )

  -- nor of the TLB
  pub uncached-agrees : (d : Side) (p : ℕ) →
      has W (to_page p) (tlb_of d m) ≡ false ↔ ((u g v : ℕ) → InTlb d (view m ws) u g v → page_in (entry_at (tlb_of d m) u g v) ≡ p → ⊥)
  uncached-agrees d p = (
    λ n u g v l. (test-page p _).0 ((none-cached d (to_page p)).0 n u g v l),
    λ f. (none-cached d (to_page p)).1 (λ u g v l. (test-page p _).1 (f u g v l)),
  )

  -- no pair is on the page
  pub unshared-agrees : (p : ℕ) → has W (to_page p) m.pairs ≡ false ↔ ((l r q : ℕ) → has W (shared_by l r q) m.pairs ≡ true → q ≡ p → ⊥)
  unshared-agrees p = (
    λ n l r q t e. clash (has-also W (shared_by l r q) (to_page p) m.pairs t
        (subst (λ (x : ℕ). to_page x (find W (shared_by l r q) m.pairs) ≡ true) e (and_l _ _ (and_r _ _ (find-passes W _ m.pairs t))))) n,
    λ f. not-true _ (λ t. let x = find W (to_page p) m.pairs in f (left_in x) (right_in x) p
        (has-also W (to_page p) (shared_by (left_in x) (right_in x) p) m.pairs t
        (and_i (and_r _ _ (find-passes W _ m.pairs t)) ((joins-agrees _ _ x).1 (inl (refl, refl))))) refl),
  )

  -- the guest of an entry is its key's
  entry-guest : (t : List ℕ) (u g v : ℕ) → live W (entry_at t u g v) ≡ true → guest_in (entry_at t u g v) ≡ g
  entry-guest t u g v l = let k = entry-keyed t u g v l in
      rw (entry_in t u g v k) (guest-is u g v k _ (and_r _ _ (find-passes W _ t (entry-there t u g v l))))

  -- no entry of a map or a TLB is the guest's
  pub maps-nothing-agrees : (d : Side) (g : ℕ) → has W (of_guest g) (map_of d m) ≡ false ↔ ((k v : ℕ) → InS2Map d (view m ws) k v → k ≡ g → ⊥)
  maps-nothing-agrees d g = (
    λ n k v l e. clash ((of_guest-agrees g _).1 (sym e ∙ sym (entry-guest (map_of d m) 0 k v l))) ((none-maps d (of_guest g)).0 n k v l),
    λ f. (none-maps d (of_guest g)).1 (λ k v l. not-true _ (λ t. f k v l (sym ((of_guest-agrees g _).0 t ∙ entry-guest (map_of d m) 0 k v l)))),
  )

  pub caches-nothing-agrees : (d : Side) (g : ℕ) → has W (of_guest g) (tlb_of d m) ≡ false ↔ ((u k v : ℕ) → InTlb d (view m ws) u k v → k ≡ g → ⊥)
  caches-nothing-agrees d g = (
    λ n u k v l e. clash ((of_guest-agrees g _).1 (sym e ∙ sym (entry-guest (tlb_of d m) u k v l))) ((none-cached d (of_guest g)).0 n u k v l),
    λ f. (none-cached d (of_guest g)).1 (λ u k v l. not-true _ (λ t. f u k v l (sym ((of_guest-agrees g _).0 t ∙ entry-guest (tlb_of d m) u k v l)))),
  )

  -- no pair has the guest as an end
  pub shares-nothing-agrees : (g : ℕ) →
      has W (ends_at g) m.pairs ≡ false ↔ ((l r q : ℕ) → has W (shared_by l r q) m.pairs ≡ true → (l ≡ g → ⊥) × (r ≡ g → ⊥))
  shares-nothing-agrees g = (
    λ n l r q t. let x = find W (shared_by l r q) m.pairs in let e = (joins-agrees l r x).0 (and_r _ _ (and_r _ _ (find-passes W _ m.pairs t))) in (
      λ s. clash (has-also W _ (ends_at g) m.pairs t ((ends-at-agrees g x).1 (⊎_elim (λ z. inl (sym s ∙ z.0)) (λ z. inr (sym s ∙ z.0)) e))) n,
      λ s. clash (has-also W _ (ends_at g) m.pairs t ((ends-at-agrees g x).1 (⊎_elim (λ z. inr (sym s ∙ z.1)) (λ z. inl (sym s ∙ z.1)) e))) n,
    ),
    λ f. not-true _ (λ t.
        let x = find W (ends_at g) m.pairs in
        let n = f (left_in x) (right_in x) (page_in x) (has-also W (ends_at g) (shared_by (left_in x) (right_in x) (page_in x)) m.pairs t
        (and_i ((to_page-agrees _ x).1 refl) ((joins-agrees _ _ x).1 (inl (refl, refl))))) in
        ⊎_elim (λ z. n.0 (sym z)) (λ z. n.1 (sym z)) ((ends-at-agrees g x).0 (and_r _ _ (find-passes W _ m.pairs t)))),
  )

  -- a guest that maps the page holds it
  pub leans-agrees : (g p : ℕ) →
      leans m g p ≡ false ↔ ((v : ℕ) → InS2Map Cpu (view m ws) g v → page_in (entry_at m.map 0 g v) ≡ p → holds m g p ≡ true)
  unfolding leans
  leans-agrees g p = (
    λ n v l e. not-false _ (λ o. clash
        (and_i (not-false _ (λ t. clash
        (and_i ((of_guest-agrees g _).1 (sym (entry-guest m.map 0 g v l))) ((to_page-agrees p _).1 (sym e)))
        ((none-maps Cpu (maps g p)).0 t g v l))) (isnt-i o)) n),
    λ f. split (holds m g p)
        (λ o. and-no-r _ (isnt-no o))
        (λ o. and-no-l _ ((none-maps Cpu (maps g p)).1 (λ k v l. not-true _ (λ t.
        let s : k ≡ g = sym ((of_guest-agrees g _).0 (and_l _ _ t) ∙ entry-guest m.map 0 k v l) in
        clash (f v (subst (λ (n : ℕ). live W (entry_at m.map 0 n v) ≡ true) s l)
        (subst (λ (n : ℕ). page_in (entry_at m.map 0 n v) ≡ p) s (sym ((to_page-agrees p _).0 (and_r _ _ t))))) o)))),
  )
