-- What only the definitions force, each by itself: a raster is kept, words stay, no second pair excuses, every unit is dropped, where
-- entries stand, and that Fill and Drop change no translation.
use mathlib.Core.Path.{◌≡◌, refl, sym, ◌∙◌, ap}
use mathlib.Core.Bool.{Bool, true, false}
use mathlib.Core.List.{List}
use Prim.Native.Nat.{ℕ, ◌<◌, ◌≤◌}
use native.Mathlib.Omega.{arith}
use lib.Dec.{eqb, ltb}
use lib.ListN.{get_or, set, length}
use lib.Seq.{set-get_or}
use borrow.Author.Tests.{eqb-true, ltb-true, ltb-false}
use Rattle.numbers.specs.Sizes.{guests, pages}
use Rattle.numbers.specs.Tests.{◌or◌}
use Rattle.numbers.specs.Rules.{least}
use Rattle.numbers.specs.Search.{first}
use Rattle.numbers.specs.Entries.{key_of, entry, at_unit}
use Rattle.numbers.specs.Frames.{off}
use Rattle.numbers.proofs.Bools.{split, clash, cond-true, and_i, and-no-l, or_no, or-il, or-ir, isnt-no, not-true}
use Rattle.numbers.proofs.SearchLaws.{first_passes, first-lowest}
use Rattle.tables.specs.Table.{has, hit, put, wipe, cleared, place, find, full}
use Rattle.tables.specs.Wants.{W, has_key, everywhere, shared_by, invalidated}
use Rattle.tables.specs.State.{guest, is_present, holder_of, dma_of, map_of, tlb_of}
use Rattle.tables.specs.Wf.{Wf}
use Rattle.tables.specs.Views.{view, entry_at}
use Rattle.tables.specs.declared.state.Tables.{Tables}
use Rattle.tables.specs.declared.state.Side.{Side}
use Rattle.tables.specs.declared.state.Side.TheVariants.{Cpu, Iommu}
use Rattle.tables.proofs.TableLaws.{each_none, each_map, each_all, each-wipe, put-over, put-new, wipe-at, length-wipe}
use Rattle.tables.proofs.WantLaws.{zero-free, of_guest-agrees, of_gpage-agrees}
use Rattle.tables.proofs.SourceWf.{source-wf}
use Rattle.tables.proofs.ViewLaws.{Keyed, guest-is, gpage-is}
use Rattle.rules.specs.Actions.{absent, holds, dma_holds, leans, refusals, effect, clear_page, next, does, accepted, acted}
use Rattle.rules.specs.Actions.Op.{AssignPage, ReclaimPage, SharePage, UnsharePage, Map, Unmap, Fill, Drop, IommuAssignPage}
use Rattle.rules.specs.Parts.{with_walk}
use Rattle.rules.specs.Source.{effective_entry}
use Rattle.rules.proofs.Accesses.{translation-is-the-map's}
use Rattle.rules.proofs.WfKept.{wf-kept}
use Rattle.rules.proofs.PartLaws.{map_with, tlb-with}
use Rattle.rules.proofs.Lowest.{when}
use Rattle.rules.proofs.Ranges.{in-range, present-below, dma-below}
use Rattle.rules.proofs.Places.{another-agrees}

-- ── memory ──
-- the CPU holder's raster is kept when its page is given to its devices
pub raster-kept : (m : Tables) (g p : ℕ) (ws : List ℕ) → holds m g p ≡ true → (acted m (IommuAssignPage g p) ws).memory ≡ ws
unfolding does
raster-kept m g p ws h = split (accepted (refusals m (IommuAssignPage g p))) (λ e. rw (e, or-ir (dma_holds m g p) h)) (λ e. rw e)

-- a page that comes to its devices anew, and to no CPU holder, is wiped; so is one that is assigned
pub device-page-wiped : (m : Tables) (g p : ℕ) (ws : List ℕ) → accepted (refusals m (IommuAssignPage g p)) ≡ true →
    dma_holds m g p ≡ false → holds m g p ≡ false → (acted m (IommuAssignPage g p) ws).memory ≡ clear_page p ws
unfolding does
device-page-wiped m g p ws e a b = rw (e, or_no a b)

pub assigned-page-wiped : (m : Tables) (g p : ℕ) (ws : List ℕ) → accepted (refusals m (AssignPage g p)) ≡ true →
    (acted m (AssignPage g p) ws).memory ≡ clear_page p ws
unfolding does
assigned-page-wiped m g p ws e = rw e

-- a reclaimed page's words stay
pub words-stay : (m : Tables) (g p : ℕ) (ws : List ℕ) → (acted m (ReclaimPage g p) ws).memory ≡ ws
unfolding does
words-stay m g p ws = split (accepted (refusals m (ReclaimPage g p))) (λ e. rw e) (λ e. rw e)

-- ── a page given again to the devices of the guest that has it: accepted, and nothing changes ──
pub repeated-assign : (m : Tables) → Wf m → (g p : ℕ) (ws : List ℕ) → dma_holds m g p ≡ true →
    acted m (IommuAssignPage g p) ws ≡ record { seen = record { number = 0; word = 0 }; tables = m; memory = ws }
unfolding does next least
repeated-assign m h g p ws e =
    let held : dma_of m p ≡ guest g = eqb-true _ _ e in
    let here : is_present m g ≡ true = (h.pages_wf p).iommu_ownership_wf g held in
    rw (
      or_no (in-range g guests (present-below h g here)) (in-range p pages (dma-below h p (omega arith))),
      isnt-no here,
      or_no ((h.pages_wf p).region_not_iommu_owned g held) (or_no
          ((another-agrees g (dma_of m p)).1 (λ k s. omega arith))
          ((another-agrees g (holder_of m p)).1 (λ k s. (h.pages_wf p).one_guest k g s held))),
      ap (set m.dma p) (sym held) ∙ set-get_or m.dma p 0,
      or-il (holds m g p) e,
    )

-- ── pairs ──
-- an end that maps the page without holding it: no other pair of that guest on that page excuses it
pub no-second-pair-excuses : (m : Tables) (l r p : ℕ) (ws : List ℕ) →
    (off l guests or off r guests or off p pages) ≡ false → eqb l r ≡ false → (absent m l or absent m r) ≡ false →
    has W (shared_by l r p) m.pairs ≡ true → (leans m l p or leans m r p) ≡ true → (acted m (UnsharePage l r p) ws).seen.number ≡ 13
unfolding least
no-second-pair-excuses m l r p ws e₄ e₅ e₆ pair leans = rw (e₄, e₅, e₆, and_i pair leans)

-- a pair that stands, in either order, is accepted again, however full the table, and nothing changes
pub standing-pair-kept : (m : Tables) (l r p : ℕ) (ws : List ℕ) →
    (off l guests or off r guests or off p pages) ≡ false → eqb l r ≡ false → (absent m l or absent m r) ≡ false → holds m l p ≡ true →
    has W (shared_by l r p) m.pairs ≡ true → acted m (SharePage l r p) ws ≡ record { seen = record { number = 0; word = 0 }; tables = m; memory = ws }
unfolding least next does
standing-pair-kept m l r p ws e₄ e₅ e₆ mine pair = rw (e₄, e₅, e₆, isnt-no mine, and-no-l (full W m.pairs) (isnt-no pair), pair)

-- ── map and unmap, on either side ──
module _ (d : Side) (m : Tables) (g v : ℕ) where
  -- a key that stands is never refused for want of room, however full the map; nor is a TLB's
  pub standing-key-has-room : (p x : ℕ) → has W (has_key (key_of 0 g v)) (map_of d m) ≡ true → when (refusals m (Map d g v p x)) 15 ≡ false
  standing-key-has-room p x e = and-no-l _ (isnt-no e)

  pub standing-fill-has-room : (u : ℕ) → has W (has_key (key_of u g v)) (tlb_of d m) ≡ true → when (refusals m (Fill d g u v)) 15 ≡ false
  standing-fill-has-room u e = and-no-l _ (isnt-no e)

  -- every unit loses the entry
  gone : (u : ℕ) (tlb : List ℕ) → Keyed u g v → has W (has_key (key_of u g v)) (invalidated g v tlb) ≡ false
  gone u tlb k = each_none W _ (each_map W (λ y l e. not-true _ (λ t. clash
      (and_i ((of_guest-agrees g y).1 (sym (guest-is u g v k y t))) ((of_gpage-agrees v y).1 (sym (gpage-is u g v k y t)))) e.1))
      (each-wipe W zero-free (everywhere g v) (each_all W {P = λ x. Unit {0}} tlb (λ x l. tt))))

  pub map-drops-all : (p x u : ℕ) → Keyed u g v → has W (has_key (key_of u g v)) (tlb_of d (effect m (Map d g v p x))) ≡ false
  map-drops-all p x u k = rw (tlb-with m (put W (has_key (key_of 0 g v)) (entry 0 g v p x) (map_of d m)) (invalidated g v (tlb_of d m)) d) (gone u (tlb_of d m) k)

  pub unmap-drops-all : (u : ℕ) → Keyed u g v → has W (has_key (key_of u g v)) (tlb_of d (effect m (Unmap d g v))) ≡ false
  unmap-drops-all u k = rw (tlb-with m (wipe W (has_key (key_of 0 g v)) (map_of d m)) (invalidated g v (tlb_of d m)) d) (gone u (tlb_of d m) k)

  -- an overwritten entry stays where it was; a new one takes the lowest free place
  pub overwritten-stays : (p x : ℕ) → has W (has_key (key_of 0 g v)) (map_of d m) ≡ true →
      map_of d (effect m (Map d g v p x)) ≡ set (map_of d m) (first (hit W (has_key (key_of 0 g v))) (map_of d m)) (entry 0 g v p x)
  overwritten-stays p x e = map_with m _ (invalidated g v (tlb_of d m)) d ∙ put-over W zero-free _ _ (map_of d m) e

  pub refilled-stays : (u : ℕ) → has W (has_key (key_of u g v)) (tlb_of d m) ≡ true →
      tlb_of d (effect m (Fill d g u v)) ≡
      set (tlb_of d m) (first (hit W (has_key (key_of u g v))) (tlb_of d m)) (at_unit u (find W (has_key (key_of 0 g v)) (map_of d m)))
  refilled-stays u e = tlb-with m (map_of d m) _ d ∙ put-over W zero-free _ _ (tlb_of d m) e

  pub new-takes-lowest : (p x : ℕ) → has W (has_key (key_of 0 g v)) (map_of d m) ≡ false →
      map_of d (effect m (Map d g v p x)) ≡ set (map_of d m) (first W.free (map_of d m)) (entry 0 g v p x)
  unfolding place
  new-takes-lowest p x e = map_with m _ (invalidated g v (tlb_of d m)) d ∙ put-new W zero-free _ _ (map_of d m) e

  -- an unmapped entry's place is zero, any other as it was
  pub unmapped-zero : (i : ℕ) → get_or (map_of d (effect m (Unmap d g v))) i 0 ≡ cleared W (has_key (key_of 0 g v)) (get_or (map_of d m) i 0)
  unmapped-zero i = rw (map_with m (wipe W (has_key (key_of 0 g v)) (map_of d m)) (invalidated g v (tlb_of d m)) d) (wipe-at W zero-free _ (map_of d m) i)

-- ── a freed place, in a map, a TLB or among the pairs: the next to be taken, if no place before it is free ──
module _ (k : ℕ → Bool) (t : List ℕ) (i : ℕ) (inside : i < length t) (mine : hit W k (get_or t i 0) ≡ true) where
  pub freed-zero : get_or (wipe W k t) i 0 ≡ 0
  freed-zero = wipe-at W zero-free k t i ∙ cond-true mine 0 (get_or t i 0)

  pub freed-next : ((j : ℕ) → j < i → W.free (get_or (wipe W k t) j 0) ≡ false) → (r : ℕ) → place W r (wipe W k t) ≡ set (wipe W k t) i r
  unfolding place
  freed-next others r =
      let long : length (wipe W k t) ≡ length t = length-wipe W k t in
      ap (λ (n : ℕ). set (wipe W k t) n r) (split (ltb (first W.free (wipe W k t)) i)
      (λ e. clash
      (first_passes W.free (wipe W k t) 0 (let l : first W.free (wipe W k t) < i = ltb-true _ _ e in omega arith))
      (others _ (ltb-true _ _ e)))
      (λ e.
      let l : i ≤ first W.free (wipe W k t) = ltb-false _ _ e in
      let f : first W.free (wipe W k t) ≤ i = first-lowest W.free (wipe W k t) 0 i (omega arith) (rw freed-zero zero-free) in
      omega arith))

-- ── Fill and Drop change no translation, on either side, of anybody ──
same-maps : (d e : Side) (m : Tables) (tlb : List ℕ) → map_of e (with_walk d m (map_of d m) tlb) ≡ map_of e m
same-maps Cpu Cpu m tlb = refl
same-maps Cpu Iommu m tlb = refl
same-maps Iommu Cpu m tlb = refl
same-maps Iommu Iommu m tlb = refl

module _ (m : Tables) (h : Wf m) (ws : List ℕ) (d e : Side) (g u v : ℕ) (t k w : ℕ) where
  unseen : (tlb : List ℕ) → Wf (with_walk d m (map_of d m) tlb) →
      effective_entry e (view (with_walk d m (map_of d m) tlb) ws) t k w ≡ effective_entry e (view m ws) t k w
  unseen tlb after = translation-is-the-map's e (view (with_walk d m (map_of d m) tlb) ws) t k w (source-wf _ ws after)
      ∙ ap (λ (map : List ℕ). entry_at map 0 k w) (same-maps d e m tlb) ∙ sym (translation-is-the-map's e (view m ws) t k w (source-wf m ws h))

  pub fill-unseen : accepted (refusals m (Fill d g u v)) ≡ true →
      effective_entry e (view (effect m (Fill d g u v)) ws) t k w ≡ effective_entry e (view m ws) t k w
  fill-unseen q = unseen _ (wf-kept m (Fill d g u v) q h)

  pub drop-unseen : accepted (refusals m (Drop d g u v)) ≡ true →
      effective_entry e (view (effect m (Drop d g u v)) ws) t k w ≡ effective_entry e (view m ws) t k w
  drop-unseen q = unseen _ (wf-kept m (Drop d g u v) q h)
