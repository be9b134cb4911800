-- What stays in good order when one part of the tables is replaced. A clause that reads only other parts is handed on as it stands:
-- the tables after are a literal whose other parts compute.
use mathlib.Core.Path.{◌≡◌, sym, ◌∙◌, ap, subst}
use mathlib.Core.Bool.{Bool, true, false}
use mathlib.Core.List.{List}
use mathlib.Core.Logic.{inl, inr, ⊎_elim}
use Prim.Native.Nat.{ℕ}
use native.Mathlib.Omega.{arith}
use lib.Dec.{eqb}
use lib.ListN.{get_or, set, length, length-set}
use borrow.Author.Tests.{eqb-true, eq-eqb}
use Rattle.numbers.specs.Entries.{guest_in, page_in}
use Rattle.numbers.proofs.Bools.{or-e, or-il, or-ir}
use Rattle.tables.specs.Table.{has, Each, Uniq}
use Rattle.tables.specs.Wants.{W, of_guest, ends_at, shared_with, same_pair}
use Rattle.tables.specs.State.{nobody, guest, is_present, in_region, holder_of, dma_of, running_on, by_side, map_of, tlb_of, held_on, reach, may_reach}
use Rattle.tables.specs.Wf.{Sized, PageWf, CpuWf, PairWf, WalkWf, Wf}
use Rattle.tables.specs.declared.state.Tables.{Tables}
use Rattle.tables.specs.declared.state.Side.{Side}
use Rattle.tables.specs.declared.state.Side.TheVariants.{Cpu, Iommu}
use Rattle.tables.proofs.TableLaws.{each_map, each_both}
use Rattle.tables.proofs.WantLaws.{of_guest-agrees, ends-at-agrees}
use Rattle.rules.specs.Parts.{with_present, with_running, with_pairs, with_held, with_walk}
use Rattle.rules.proofs.Places.{at_set}
use Rattle.rules.proofs.Walks.{walk-mono}

-- ── what a guest may reach, with another holder or other pairs ──
-- the holder of p becomes x: who reached p as its holder still does
reach-held : (d : Side) (held pairs : List ℕ) (region : List Bool) (p x g q : ℕ) →
    (q ≡ p → get_or held q nobody ≡ guest g → x ≡ guest g) → reach d held pairs region g q ≡ true → reach d (set held p x) pairs region g q ≡ true
unfolding reach
reach-held d held pairs region p x g q f e = ⊎_elim
    (λ k. or-il _ (at_set (λ n. eqb n (guest g) ≡ true) held p x q nobody (λ s. eq-eqb _ _ (f s (eqb-true _ _ k))) k))
    (λ k. or-ir _ k)
    (or-e _ _ e)

-- other pairs: who reached the page as an end of a pair still reaches it
reach-pairs : (held pairs pairs' : List ℕ) (region : List Bool) (g q : ℕ) →
    (has W (shared_with g q) pairs ≡ true → reach Cpu held pairs' region g q ≡ true) →
    reach Cpu held pairs region g q ≡ true → reach Cpu held pairs' region g q ≡ true
unfolding reach
reach-pairs held pairs pairs' region g q f e = ⊎_elim (λ k. or-il _ k) f (or-e _ _ e)

module _ {m : Tables} (h : Wf m) where
  -- ── one side's map and TLB ──
  module _ (d : Side) (map tlb : List ℕ) where
    pub keeps-walk : length map ≡ length (map_of d m) → length tlb ≡ length (tlb_of d m) → WalkWf m.present (may_reach d m) map tlb → Wf (with_walk d m map tlb)
    keeps-walk lm lt w = record {
      sizes = sizes d lm lt;
      pages_wf = h.pages_wf;
      cpus_wf = h.cpus_wf;
      sharing_wf = h.sharing_wf;
      pair_keys = h.pair_keys;
      walks_wf = walks d w;
    }
      where
        sizes : (d : Side) → length map ≡ length (map_of d m) → length tlb ≡ length (tlb_of d m) → Sized (with_walk d m map tlb)
        sizes Cpu a b = omega arith
        sizes Iommu a b = omega arith

        walks : (d : Side) → WalkWf m.present (may_reach d m) map tlb → (e : Side) →
            WalkWf m.present (may_reach e m) (map_of e (with_walk d m map tlb)) (tlb_of e (with_walk d m map tlb))
        walks Cpu k Cpu = k
        walks Cpu k Iommu = h.walks_wf Iommu
        walks Iommu k Cpu = h.walks_wf Cpu
        walks Iommu k Iommu = k

  -- ── the holder of p on one side becomes x ──
  module _ (d : Side) (p x : ℕ) where
    pub keeps-held : PageWf m.present (by_side d x (holder_of m p)) (by_side d (dma_of m p) x) (in_region m p) →
        Each W (λ r. page_in r ≡ p → get_or (held_on d m) p nobody ≡ guest (guest_in r) → x ≡ guest (guest_in r)) (map_of d m) →
        Wf (with_held d m (set (held_on d m) p x))
    keeps-held page rows = record {
      sizes = sizes d;
      pages_wf = pages d page;
      cpus_wf = h.cpus_wf;
      sharing_wf = h.sharing_wf;
      pair_keys = h.pair_keys;
      walks_wf = walks d rows;
    }
      where
        sizes : (d : Side) → Sized (with_held d m (set (held_on d m) p x))
        sizes Cpu = let n = length-set m.holder p x in omega arith
        sizes Iommu = let n = length-set m.dma p x in omega arith

        pages : (d : Side) → PageWf m.present (by_side d x (holder_of m p)) (by_side d (dma_of m p) x) (in_region m p) → (q : ℕ) →
            PageWf m.present (holder_of (with_held d m (set (held_on d m) p x)) q) (dma_of (with_held d m (set (held_on d m) p x)) q) (in_region m q)
        pages Cpu k q = at_set (λ n. PageWf m.present n (dma_of m q) (in_region m q)) m.holder p x q nobody
            (λ e. subst (λ (n : ℕ). PageWf m.present x (dma_of m n) (in_region m n)) (sym e) k) (h.pages_wf q)
        pages Iommu k q = at_set (λ n. PageWf m.present (holder_of m q) n (in_region m q)) m.dma p x q nobody
            (λ e. subst (λ (n : ℕ). PageWf m.present (holder_of m n) x (in_region m n)) (sym e) k) (h.pages_wf q)

        side : (d : Side) → Each W (λ r. page_in r ≡ p → get_or (held_on d m) p nobody ≡ guest (guest_in r) → x ≡ guest (guest_in r)) (map_of d m) →
            WalkWf m.present (reach d (set (held_on d m) p x) m.pairs m.region) (map_of d m) (tlb_of d m)
        side d k = walk-mono (h.walks_wf d) (each_map W (λ r l f here ok. (
          here,
          reach-held d (held_on d m) m.pairs m.region p x _ _
              (λ e s. f e (ap (λ (n : ℕ). get_or (held_on d m) n nobody) (sym e) ∙ s)) ok,
        )) k)

        walks : (d : Side) → Each W (λ r. page_in r ≡ p → get_or (held_on d m) p nobody ≡ guest (guest_in r) → x ≡ guest (guest_in r)) (map_of d m) →
            (e : Side) → WalkWf m.present (may_reach e (with_held d m (set (held_on d m) p x))) (map_of e m) (tlb_of e m)
        walks Cpu k Cpu = side Cpu k
        walks Cpu k Iommu = h.walks_wf Iommu
        walks Iommu k Cpu = h.walks_wf Cpu
        walks Iommu k Iommu = side Iommu k

  -- ── the pairs: an entry that rested on a pair still rests on one, or on a hold ──
  pub keeps-pairs : (ps : List ℕ) → length ps ≡ length m.pairs → Each W (PairWf m.present) ps → Uniq W same_pair ps →
      Each W (λ r. has W (shared_with (guest_in r) (page_in r)) m.pairs ≡ true →
      may_reach Cpu (with_pairs m ps) (guest_in r) (page_in r) ≡ true) m.map →
      Wf (with_pairs m ps)
  unfolding reach
  keeps-pairs ps n ok keys rows = record {
    sizes = omega arith;
    pages_wf = h.pages_wf;
    cpus_wf = h.cpus_wf;
    sharing_wf = ok;
    pair_keys = keys;
    walks_wf = walks;
  }
    where
      walks : (e : Side) → WalkWf m.present (may_reach e (with_pairs m ps)) (map_of e m) (tlb_of e m)
      walks Cpu = walk-mono (h.walks_wf Cpu) (each_map W (λ r l f here ok. (here, reach-pairs m.holder m.pairs ps m.region _ _ f ok)) rows)
      walks Iommu = h.walks_wf Iommu

  -- ── whether g is present becomes b: true, if anything names it ──
  module _ (g : ℕ) (b : Bool) where
    still : (i : ℕ) → (i ≡ g → b ≡ true) → is_present m i ≡ true → get_or (set m.present g b) i false ≡ true
    still i f e = at_set (λ c. c ≡ true) m.present g b i false f e

    pub keeps-present : ((p : ℕ) → holder_of m p ≡ guest g → b ≡ true) → ((p : ℕ) → dma_of m p ≡ guest g → b ≡ true) →
        ((u : ℕ) → running_on m u ≡ guest g → b ≡ true) → Each W (λ q. ends_at g q ≡ true → b ≡ true) m.pairs →
        ((d : Side) → Each W (λ x. of_guest g x ≡ true → b ≡ true) (map_of d m)) → Wf (with_present m (set m.present g b))
    keeps-present held dma runs ends rows = record {
      sizes = let n = length-set m.present g b in omega arith;
      pages_wf = λ p. record {
        ownership_wf = λ i e. still i (λ s. held p (e ∙ ap guest s)) ((h.pages_wf p).ownership_wf i e);
        iommu_ownership_wf = λ i e. still i (λ s. dma p (e ∙ ap guest s)) ((h.pages_wf p).iommu_ownership_wf i e);
        no_hypervisor_dma = (h.pages_wf p).no_hypervisor_dma;
        one_guest = (h.pages_wf p).one_guest;
        region_not_owned = (h.pages_wf p).region_not_owned;
        region_not_iommu_owned = (h.pages_wf p).region_not_iommu_owned;
      };
      cpus_wf = λ u. record {
        active_vm_wf = λ i e. still i (λ s. runs u (e ∙ ap guest s)) ((h.cpus_wf u).active_vm_wf i e);
        no_hypervisor_runs = (h.cpus_wf u).no_hypervisor_runs;
      };
      sharing_wf = each_map W (λ q l e. record {
        live_tag = e.1.live_tag;
        left = e.1.left;
        right = e.1.right;
        page = e.1.page;
        access = e.1.access;
        differ = e.1.differ;
        left_present = still _ (λ s. e.0 ((ends-at-agrees g q).1 (inl (sym s)))) e.1.left_present;
        right_present = still _ (λ s. e.0 ((ends-at-agrees g q).1 (inr (sym s)))) e.1.right_present;
      }) (each_both W ends h.sharing_wf);
      pair_keys = h.pair_keys;
      walks_wf = λ d. walk-mono (h.walks_wf d)
          (each_map W (λ x l f here ok. (still _ (λ s. f ((of_guest-agrees g x).1 (sym s))) here, ok)) (rows d));
    }

  -- ── a CPU runs x ──
  pub keeps-running : (u x : ℕ) → CpuWf m.present x → Wf (with_running m (set m.running u x))
  keeps-running u x w = record {
    sizes = let n = length-set m.running u x in omega arith;
    pages_wf = h.pages_wf;
    cpus_wf = λ q. at_set (λ n. CpuWf m.present n) m.running u x q nobody (λ e. w) (h.cpus_wf q);
    sharing_wf = h.sharing_wf;
    pair_keys = h.pair_keys;
    walks_wf = λ d. h.walks_wf d;
  }
