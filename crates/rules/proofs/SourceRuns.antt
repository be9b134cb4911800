-- Boot is the source's `Init`, and runs of accepted actions are executions of the source.
use mathlib.Core.Path.{◌≡◌, refl, sym, ◌∙◌, ap, fun_ext}
use mathlib.Core.Bool.{Bool, true, false}
use mathlib.Core.List.{List, [], ◌∷◌}
use Prim.Native.Nat.{ℕ, zero, suc, ◌^◌}
use native.Mathlib.Nat.{zero-div}
use lib.Dec.{ltb}
use lib.ListN.{length, get_or, replicate, get_or-replicate, length-replicate}
use borrow.Author.Tests.{ne_eqb, ltb-true, ltb-false}
use Rattle.numbers.specs.Sizes.{guests, units, pages, map_room, tlb_room, pair_room, memory_words}
use Rattle.numbers.proofs.Bools.{split, clash, and-no-l, isnt-no}
use Rattle.tables.specs.Table.{has}
use Rattle.tables.specs.Wants.{W, shared_by}
use Rattle.tables.specs.State.{nobody, is_present, bit, tabulate, bare, boot}
use Rattle.tables.specs.Wf.{Wf}
use Rattle.tables.specs.Views.{view, entry_at}
use Rattle.tables.specs.declared.state.Side.TheVariants.{Cpu, Iommu}
use Rattle.tables.proofs.TableLaws.{has-nil, has-skip, find_none}
use Rattle.tables.proofs.WantLaws.{zero-free}
use Rattle.tables.proofs.LoopLaws.{get_d_past, Filled, length-tabulate, tabulate-at}
use Rattle.tables.proofs.ViewLaws.{keyed-or, entry_in, entry-out}
use Rattle.tables.proofs.BootWf.{boot-wf}
use Rattle.rules.specs.Actions.{touch, next, does}
use Rattle.rules.specs.Calls.{Machine}
use Rattle.rules.specs.Source.{MachineAction, Step, asked, Init, InitEmpty, IsExecution, last, Reachable, seen, moved, taken_up, moved_by, accepted_acts, visited}
use Rattle.rules.proofs.Words.{length-touched}
use Rattle.rules.proofs.WfKept.{wf-kept}
use Rattle.rules.proofs.SourceSteps.{step-exactly}

-- ── an empty table has nothing under any key ──
nothing-there : (k : ℕ → Bool) (n : ℕ) → has W k (replicate n 0) ≡ false
nothing-there k zero = has-nil W k
nothing-there k (suc n) = has-skip W k 0 (replicate n 0) (and-no-l _ (isnt-no zero-free)) ∙ nothing-there k n

no-entry : (n u g v : ℕ) → entry_at (replicate n 0) u g v ≡ 0
no-entry n u g v = keyed-or u g v
    (λ k. entry_in (replicate n 0) u g v k ∙ find_none W _ (replicate n 0) (nothing-there _ n))
    (λ k. entry-out (replicate n 0) u g v k)

same-everywhere : {A : Type 0} (n i : ℕ) (d : A) → get_or (replicate n d) i d ≡ d
same-everywhere n i d = split (ltb i n)
    (λ t. get_or-replicate n i d d (ltb-true i n t))
    (λ t. get_d_past (replicate n d) d n i (length-replicate n d) (ltb-false i n t))

-- ── boot ──
module _ (hv rg : ℕ) (ws : List ℕ) where
  nobody-here : (g : ℕ) → is_present (boot hv rg) g ≡ false
  unfolding boot bare
  nobody-here g = same-everywhere guests g false

  -- whatever the masks: all clauses of `Init` but the one on the region
  pub boot-empty : InitEmpty (view (boot hv rg) ws)
  unfolding boot bare
  boot-empty = record {
    all_vms = fun_ext nobody-here;
    vm_owned = fun_ext (λ g. fun_ext (λ p. ne_eqb _ _ (λ e. clash (((boot-wf hv rg).pages_wf p).ownership_wf g e) (nobody-here g))));
    shared_pages = fun_ext (λ l. fun_ext (λ r. fun_ext (λ p. nothing-there (shared_by l r p) pair_room)));
    s2_map = fun_ext (elim [ Cpu ↦ fun_ext (λ g. fun_ext (λ v. no-entry map_room 0 g v)) | Iommu ↦ fun_ext (λ g. fun_ext (λ v. no-entry map_room 0 g v)) ]);
    tlb = fun_ext (elim [
      | Cpu ↦ fun_ext (λ u. fun_ext (λ g. fun_ext (λ v. no-entry tlb_room u g v)))
      | Iommu ↦ fun_ext (λ u. fun_ext (λ g. fun_ext (λ v. no-entry tlb_room u g v)))
    ]);
    iommu_owned = fun_ext (λ g. fun_ext (λ p. ne_eqb _ _ (λ e. clash (((boot-wf hv rg).pages_wf p).iommu_ownership_wf g e) (nobody-here g))));
    active_vm = fun_ext (λ u. same-everywhere units u nobody);
  }

-- no region
no-bit : (p : ℕ) → bit 0 p ≡ false
unfolding bit
no-bit p = rw (zero-div (2 ^ p))

pub boot-init : (hv : ℕ) (ws : List ℕ) → Init (view (boot hv 0) ws)
unfolding boot bare Filled
boot-init hv ws = (
  boot-empty hv 0 ws,
  fun_ext (λ p. split (ltb p pages)
      (λ t. tabulate-at pages (bit 0) false p (ltb-true p pages t) ∙ no-bit p)
      (λ t. get_d_past (tabulate pages (bit 0)) false pages p (length-tabulate pages (bit 0)) (ltb-false p pages t))),
)

-- ── lists ──
-- a refused action leaves the machine as it is
stays : (s : Machine) (a : MachineAction) → taken_up s a ≡ false → moved s a ≡ s
unfolding next does moved
stays s a e = rw e

-- an accepted one keeps good order and the length of memory
keeps : (s : Machine) (a : MachineAction) → taken_up s a ≡ true → Wf s.tables → length s.memory ≡ memory_words →
    Wf (moved s a).tables × (length (moved s a).memory ≡ memory_words)
unfolding next does moved
keeps s a e h l = rw e (wf-kept s.tables (asked a) e h, length-touched (touch s.tables (asked a)) s.memory ∙ l)

moved-step : (s : Machine) (a : MachineAction) → taken_up s a ≡ true → Wf s.tables → length s.memory ≡ memory_words → Step (seen s) (seen (moved s a)) a
unfolding moved
moved-step s a e h l = ((step-exactly h s.memory l a _).1 (e, refl)).0

-- the accepted ones are an execution of the source
pub execution : (acts : List MachineAction) (s : Machine) → Wf s.tables → length s.memory ≡ memory_words →
    IsExecution (seen s ∷ visited s acts) (accepted_acts s acts)
unfolding visited accepted_acts
execution [] s h l = IsExecution.here
execution (a ∷ acts) s h l = split (taken_up s a)
    (λ e. let k = keeps s a e h l in rw e (IsExecution.more (moved-step s a e h l) (execution acts (moved s a) k.0 k.1)))
    (λ e. rw e (execution acts s h l))

last-visited : (acts : List MachineAction) (s : Machine) → last (seen s) (visited s acts) ≡ seen (moved_by s acts)
unfolding visited moved_by
last-visited [] s = refl
last-visited (a ∷ acts) s = split (taken_up s a)
    (λ e. rw e (last-visited acts (moved s a)))
    (λ e. rw e (last-visited acts s ∙ ap (λ (t : Machine). seen (moved_by t acts)) (sym (stays s a e))))

-- from boot without a region, whatever the actions, the source reaches where the machine is
pub boot-reachable : (hv : ℕ) (ws : List ℕ) → length ws ≡ memory_words → (acts : List MachineAction) →
    Reachable (seen (moved_by (record { tables = boot hv 0; memory = ws }) acts))
boot-reachable hv ws l acts = let s : Machine = record { tables = boot hv 0; memory = ws } in record {
  start = seen s;
  trace = visited s acts;
  acts = accepted_acts s acts;
  run = execution acts s (boot-wf hv 0) l;
  starts = boot-init hv ws;
  ends = last-visited acts s;
}
