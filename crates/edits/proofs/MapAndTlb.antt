-- A side's map changed, and then its TLB.
use mathlib.Core.Path.{◌≡◌}
use mathlib.Core.List.{List}
use Prim.Native.Nat.{ℕ}
use Rattle.tables.specs.State.{map_of, tlb_of}
use Rattle.tables.specs.Wants.{invalidated}
use Rattle.tables.specs.declared.state.Side.{Side}
use Rattle.tables.specs.declared.state.Side.TheVariants.{Cpu, Iommu}
use Rattle.tables.specs.declared.state.Tables.{Tables}
use Rattle.rules.specs.Parts.{with_walk}

-- the guest's entries for the guest page leave the TLB
pub and_then_tlb : (d : Side) (m : Tables) (g v : ℕ) (A B : List ℕ) {n : Tables} → n ≡ with_walk d m A B →
    with_walk d n (map_of d n) (invalidated g v (tlb_of d n)) ≡ with_walk d m A (invalidated g v B)
and_then_tlb Cpu m g v A B e = rw e
and_then_tlb Iommu m g v A B e = rw e
