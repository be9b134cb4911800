-- The tables with one side's map and TLB replaced: what that side then has, and that the other side has what it had.
use mathlib.Core.Path.{◌≡◌, refl}
use mathlib.Core.List.{List}
use Prim.Native.Nat.{ℕ}
use Rattle.tables.specs.State.{map_of, tlb_of}
use Rattle.tables.specs.declared.state.Tables.{Tables}
use Rattle.tables.specs.declared.state.Side.{Side}
use Rattle.tables.specs.declared.state.Side.TheVariants.{Cpu, Iommu}
use Rattle.rules.specs.Parts.{with_walk}
use Rattle.rules.specs.Source.{other}

module _ (m : Tables) (map tlb : List ℕ) where
  pub map_with : (d : Side) → map_of d (with_walk d m map tlb) ≡ map
  map_with Cpu = refl
  map_with Iommu = refl

  pub tlb-with : (d : Side) → tlb_of d (with_walk d m map tlb) ≡ tlb
  tlb-with Cpu = refl
  tlb-with Iommu = refl

  pub other-map-with : (d : Side) → map_of (other d) (with_walk d m map tlb) ≡ map_of (other d) m
  other-map-with Cpu = refl
  other-map-with Iommu = refl

  pub other-tlb-with : (d : Side) → tlb_of (other d) (with_walk d m map tlb) ≡ tlb_of (other d) m
  other-tlb-with Cpu = refl
  other-tlb-with Iommu = refl
