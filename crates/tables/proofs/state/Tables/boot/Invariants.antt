use mathlib.Core.Bool.{false}
use mathlib.Core.Path.{◌≡◌}
use Prim.Native.Nat.{◌/◌, ◌^◌}
use lib.ListN.{length}
use Rattle.numbers.specs.Sizes.{pages}
use Rattle.tables.specs.State.{pool, bit}
use Rattle.tables.proofs.LoopLaws.{Filled}
use Rattle.tables.proofs.state.Tables.boot.Given as goal

abbrev pub invariant-loop-p : goal.invariant-loop-p
invariant-loop-p l = (l.h ≡ l.hypervisor / 2 ^ l.p) × (l.r ≡ l.region / 2 ^ l.p) × (length l.holders ≡ pages) × (length l.shared ≡ pages)
    × Filled (pool l.hypervisor) 0 l.holders l.p × Filled (bit l.region) false l.shared l.p
