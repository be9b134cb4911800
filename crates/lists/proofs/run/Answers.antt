-- `lists::run` meets its contract.
use mathlib.Core.Path.{◌≡◌}
use native.Mathlib.Omega.{arith}
use lib.ListN.{length}
use Prim.Native.Nat.{◌/◌, ◌≤◌}
use Rattle.numbers.specs.Sizes.{frame_bytes}
use Rattle.numbers.specs.Tests.{isnt}
use Rattle.rules.specs.Calls.{frame_at, run}
use Rattle.lists.proofs.ListLaws.{went-none, went-more, fewer, none-accepted, handled-le, listed-is}
use Rattle.lists.proofs.run.Goals as goal

pub loop-i-init : goal.loop-i-init
loop-i-init c = went-none _ _

-- the list goes no further than its frames
pub frame-requires : goal.frame-requires
unfolding frame_bytes
frame-requires c =
    let few : c.begin-ran.result.handled ≤ length c.args.bytes.now / 16 = handled-le _ _ _ _ _ _ c.begin-ran.ensures in
    omega arith

pub handle-requires : goal.handle-requires
handle-requires c = fewer _ _ _ c.loop-i.invariant (none-accepted _ _ _ _ _ _ c.begin-ran.ensures) (omega arith)

pub loop-i-preserved : goal.loop-i-preserved
loop-i-preserved c = went-more _ _ _ c.loop-i.invariant (rw (← c.frame.ensures) c.handle.ensures)

pub returns : goal.returns
unfolding run frame_bytes isnt
returns c =
    let e : c.loop-i.i ≡ c.begin-ran.result.handled = omega arith in
    listed-is _ (frame_at c.args.bytes.now) _ _ _ _ _ c.begin-ran.ensures (rw e at c.loop-i.invariant)
