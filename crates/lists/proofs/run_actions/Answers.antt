-- `lists::run_actions` meets its contract.
use mathlib.Core.Path.{◌≡◌}
use native.Mathlib.Omega.{arith}
use lib.ListN.{length}
use Prim.Native.Nat.{◌≤◌, ◌<◌}
use Rattle.rules.specs.Calls.{action_at, run_actions}
use Rattle.lists.proofs.ListLaws.{went-none, went-more, fewer, none-accepted, handled-le, listed-is}
use Rattle.lists.proofs.run_actions.Goals as goal

pub loop-i-init : goal.loop-i-init
loop-i-init c = went-none _ _

-- the list goes no further than its actions
pub bounds-actions-i : goal.bounds-actions-i
bounds-actions-i c =
    let few : c.begin-ran.result.handled ≤ length c.args.actions.now = handled-le _ _ _ _ _ _ c.begin-ran.ensures in
    omega arith

pub offset_bounds-actions-i : goal.offset_bounds-actions-i
offset_bounds-actions-i c = let within : c.loop-i.i < length c.args.actions.now = bounds-actions-i c in record { fits = omega arith }

pub handle-requires : goal.handle-requires
handle-requires c = fewer _ _ _ c.loop-i.invariant (none-accepted _ _ _ _ _ _ c.begin-ran.ensures) (omega arith)

pub loop-i-preserved : goal.loop-i-preserved
loop-i-preserved c = went-more _ _ _ c.loop-i.invariant c.handle.ensures

pub returns : goal.returns
unfolding run_actions
returns c =
    let e : c.loop-i.i ≡ c.begin-ran.result.handled = omega arith in
    listed-is _ (action_at c.args.actions.now) _ _ _ _ _ c.begin-ran.ensures (rw e at c.loop-i.invariant)
