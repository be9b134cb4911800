-- `calls::referee::Referee::step` meets its contract.
use mathlib.Core.Path.{◌≡◌, refl}
use native.Mathlib.Omega.{arith}
use Rattle.numbers.specs.Search.{first}
use Rattle.numbers.specs.Frames.{kinds, row_of}
use Rattle.calls.proofs.DispatchLaws.{by_kind, of-no-kind, none-of-them}
use Rattle.calls.proofs.referee.Referee.step.Goals as goal
use Rattle.calls.proofs.referee.Referee.step.Goals.{in-0-1, in_default-1}

pub returns-in-1 : goal.returns-in-1
unfolding row_of kinds first
returns-in-1 c = let t = c.args in by_kind t.self.tables t.a t.mem.now 0x01 refl c.in-1.is c.read.ensures

pub returns-in-2 : goal.returns-in-2
unfolding row_of kinds first
returns-in-2 c = let t = c.args in by_kind t.self.tables t.a t.mem.now 0x02 refl c.in-2.is c.write.ensures

pub returns-in-3 : goal.returns-in-3
unfolding row_of kinds first
returns-in-3 c = let t = c.args in by_kind t.self.tables t.a t.mem.now 0x03 refl c.in-3.is (c.hyper_call.ensures _)

pub returns-in-4 : goal.returns-in-4
unfolding row_of kinds first
returns-in-4 c = let t = c.args in by_kind t.self.tables t.a t.mem.now 0x04 refl c.in-4.is c.read-in-4.ensures

pub returns-in-5 : goal.returns-in-5
unfolding row_of kinds first
returns-in-5 c = let t = c.args in by_kind t.self.tables t.a t.mem.now 0x05 refl c.in-5.is c.write-in-5.ensures

pub returns-in-16 : goal.returns-in-16
unfolding row_of kinds first
returns-in-16 c = let t = c.args in by_kind t.self.tables t.a t.mem.now 0x10 refl c.in-16.is (c.add_vm.ensures _)

pub returns-in-17 : goal.returns-in-17
unfolding row_of kinds first
returns-in-17 c = let t = c.args in by_kind t.self.tables t.a t.mem.now 0x11 refl c.in-17.is (c.remove_vm.ensures _)

pub returns-in-18 : goal.returns-in-18
unfolding row_of kinds first
returns-in-18 c = let t = c.args in by_kind t.self.tables t.a t.mem.now 0x12 refl c.in-18.is c.assign_page.ensures

pub returns-in-19 : goal.returns-in-19
unfolding row_of kinds first
returns-in-19 c = let t = c.args in by_kind t.self.tables t.a t.mem.now 0x13 refl c.in-19.is (c.reclaim_page.ensures _)

pub returns-in-20 : goal.returns-in-20
unfolding row_of kinds first
returns-in-20 c = let t = c.args in by_kind t.self.tables t.a t.mem.now 0x14 refl c.in-20.is (c.share_page.ensures _)

pub returns-in-21 : goal.returns-in-21
unfolding row_of kinds first
returns-in-21 c = let t = c.args in by_kind t.self.tables t.a t.mem.now 0x15 refl c.in-21.is (c.unshare_page.ensures _)

pub returns-in-22 : goal.returns-in-22
unfolding row_of kinds first
returns-in-22 c = let t = c.args in by_kind t.self.tables t.a t.mem.now 0x16 refl c.in-22.is (c.map.ensures _)

pub returns-in-23 : goal.returns-in-23
unfolding row_of kinds first
returns-in-23 c = let t = c.args in by_kind t.self.tables t.a t.mem.now 0x17 refl c.in-23.is (c.unmap.ensures _)

pub returns-in-24 : goal.returns-in-24
unfolding row_of kinds first
returns-in-24 c = let t = c.args in by_kind t.self.tables t.a t.mem.now 0x18 refl c.in-24.is (c.context_switch.ensures _)

pub returns-in-25 : goal.returns-in-25
unfolding row_of kinds first
returns-in-25 c = let t = c.args in by_kind t.self.tables t.a t.mem.now 0x19 refl c.in-25.is (c.idle.ensures _)

pub returns-in-26 : goal.returns-in-26
unfolding row_of kinds first
returns-in-26 c = let t = c.args in by_kind t.self.tables t.a t.mem.now 0x1a refl c.in-26.is (c.fill.ensures _)

pub returns-in-27 : goal.returns-in-27
unfolding row_of kinds first
returns-in-27 c = let t = c.args in by_kind t.self.tables t.a t.mem.now 0x1b refl c.in-27.is (c.drop.ensures _)

pub returns-in-32 : goal.returns-in-32
unfolding row_of kinds first
returns-in-32 c = let t = c.args in by_kind t.self.tables t.a t.mem.now 0x20 refl c.in-32.is c.iommu_assign_page.ensures

pub returns-in-33 : goal.returns-in-33
unfolding row_of kinds first
returns-in-33 c = let t = c.args in by_kind t.self.tables t.a t.mem.now 0x21 refl c.in-33.is (c.reclaim_page-in-33.ensures _)

pub returns-in-34 : goal.returns-in-34
unfolding row_of kinds first
returns-in-34 c = let t = c.args in by_kind t.self.tables t.a t.mem.now 0x22 refl c.in-34.is (c.map-in-34.ensures _)

pub returns-in-35 : goal.returns-in-35
unfolding row_of kinds first
returns-in-35 c = let t = c.args in by_kind t.self.tables t.a t.mem.now 0x23 refl c.in-35.is (c.unmap-in-35.ensures _)

pub returns-in-36 : goal.returns-in-36
unfolding row_of kinds first
returns-in-36 c = let t = c.args in by_kind t.self.tables t.a t.mem.now 0x24 refl c.in-36.is (c.fill-in-36.ensures _)

pub returns-in-37 : goal.returns-in-37
unfolding row_of kinds first
returns-in-37 c = let t = c.args in by_kind t.self.tables t.a t.mem.now 0x25 refl c.in-37.is (c.drop-in-37.ensures _)

-- what lies between the kinds
pub returns-in-0 : goal.returns-in-0
unfolding row_of kinds first
returns-in-0 c = let t = c.args in
    rw c.refused.ensures (of-no-kind t.self.tables t.a _ (elim c.in-0-1.branch [
      | in-0-1 w ↦ let none : t.a.kind ≡ 0 = omega arith in rw none
      | in_default-1 w ↦ none-of-them t.a.kind (omega arith) (assumption)
    ]))
