-- The steps that a guest's secret rests on, as they are and done wrong. Nothing here is a rule of the machine: `Needed` runs both, and
-- shows that the wrong ones tell the secret and the right ones do not.
use Rattle.std.specs.Prelude.{ℕ, cond, List, [], ◌∷◌, eqb}
use Rattle.numbers.specs.Rules.{Rules}
use Rattle.numbers.specs.Rules.Rules.{accept, ◌⇒◌∣◌}
use Rattle.numbers.specs.Entries.{key_of}
use Rattle.tables.specs.Table.{wipe}
use Rattle.tables.specs.Wants.{W, has_key}
use Rattle.tables.specs.declared.state.Side.TheVariants.{Cpu, Iommu}
use Rattle.rules.specs.Parts.{with_walk}
use Rattle.rules.specs.Actions.{Op, refusals, Outcome, outcome, acted}
use Rattle.rules.specs.Actions.Op.{AssignPage, Map, Unmap, IommuAssignPage}
use Rattle.rules.specs.Calls.{Machine}

pub data Step : Type 0 where
  -- the action as it is
  right : Op → Step
  -- the refusal of this number is left out
  unasked : ℕ → Op → Step
  -- the tables are as they should be, but the words of memory stay
  unwiped : Op → Step
  -- an Unmap that drops the TLB entry of CPU 0 only
  undropped : (g v : ℕ) → Step

-- ══ the steps as they are ══
-- page 5, which was guest 1's, is given to guest 2, and to its devices
unfoldable pub gives : Step
gives = right (AssignPage 2 5)

unfoldable pub dma_gives : Step
dma_gives = right (IommuAssignPage 2 5)

-- guest 2 asks for page 5, which is guest 1's, and so do its devices
unfoldable pub asks : Step
asks = right (Map Cpu 2 0 5 1)

unfoldable pub dma_asks : Step
dma_asks = right (Map Iommu 2 0 5 1)

-- guest 2 unmaps its guest page 0, which CPU 1 still has in its TLB
unfoldable pub unmaps : Step
unmaps = right (Unmap Cpu 2 0)

-- guest 1 is to have page 63, which is in the region
unfoldable pub region_gives : Step
region_gives = right (AssignPage 1 63)

-- ══ and done wrong ══
unfoldable pub gives_unwiped : Step
gives_unwiped = unwiped (AssignPage 2 5)

unfoldable pub dma_gives_unwiped : Step
dma_gives_unwiped = unwiped (IommuAssignPage 2 5)

unfoldable pub asks_nobody : Step
asks_nobody = unasked 11 (Map Cpu 2 0 5 1)

unfoldable pub dma_asks_nobody : Step
dma_asks_nobody = unasked 11 (Map Iommu 2 0 5 1)

unfoldable pub unmaps_half : Step
unmaps_half = undropped 2 0

unfoldable pub region_unasked : Step
region_unasked = unasked 12 (AssignPage 1 63)

-- ══ what a step does ══
unfoldable pub without : ℕ → Rules → Rules
without n accept = accept
without n (bad ⇒ k ∣ later) = cond (eqb n k) (without n later) (bad ⇒ k ∣ without n later)

unfoldable pub result : Machine → Step → Outcome
result s (right o) = acted s.tables o s.memory
result s (unasked n o) = outcome (without n (refusals s.tables o)) s.tables o s.memory
result s (unwiped o) =
    let r = acted s.tables o s.memory in
    record { seen = r.seen; tables = r.tables; memory = s.memory }
result s (undropped g v) =
    let m = s.tables in
    let r = acted m (Unmap Cpu g v) s.memory in
    -- the key of the entry on CPU 0
    let half = with_walk Cpu m r.tables.map (wipe W (has_key (key_of 0 g v)) m.tlb) in
    record { seen = r.seen; tables = cond (eqb r.seen.number 0) half m; memory = r.memory }

-- the machine after some steps, and what each of them gets
abbrev pub left_by : Outcome → Machine
left_by r = record { tables = r.tables; memory = r.memory }

unfoldable pub ended : Machine → List Step → Machine
ended s [] = s
ended s (p ∷ ps) = ended (left_by (result s p)) ps

unfoldable pub outcomes : Machine → List Step → List Outcome
outcomes s [] = []
outcomes s (p ∷ ps) = let r = result s p in r ∷ outcomes (left_by r) ps
