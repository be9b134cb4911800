-- One side of the tables: the test of a row of its map, and of its map and its TLB.
use Rattle.std.specs.Prelude.{ℕ, Bool}
use Rattle.tables.specs.State.{map_of, tlb_of, held_on}
use Rattle.tables.specs.Wf.{map_row_ok, walk_ok}
use Rattle.tables.specs.declared.state.Tables.{Tables}
use Rattle.tables.specs.declared.state.Side.{Side}

abbrev pub side_row : Side → Tables → ℕ → Bool
side_row d m = map_row_ok d m.present (held_on d m) m.pairs m.region

abbrev pub side_ok : Side → Tables → Bool
side_ok d m = walk_ok d (map_of d m) (tlb_of d m) m.present (held_on d m) m.pairs m.region
