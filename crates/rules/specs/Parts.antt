-- The tables with one part replaced. Each is a literal that never asks for the side, so that every other part stays as it is by
-- computation alone.
use Rattle.std.specs.Prelude.{ℕ, Bool, List}
use Rattle.tables.specs.State.{by_side}
use Rattle.tables.specs.declared.state.Tables.{Tables}
use Rattle.tables.specs.declared.state.Side.{Side}

abbrev pub with_present : Tables → List Bool → Tables
with_present m present = record {
  map = m.map;
  tlb = m.tlb;
  io_map = m.io_map;
  io_tlb = m.io_tlb;
  pairs = m.pairs;
  holder = m.holder;
  dma = m.dma;
  region = m.region;
  present = present;
  running = m.running;
}

abbrev pub with_running : Tables → List ℕ → Tables
with_running m running = record {
  map = m.map;
  tlb = m.tlb;
  io_map = m.io_map;
  io_tlb = m.io_tlb;
  pairs = m.pairs;
  holder = m.holder;
  dma = m.dma;
  region = m.region;
  present = m.present;
  running = running;
}

abbrev pub with_pairs : Tables → List ℕ → Tables
with_pairs m pairs = record {
  map = m.map;
  tlb = m.tlb;
  io_map = m.io_map;
  io_tlb = m.io_tlb;
  pairs = pairs;
  holder = m.holder;
  dma = m.dma;
  region = m.region;
  present = m.present;
  running = m.running;
}

-- who holds each page on a side
abbrev pub with_held : Side → Tables → List ℕ → Tables
with_held d m held = record {
  map = m.map;
  tlb = m.tlb;
  io_map = m.io_map;
  io_tlb = m.io_tlb;
  pairs = m.pairs;
  holder = by_side d held m.holder;
  dma = by_side d m.dma held;
  region = m.region;
  present = m.present;
  running = m.running;
}

-- a side's map and its TLB
abbrev pub with_walk : Side → Tables → List ℕ → List ℕ → Tables
with_walk d m map tlb = record {
  map = by_side d map m.map;
  tlb = by_side d tlb m.tlb;
  io_map = by_side d m.io_map map;
  io_tlb = by_side d m.io_tlb tlb;
  pairs = m.pairs;
  holder = m.holder;
  dma = m.dma;
  region = m.region;
  present = m.present;
  running = m.running;
}
