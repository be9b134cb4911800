-- Tables that are lent part by part, as tables.
use Rattle.tables.specs.declared.state.Tables.{Tables}
use Rattle.tables.specs.declared.state.Lent.{Lent}

abbrev pub tables_of : Lent → Tables
tables_of t = record {
  map = t.map.now;
  tlb = t.tlb.now;
  io_map = t.io_map.now;
  io_tlb = t.io_tlb.now;
  pairs = t.pairs.now;
  holder = t.holder.now;
  dma = t.dma.now;
  region = t.region.now;
  present = t.present.now;
  running = t.running.now;
}
