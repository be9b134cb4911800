-- DMA reads and writes, which the source does not have: accepted exactly where the guest is present and there is such a stream and an
-- IOMMU translation that allows the access; and what an accepted one then does, by the address that the source's state translates to.
use mathlib.Core.Path.{◌≡◌, refl, sym, ◌∙◌, ap}
use mathlib.Core.Bool.{true, false}
use mathlib.Core.List.{List}
use mathlib.Core.Logic.{◌↔◌}
use Prim.Native.Nat.{ℕ, ◌<◌}
use borrow.Author.Tests.{eqb-true}
use lib.ListN.{length, get_or, set}
use Rattle.numbers.specs.Sizes.{guests, units, guest_words, memory_words}
use Rattle.numbers.specs.Tests.{◌or◌}
use Rattle.numbers.specs.Rules.{least}
use Rattle.numbers.specs.Frames.{off}
use Rattle.numbers.specs.Addresses.{page_of, offset_of, word_of}
use Rattle.numbers.specs.Entries.{page_in, readable, writable}
use Rattle.numbers.proofs.Bools.{isnt-false}
use Rattle.tables.specs.Table.{live}
use Rattle.tables.specs.Wants.{W}
use Rattle.tables.specs.State.{is_present, nothing}
use Rattle.tables.specs.Wf.{Wf}
use Rattle.tables.specs.Views.{view}
use Rattle.tables.specs.declared.state.Tables.{Tables}
use Rattle.tables.specs.declared.state.Side.TheVariants.{Iommu}
use Rattle.rules.specs.Actions.{Op, refusals, effect, touch, touched, handed_back, seen, word_at, accepted, next, does, acted}
use Rattle.rules.specs.Actions.Op.{Read, Write}
use Rattle.rules.specs.Source.{effective_entry}
use Rattle.rules.proofs.Lowest.{accepted-clear}
use Rattle.rules.proofs.Accesses.{access-keyed, entries-alike, nothing_is, word-at-is}
use Rattle.rules.proofs.Guards.{reads-when, writes-when}

when-accepted : (m : Tables) (o : Op) (ws : List ℕ) → accepted (refusals m o) ≡ true →
    acted m o ws ≡ record { seen = record { number = 0; word = handed_back (touch m o) ws }; tables = effect m o; memory = touched (touch m o) ws }
unfolding next does
when-accepted m o ws q = rw (q, eqb-true (least (refusals m o)) 0 q)

module _ {m : Tables} (h : Wf m) (ws : List ℕ) (lw : length ws ≡ memory_words) (g u a : ℕ) where
  -- the stream's entry for the address
  abbrev entry : ℕ
  entry = effective_entry Iommu (view m ws) u g (page_of a)

  -- and the word of memory that it leads to
  abbrev pub device_word : ℕ
  device_word = word_of (page_in entry) (offset_of a)

  abbrev pub DeviceReaches : Type 0
  DeviceReaches = (is_present m g ≡ true) × (u < units) × (live W entry ≡ true)

  pub device-read : accepted (refusals m (Read Iommu g u a)) ≡ true ↔ (DeviceReaches × (readable entry ≡ true))
  device-read = (
    λ q. let z = (reads-when h ws lw Iommu g u a).0 q in ((z.0.0, z.0.2, z.0.3), z.1),
    λ q. (reads-when h ws lw Iommu g u a).1 ((q.0.0, refl, q.0.1, q.0.2), q.1),
  )

  pub device-write : (w : ℕ) → accepted (refusals m (Write Iommu g u a w)) ≡ true ↔ (DeviceReaches × (writable entry ≡ true))
  device-write w = (
    λ q. let z = (writes-when h ws lw Iommu g u a w).0 q in ((z.0.0, z.0.2, z.0.3), z.1),
    λ q. (writes-when h ws lw Iommu g u a w).1 ((q.0.0, refl, q.0.1, q.0.2), q.1),
  )

  -- the word that an access finds is that one
  lands : (off g guests or off u units or off a guest_words) ≡ false → nothing (seen Iommu m g u a) ≡ false → word_at (seen Iommu m g u a) a ≡ device_word
  lands r n =
      let e = Rattle.tables.specs.State.effective_entry m.io_map m.io_tlb u g (page_of a) in
      word-at-is e a (isnt-false _ (sym (nothing_is e) ∙ n))
      ∙ ap (λ (p : ℕ). word_of p (offset_of a)) (entries-alike Iommu m ws u g (page_of a) (access-keyed g u a r)).page

  -- what it then does
  pub device-reads : accepted (refusals m (Read Iommu g u a)) ≡ true →
      acted m (Read Iommu g u a) ws ≡ record { seen = record { number = 0; word = get_or ws device_word 0 }; tables = m; memory = ws }
  device-reads q =
      let c = accepted-clear m (Read Iommu g u a) q in
      when-accepted m (Read Iommu g u a) ws q ∙ ap (λ (n : ℕ). record { seen = record { number = 0; word = get_or ws n 0 }; tables = m; memory = ws }) (lands (c 4) (c 9))

  pub device-writes : (w : ℕ) → accepted (refusals m (Write Iommu g u a w)) ≡ true →
      acted m (Write Iommu g u a w) ws ≡ record { seen = record { number = 0; word = 0 }; tables = m; memory = set ws device_word w }
  device-writes w q =
      let c = accepted-clear m (Write Iommu g u a w) q in
      when-accepted m (Write Iommu g u a w) ws q ∙ ap (λ (n : ℕ). record { seen = record { number = 0; word = 0 }; tables = m; memory = set ws n w }) (lands (c 4) (c 9))
