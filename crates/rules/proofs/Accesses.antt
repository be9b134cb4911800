-- An access: what the tables' lookup finds is what the source's state translates to, and leads into memory.
use mathlib.Core.Path.{◌≡◌, refl, sym, ◌∙◌, ap}
use mathlib.Core.Bool.{Bool, true, false, cond}
use mathlib.Core.List.{List}
use mathlib.Core.Logic.{◌↔◌}
use Prim.Native.Nat.{ℕ, ◌<◌}
use native.Mathlib.Omega.{arith}
use Rattle.numbers.specs.Sizes.{guests, units, pages, gpages, page_words, guest_words}
use Rattle.numbers.specs.Tests.{◌and◌, ◌or◌, isnt}
use Rattle.numbers.specs.Frames.{off}
use Rattle.numbers.specs.Addresses.{page_of, offset_of, word_of}
use Rattle.numbers.specs.Entries.{key_of, page_in, access_in, readable, writable}
use Rattle.numbers.proofs.Bools.{split, and-no-l, or_l, or_r, isnt-no, isnt-i}
use Rattle.numbers.proofs.AddressLaws.{lemma_page_word_roundtrip, offset-below}
use Rattle.numbers.proofs.EntryLaws.{page-at-unit, access-at-unit, at-unit-live}
use Rattle.tables.specs.Table.{live, find}
use Rattle.tables.specs.Wants.{found, W, has_key}
use Rattle.tables.specs.State.{map_of, tlb_of, effective_entry, nothing, can_read, can_write}
use Rattle.tables.specs.Wf.{Wf}
use Rattle.tables.specs.Views.{MachineState, SourceWf, view}
use Rattle.tables.specs.declared.state.Tables.{Tables}
use Rattle.tables.specs.declared.state.Side.{Side}
use Rattle.tables.proofs.TableLaws.{each-find, live-find}
use Rattle.tables.proofs.WantLaws.{zero-free, live_pos}
use Rattle.tables.proofs.ViewLaws.{Keyed, entry_in}
use Rattle.rules.specs.Actions.{word_at}
use Rattle.rules.proofs.Ranges.{below}
use Rattle.rules.proofs.Walks.{some-unit}

-- ── a guest word address is in range exactly where its page is ──
pub address-page : (a : ℕ) → (a < guest_words) ↔ (page_of a < gpages)
unfolding page_of page_words
address-page a = (λ h. omega arith, λ h. omega arith)

pub access-keyed : (g u a : ℕ) → (off g guests or off u units or off a guest_words) ≡ false → Keyed u g (page_of a)
access-keyed g u a z = record {
  unit = below _ _ (or_l _ _ (or_r _ _ z));
  guest = below _ _ (or_l _ _ z);
  gpage = (address-page a).0 (below _ _ (or_r _ _ (or_r _ _ z)));
}

true-and : (b : Bool) → (true and b) ≡ b
unfolding ◌and◌
true-and b = refl

-- ── two entries that an access cannot tell apart ──
pub record Alike (e f : ℕ) : Type 0 where
  pub alive : live W e ≡ live W f
  pub page : page_in e ≡ page_in f
  pub access : access_in e ≡ access_in f

pub readable-alike : {e f : ℕ} → Alike e f → readable e ≡ readable f
unfolding readable
readable-alike a = rw a.access

pub writable-alike : {e f : ℕ} → Alike e f → writable e ≡ writable f
unfolding writable
writable-alike a = rw a.access

-- a statement of a choice, from its two cases
pub by_cond : {A : Type 0} (P : A → Type 0) (b : Bool) (x y : A) → (b ≡ true → P x) → (b ≡ false → P y) → P (cond b x y)
by_cond P true x y f g = f refl
by_cond P false x y f g = g refl

module _ (d : Side) (m : Tables) (ws : List ℕ) (u g v : ℕ) where
  -- a cached entry, or the map's
  pub entries-alike : Keyed u g v → Alike (effective_entry (map_of d m) (tlb_of d m) u g v) (Rattle.rules.specs.Source.effective_entry d (view m ws) u g v)
  unfolding effective_entry
  entries-alike k = rw (entry_in (tlb_of d m) u g v k, entry_in (map_of d m) 0 g v n) (split (live W y)
      (λ e. rw e (record { alive = e ∙ sym (live_pos _ (at-unit-live 0 y)); page = sym (page-at-unit 0 y); access = sym (access-at-unit 0 y) }))
      (λ e. rw e (record { alive = refl; page = refl; access = refl })))
    where
      n : Keyed 0 g v
      n = record { unit = some-unit; guest = k.guest; gpage = k.gpage }

      y : ℕ
      y = find W (has_key (key_of u g v)) (tlb_of d m)

  -- an entry that is found leads to a page in range
  pub found-page : Wf m → live W (effective_entry (map_of d m) (tlb_of d m) u g v) ≡ true →
      page_in (effective_entry (map_of d m) (tlb_of d m) u g v) < pages
  unfolding effective_entry
  found-page h l = by_cond (λ e. live W e ≡ true → page_in e < pages) (live W (find W (has_key (key_of u g v)) (tlb_of d m))) _ _
      (λ e _. (each-find W (has_key (key_of u g v)) (h.walks_wf d).tlb_range (sym (live-find W zero-free (has_key (key_of u g v)) (tlb_of d m)) ∙ e)).page)
      (λ _ e. (each-find W (has_key (key_of 0 g v)) (h.walks_wf d).translation_wf (sym (live-find W zero-free (has_key (key_of 0 g v)) (map_of d m)) ∙ e)).entry.page)
      l

-- ── what the lookup's answer says ──
pub nothing_is : (e : ℕ) → nothing (found e) ≡ isnt (live W e)
nothing_is e = split (live W e) (λ l. rw l (sym (isnt-no refl))) (λ l. rw l (sym (isnt-i refl)))

pub can_read-is : (e : ℕ) → can_read (found e) ≡ (live W e and readable e)
can_read-is e = split (live W e) (λ l. rw l (sym (true-and (readable e)))) (λ l. rw l (sym (and-no-l _ refl)))

pub can-write-is : (e : ℕ) → can_write (found e) ≡ (live W e and writable e)
can-write-is e = split (live W e) (λ l. rw l (sym (true-and (writable e)))) (λ l. rw l (sym (and-no-l _ refl)))

pub word-at-is : (e a : ℕ) → live W e ≡ true → word_at (found e) a ≡ word_of (page_in e) (offset_of a)
word-at-is e a l = rw l

-- the word is on the page of the entry
pub word-at-page : (e a : ℕ) → live W e ≡ true → page_of (word_at (found e) a) ≡ page_in e
word-at-page e a l = ap page_of (word-at-is e a l) ∙ lemma_page_word_roundtrip (page_in e) (offset_of a) (offset-below a)

-- ── in good order a TLB shows nothing that the map does not: every translation is the map's ──
pub translation-is-the-map's : (d : Side) (s : MachineState) (u g v : ℕ) → SourceWf s →
    Rattle.rules.specs.Source.effective_entry d s u g v ≡ s.s2_map d g v
translation-is-the-map's d s u g v h = by_cond (λ e. e ≡ s.s2_map d g v) (live W (s.tlb d u g v)) _ _ (λ t. h.tlb_safe_2 d u g v t) (λ t. refl)
