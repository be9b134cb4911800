-- A map and its TLB stay in good order under map, unmap, fill and drop: once for both sides, over what a guest may reach.
use mathlib.Core.Path.{◌≡◌, sym, ◌∙◌, ap}
use mathlib.Core.Bool.{Bool, true, false}
use mathlib.Core.List.{List}
use Prim.Native.Nat.{ℕ, ◌<◌}
use native.Mathlib.Omega.{arith}
use lib.ListN.{get_or}
use Rattle.numbers.specs.Sizes.{units, pages, accesses}
use Rattle.numbers.specs.Entries.{key_of, entry, page_in, key_in, gpage_in, guest_in, unit_in, at_unit}
use Rattle.numbers.proofs.Bools.{clash, and_r, and_i, not-true}
use Rattle.numbers.proofs.EntryLaws.{in_span, counts-fit, access-entry, page-entry, key-entry, gpage-under, guest-under, tag-under, access-at-unit, page-at-unit, key-at-unit, gpage-at-unit, guest-at-unit, tag-at-unit, unit-at-unit, at-unit-again, at-unit-own}
use Rattle.tables.specs.Table.{find, has, put, wipe, Each}
use Rattle.tables.specs.Wants.{W, has_key, everywhere, invalidated}
use Rattle.tables.specs.Wf.{EntryWf, MapRowWf, WalkWf, home_of}
use Rattle.tables.proofs.TableLaws.{Apart, each_map, each_both, each-put, each-wipe, each-find, uniq-put, uniq-wipe, find-put-other, find-wipe-other, find-passes}
use Rattle.tables.proofs.WantLaws.{zero-free, has-key-agrees, of_guest-agrees, of_gpage-agrees, same_entry-is, key-test}
use Rattle.tables.proofs.ViewLaws.{Keyed, guest-is, gpage-is, unit-is}

pub some-unit : 0 < units
unfolding units
some-unit = omega arith

-- a row's own key and the key of a guest page that is not its own are apart
apart : (g v y : ℕ) → Keyed 0 g v → everywhere g v y ≡ false → Apart (has_key (key_of 0 (guest_in y) (gpage_in y))) (has_key (key_of 0 g v))
apart g v y k n x e = not-true _ (λ f. clash (and_i
    ((of_guest-agrees g y).1 (sym (guest-is 0 g v k x f) ∙ guest-under 0 _ _ x (in_span y).guest (in_span y).gpage own))
    ((of_gpage-agrees v y).1 (sym (gpage-is 0 g v k x f) ∙ gpage-under 0 _ _ x (in_span y).guest (in_span y).gpage own))) n)
  where
    own : key_in x ≡ key_of 0 (guest_in y) (gpage_in y)
    own = sym ((has-key-agrees _ x).0 e)

-- ── an entry made of numbers in range ──
module _ (u g v p x : ℕ) (k : Keyed u g v) (hp : p < pages) (hx : x < accesses) where
  pub made-key : key_in (entry u g v p x) ≡ key_of u g v
  made-key = key-entry u g v p x (counts-fit.page p hp) (counts-fit.access x hx)

  pub made-page : page_in (entry u g v p x) ≡ p
  made-page = page-entry u g v p x (counts-fit.page p hp) (counts-fit.access x hx)

  pub made-guest : guest_in (entry u g v p x) ≡ g
  made-guest = guest-is u g v k _ ((has-key-agrees _ _).1 (sym made-key))

  made-unit : unit_in (entry u g v p x) ≡ u
  made-unit = unit-is u g v k _ ((has-key-agrees _ _).1 (sym made-key))

  entry-wf : EntryWf (entry u g v p x)
  entry-wf = record {
    live_tag = tag-under u g v _ (counts-fit.guest g k.guest) (counts-fit.gpage v k.gpage) made-key (counts-fit.unit u k.unit);
    unit = rw made-unit k.unit;
    guest = rw made-guest k.guest;
    gpage = rw (gpage-is u g v k _ ((has-key-agrees _ _).1 (sym made-key))) k.gpage;
    page = rw made-page hp;
    access = rw (access-entry u g v p x (counts-fit.page p hp) (counts-fit.access x hx)) hx;
  }

-- what holds of each row holds of those that are left
pub kept : {P : ℕ → Type 0} (k : ℕ → Bool) {t : List ℕ} → Each W P t → Each W P (wipe W k t)
kept k p = each_map W (λ x l e. e.0) (each-wipe W zero-free k p)

module _ {here : List Bool} {may : ℕ → ℕ → Bool} {map tlb : List ℕ} (h : WalkWf here may map tlb) where
  -- ── map and unmap: the map changes at one key, and the TLB loses that key on every unit ──
  pub walk-map : (g v p x : ℕ) → Keyed 0 g v → p < pages → x < accesses → get_or here g false ≡ true → may g p ≡ true →
      WalkWf here may (put W (has_key (key_of 0 g v)) (entry 0 g v p x) map) (invalidated g v tlb)
  walk-map g v p x k hp hx there ok = record {
    translation_wf = each-put W (has_key (key_of 0 g v)) (entry 0 g v p x) (record {
      entry = entry-wf 0 g v p x k hp hx;
      no_unit = made-unit 0 g v p x k hp hx;
      present = rw (made-guest 0 g v p x k hp hx) there;
      entitled = rw (made-guest 0 g v p x k hp hx, made-page 0 g v p x k hp hx) ok;
    }) h.translation_wf;
    map_keys = uniq-put W zero-free same_entry-is (has_key (key_of 0 g v)) (entry 0 g v p x) (key-test _ _ (sym key)) h.map_keys;
    tlb_safe = each_map W (λ y l e.
        find-put-other W zero-free _ (has_key (key_of 0 g v)) (entry 0 g v p x) map ((has-key-agrees _ _).1 (sym key)) (apart g v y k e.1) ∙ e.0)
        (each-wipe W zero-free (everywhere g v) h.tlb_safe);
    tlb_range = kept (everywhere g v) h.tlb_range;
    tlb_keys = uniq-wipe W zero-free same_entry-is _ h.tlb_keys;
  }
    where
      key : key_in (entry 0 g v p x) ≡ key_of 0 g v
      key = made-key 0 g v p x k hp hx

  pub walk-unmap : (g v : ℕ) → Keyed 0 g v → WalkWf here may (wipe W (has_key (key_of 0 g v)) map) (invalidated g v tlb)
  walk-unmap g v k = record {
    translation_wf = kept _ h.translation_wf;
    map_keys = uniq-wipe W zero-free same_entry-is _ h.map_keys;
    tlb_safe = each_map W (λ y l e. find-wipe-other W zero-free _ _ map (apart g v y k e.1) ∙ e.0)
        (each-wipe W zero-free (everywhere g v) h.tlb_safe);
    tlb_range = kept (everywhere g v) h.tlb_range;
    tlb_keys = uniq-wipe W zero-free same_entry-is _ h.tlb_keys;
  }

  -- ── fill: the TLB gets the map's entry at its unit ──
  module _ (u g v : ℕ) (k : Keyed u g v) (there : has W (has_key (key_of 0 g v)) map ≡ true) where
    -- the map's entry
    home : ℕ
    home = find W (has_key (key_of 0 g v)) map

    home-key : has_key (key_of 0 g v) home ≡ true
    unfolding home
    home-key = and_r _ _ (find-passes W (has_key (key_of 0 g v)) map there)

    at_home : Keyed 0 g v
    at_home = record { unit = some-unit; guest = k.guest; gpage = k.gpage }

    row : MapRowWf here may home
    unfolding home
    row = each-find W _ h.translation_wf there

    filled-key : key_in (at_unit u home) ≡ key_of u g v
    filled-key = key-at-unit u home ∙ rw (guest-is 0 g v at_home home home-key, gpage-is 0 g v at_home home home-key)

    filled-safe : home_of map (at_unit u home) ≡ at_unit 0 (at_unit u home)
    unfolding home
    filled-safe = rw (at-unit-again 0 u home, guest-at-unit u home, gpage-at-unit u home, guest-is 0 g v at_home home home-key, gpage-is 0 g v at_home home home-key)
        (sym (sym (ap (λ (n : ℕ). at_unit n home) row.no_unit) ∙ at-unit-own home row.entry.live_tag))

    filled-wf : EntryWf (at_unit u home)
    filled-wf = record {
      live_tag = tag-at-unit u home (counts-fit.unit u k.unit);
      unit = rw (unit-at-unit u home (counts-fit.unit u k.unit)) k.unit;
      guest = rw (guest-at-unit u home) row.entry.guest;
      gpage = rw (gpage-at-unit u home) row.entry.gpage;
      page = rw (page-at-unit u home) row.entry.page;
      access = rw (access-at-unit u home) row.entry.access;
    }

    pub walk-fill : WalkWf here may map (put W (has_key (key_of u g v)) (at_unit u (find W (has_key (key_of 0 g v)) map)) tlb)
    unfolding home
    walk-fill = record {
      translation_wf = h.translation_wf;
      map_keys = h.map_keys;
      tlb_safe = each-put W (has_key (key_of u g v)) (at_unit u home) filled-safe h.tlb_safe;
      tlb_range = each-put W (has_key (key_of u g v)) (at_unit u home) filled-wf h.tlb_range;
      tlb_keys = uniq-put W zero-free same_entry-is (has_key (key_of u g v)) (at_unit u home) (key-test _ _ (sym filled-key)) h.tlb_keys;
    }

  pub walk-drop : (g u v : ℕ) → WalkWf here may map (wipe W (has_key (key_of u g v)) tlb)
  walk-drop g u v = record {
    translation_wf = h.translation_wf;
    map_keys = h.map_keys;
    tlb_safe = kept _ h.tlb_safe;
    tlb_range = kept _ h.tlb_range;
    tlb_keys = uniq-wipe W zero-free same_entry-is _ h.tlb_keys;
  }

  -- ── who is present or what a guest may reach changes, and each entry still leads where its guest may ──
  pub walk-mono : {here' : List Bool} {may' : ℕ → ℕ → Bool} →
      Each W (λ x. get_or here (guest_in x) false ≡ true → may (guest_in x) (page_in x) ≡ true →
      (get_or here' (guest_in x) false ≡ true) × (may' (guest_in x) (page_in x) ≡ true)) map →
      WalkWf here' may' map tlb
  walk-mono f = record {
    translation_wf = each_map W (λ x l e. let n = e.0 e.1.present e.1.entitled in record {
      entry = e.1.entry;
      no_unit = e.1.no_unit;
      present = n.0;
      entitled = n.1;
    }) (each_both W f h.translation_wf);
    map_keys = h.map_keys;
    tlb_safe = h.tlb_safe;
    tlb_range = h.tlb_range;
    tlb_keys = h.tlb_keys;
  }
