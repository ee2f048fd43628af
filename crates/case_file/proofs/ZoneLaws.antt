-- The zones of a case that opened: where they stand, and the walk for the largest of them. Assumes nothing.
use Prim.Native.Nat.{ℕ, ◌+◌, ◌*◌, ◌≤◌, ◌<◌}
use native.Mathlib.Omega.{arith}
use mathlib.Core.Path.{◌≡◌, refl, ap, sym, ◌∙◌}
use mathlib.Core.Bool.{Bool, true, false, cond, ◌&&◌}
use mathlib.Core.List.{List, [], ◌∷◌}
use lib.Dec.{leb, ltb, eqb}
use lib.ListN.{length, get_or, drop, drop_of_length-le, get_or-eq_default}
use mathlib.Core.Logic.{⊎_elim}
use borrow.Author.Tests.{lt-ltb, le-ltb, ltb-true, ltb-false, le-leb, lt-leb, leb-true, leb-false, eq-eqb, ne_eqb}
use Rattle.std.specs.Prelude.{max, Ok}
use Rattle.arith.specs.Bytes.{le32}
use Rattle.arith.specs.Lists.{fold, all_of}
use Rattle.arith.proofs.ListLaws.{foldl-next}
use Rattle.arith.proofs.RecordLaws.{length-tab, get_or-tab, lt-or-ge}
use Rattle.case_file.specs.declared.Counts.{Counts}
use Rattle.case_file.specs.Trailer.{counts_of, zones_from, opened}
use Rattle.case_file.specs.Field.{cells_of, zone_in, zone_of, zones_of, is_at_most, larger}
use Rattle.case_file.proofs.TrailerLaws.{zones-some, Opens, opens}

module _ (file : List ℕ) (n : Counts) (e : opened file ≡ Ok n) where
  o : Opens file n
  o = opens file n e

  as-opened : (i : ℕ) → zone_of file i ≡ zone_in file n i
  unfolding zone_of
  as-opened i = ap (λ m. zone_in file m i) (sym o.same)

  pub zone-first : (i : ℕ) → (n.edition ≡ 2 → ⊥) → zone_of file i ≡ 0
  unfolding zone_in
  zone-first i t = as-opened i ∙ rw (ne_eqb n.edition 2 t)

  module _ (i : ℕ) (two : n.edition ≡ 2) where
    pub zone-none : n.cells ≤ i → zone_of file i ≡ 0
    unfolding zone_in
    zone-none h = as-opened i ∙ rw (eq-eqb n.edition 2 two, le-ltb i n.cells h)

    pub zone-there : i < n.cells → zone_of file i ≡ le32 file (24 * n.points + 4 * n.words + 32 * n.cells + 4 * i)
    unfolding zone_in zones_from
    zone-there h = as-opened i ∙ rw (eq-eqb n.edition 2 two, lt-ltb i n.cells h)

    pub zone-fits : i < n.cells → 24 * n.points + 4 * n.words + 32 * n.cells + 4 * i + 4 ≤ length file
    zone-fits h = omega (arith, o.whole, zones-some n two)

-- ---- the larger of two

pub larger-max : (a b : ℕ) → max a b ≡ larger a b
unfolding larger
larger-max a b = by (ltb a b) refl
  where
    by : (x : Bool) → ltb a b ≡ x → max a b ≡ cond x b a
    by true f = omega (arith, ltb-true a b f)
    by false f = omega (arith, ltb-false a b f)

-- ---- the list of them

module _ (file : List ℕ) where
  pub length-zones : length (zones_of file) ≡ cells_of file
  unfolding zones_of
  length-zones = length-tab (zone_of file) (cells_of file)

  none : (i : ℕ) → cells_of file ≤ i → zone_of file i ≡ 0
  unfolding zone_of zone_in cells_of
  none i h = by (eqb (counts_of file).edition 2)
    where
      by : (t : Bool) → cond (t && ltb i (counts_of file).cells) (le32 file (zones_from (counts_of file) + 4 * i)) 0 ≡ 0
      by true = rw (le-ltb i (counts_of file).cells h)
      by false = refl

  -- the zone of a cell by its place in the list; past its end both are 0
  pub get_or-zones : (i : ℕ) → get_or (zones_of file) i 0 ≡ zone_of file i
  unfolding zones_of
  get_or-zones i = ⊎_elim within beyond (lt-or-ge i (cells_of file))
    where
      within : i < cells_of file → get_or (zones_of file) i 0 ≡ zone_of file i
      within h = get_or-tab (zone_of file) (cells_of file) i 0 h

      beyond : cells_of file ≤ i → get_or (zones_of file) i 0 ≡ zone_of file i
      beyond h = get_or-eq_default (zones_of file) 0 (rw length-zones h) ∙ sym (none i h)

  module _ (n : Counts) (e : opened file ≡ Ok n) (i : ℕ) where
    cells : n.cells ≡ length (zones_of file)
    unfolding cells_of
    cells = ap (λ (m : Counts). m.cells) (opens file n e).same ∙ sym length-zones

    -- one turn of the walk for the largest, and its end
    pub largest-next : (most r : ℕ) → i < n.cells → r ≡ zone_of file i → fold larger most (drop i (zones_of file)) ≡ fold larger (max most r) (drop (i + 1) (zones_of file))
    largest-next most r less er =
        foldl-next (zones_of file) i 0 (rw (← cells) less) larger most ∙ ap (λ (m : ℕ). fold larger m (drop (i + 1) (zones_of file))) (ap (larger most) (get_or-zones i ∙ sym er) ∙ sym (larger-max most r))

    pub largest-end : (most : ℕ) → n.cells ≤ i → fold larger most (drop i (zones_of file)) ≡ most
    unfolding fold
    largest-end most h = rw (drop_of_length-le (zones_of file) {i = i} (rw (← cells) h))

-- ---- none is above a bound where the largest is not

larger-within : (most a z : ℕ) → a ≤ most → z ≤ most → larger a z ≤ most
larger-within most a z h k = omega (arith, larger-max a z)

grows : (a : ℕ) (zones : List ℕ) → a ≤ fold larger a zones
unfolding fold
grows a [] = omega arith
grows a (z ∷ zones) = omega (arith, larger-max a z, grows (larger a z) zones)

pub at_most : (most a : ℕ) (zones : List ℕ) → a ≤ most → leb (fold larger a zones) most ≡ all_of (is_at_most most) zones
unfolding fold all_of is_at_most
at_most most a [] h = le-leb a most h
at_most most a (z ∷ zones) h = by (leb z most) refl (λ k. at_most most (larger a z) zones k)
  where
    by : (x : Bool) → leb z most ≡ x → (larger a z ≤ most → leb (fold larger (larger a z) zones) most ≡ all_of (is_at_most most) zones) →
        leb (fold larger (larger a z) zones) most ≡ all_of (is_at_most most) (z ∷ zones)
    by true f ih = rw (f, all_of) (ih (larger-within most a z h (leb-true z most f)))
    by false f ih =
        rw (f, all_of) (lt-leb (fold larger (larger a z) zones) most (omega (arith, leb-false z most f, larger-max a z, grows (larger a z) zones)))
