-- The ways out of the writer's tests. Assumes nothing.
use Prim.Native.Nat.{ℕ, ◌+◌, ◌≤◌, ◌<◌}
use native.Mathlib.Omega.{arith}
use mathlib.Core.Path.{◌≡◌, refl, ap, sym, ◌∙◌}
use mathlib.Core.Bool.{true, false}
use mathlib.Core.List.{List}
use lib.Dec.{leb}
use lib.ListN.{length, get_or, drop, drop_of_length-le}
use borrow.Author.Tests.{eq-eqb, ne_eqb, le-leb, lt-leb}
use Rattle.std.specs.Prelude.{max, Ok, Err}
use Rattle.arith.specs.Lists.{fold, all_of}
use Rattle.arith.proofs.ListLaws.{foldl-next}
use Rattle.reading.specs.Result.{Refusable, ◌>>=◌, refuse}
use Rattle.refusal.specs.declared.Refusal.{Refusal}
use Rattle.refusal.specs.declared.Refusal.TheVariants.{WrongTrailer, CountOverLimit, ZoneTooLarge, ZonesLost}
use Rattle.case_file.specs.declared.Counts.{Counts}
use Rattle.case_file.specs.Trailer.{is_dimension, over_limit}
use Rattle.case_file.specs.Field.{is_at_most, larger, largest}
use Rattle.case_file.proofs.ZoneLaws.{larger-max, at_most}
use Rattle.case_definitions.specs.Faces.{Definition}
use Rattle.case_definitions.specs.Definitions.{definitions}
use Rattle.case_records.specs.Ensures.{checked}
use Rattle.case_contents.specs.Refusals.{is_edition, long_as, parts_right, well_formed, loses_zones, writable}
use Rattle.case_writer.specs.Ensures.{holding, zones_checked}

-- ---- largest_of

module _ (zones : List ℕ) (i : ℕ) where
  pub largest-on : (most : ℕ) → i < length zones → fold larger most (drop i zones) ≡ fold larger (max most (get_or zones i 0)) (drop (i + 1) zones)
  largest-on most h = rw larger-max (foldl-next zones i 0 h larger most)

  pub largest-done : (most : ℕ) → length zones ≤ i → fold larger most (drop i zones) ≡ most
  unfolding fold
  largest-done most h = rw (drop_of_length-le zones {i = i} h)

-- what the largest tells of all
module _ (zones : List ℕ) (most r : ℕ) (e : r ≡ largest zones) where
  all-within : leb r most ≡ all_of (is_at_most most) zones
  unfolding largest
  all-within = rw e (at_most most 0 zones (omega arith))

  pub some-above : most < r → all_of (is_at_most most) zones ≡ false
  some-above h = sym all-within ∙ lt-leb r most h

  pub none_above : r ≤ most → all_of (is_at_most most) zones ≡ true
  none_above h = sym all-within ∙ le-leb r most h

-- ---- check_zones

module _ (e : ℕ) (zones : List ℕ) where
  pub zones-45 : all_of (is_at_most 255) zones ≡ false → Err ZoneTooLarge ≡ checked (zones_checked e zones)
  unfolding zones_checked refuse ◌>>=◌ checked
  zones-45 a = rw a

  module _ (a : all_of (is_at_most 255) zones ≡ true) where
    pub zones-second : (e ≡ 1 → ⊥) → (Ok tt) ≡ checked (zones_checked e zones)
    unfolding zones_checked refuse ◌>>=◌ checked
    zones-second d = rw (a, ne_eqb e 1 d)

    module _ (one : e ≡ 1) where
      pub zones-46 : all_of (is_at_most 0) zones ≡ false → Err ZonesLost ≡ checked (zones_checked e zones)
      unfolding zones_checked refuse ◌>>=◌ checked
      zones-46 b = rw (a, eq-eqb e 1 one, b)

      pub zones-none : all_of (is_at_most 0) zones ≡ true → (Ok tt) ≡ checked (zones_checked e zones)
      unfolding zones_checked refuse ◌>>=◌ checked
      zones-none b = rw (a, eq-eqb e 1 one, b)

-- ---- check

module _ (n : Counts) (a b v q z : List ℕ) where
  pub check-flat : is_dimension n.dimension ≡ false → Err WrongTrailer ≡ checked (writable (holding n a b v q z))
  unfolding writable well_formed refuse ◌>>=◌ checked
  check-flat d = rw d

  module _ (d : is_dimension n.dimension ≡ true) where
    pub check-edition : is_edition n.edition ≡ false → Err WrongTrailer ≡ checked (writable (holding n a b v q z))
    unfolding writable well_formed refuse ◌>>=◌ checked
    check-edition e = rw (d, e)

    module _ (e : is_edition n.edition ≡ true) where
      pub check-short : long_as n (length a) (length b) (length v) (length q) (length z) ≡ false → Err WrongTrailer ≡ checked (writable (holding n a b v q z))
      unfolding writable well_formed parts_right refuse ◌>>=◌ checked
      check-short l = rw (d, e, l)

      module _ (l : long_as n (length a) (length b) (length v) (length q) (length z) ≡ true) where
        pub check-over : over_limit n ≡ true → Err CountOverLimit ≡ checked (writable (holding n a b v q z))
        unfolding writable well_formed parts_right refuse ◌>>=◌ checked
        check-over o = rw (d, e, l, o)

        module _ (o : over_limit n ≡ false) where
          walks : (t : Refusable (List Definition)) → definitions n.cells b ≡ t →
              writable (holding n a b v q z) ≡ (t >>= λ _. zones_checked n.edition z)
          unfolding writable well_formed parts_right loses_zones zones_checked refuse ◌>>=◌
          walks t w = rw (d, e, l, o, w)

          pub check-words : (r : Refusal) → Err r ≡ checked (definitions n.cells b) → Err r ≡ checked (writable (holding n a b v q z))
          unfolding ◌>>=◌ checked
          check-words r w = by (definitions n.cells b) refl
            where
              by : (t : Refusable (List Definition)) → definitions n.cells b ≡ t → Err r ≡ checked (writable (holding n a b v q z))
              by (Err k) f = let g : r ≡ k = cc in rw (walks (Err k) f, g)
              by (Ok ds) f = absurd (let g : ◌≡◌ {A = ℕ} 0 1 = cc in omega arith)

          pub check-zones : (Ok tt) ≡ checked (definitions n.cells b) → checked (zones_checked n.edition z) ≡ checked (writable (holding n a b v q z))
          unfolding ◌>>=◌ checked
          check-zones w = by (definitions n.cells b) refl
            where
              by : (t : Refusable (List Definition)) → definitions n.cells b ≡ t → checked (zones_checked n.edition z) ≡ checked (writable (holding n a b v q z))
              by (Err k) f = absurd (let g : ◌≡◌ {A = ℕ} 0 1 = cc in omega arith)
              by (Ok ds) f = ap checked (sym (walks (Ok ds) f))
