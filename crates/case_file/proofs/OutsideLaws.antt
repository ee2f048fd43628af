-- Outside its field a case reads as before: what opening, walking, points and zones find in the case bytes is what they find in `outside`. Assumes nothing.
use Prim.Native.Nat.{ℕ, ◌+◌, ◌-◌, ◌*◌, ◌≤◌, ◌<◌}
use native.Mathlib.Omega.{arith}
use mathlib.Core.Path.{◌≡◌, refl, ap, sym, ◌∙◌}
use mathlib.Core.Bool.{Bool, true, false}
use mathlib.Core.List.{List, ◌++◌}
use lib.Dec.{eqb}
use lib.ListN.{length, get_or, take, drop, replicate, length-append, length-take, length-drop, length-replicate, get_or-append}
use lib.Seq.{length-take-le, get_or-take, get_or-drop, get_or-append-add}
use borrow.Author.Tests.{lt-ltb, le-ltb, eqb-true}
use Rattle.arith.specs.Bytes.{le32, le64, float_at, vec_at}
use Rattle.arith.specs.Lists.{all_of}
use Rattle.arith.specs.Records.{tab}
use Rattle.arith.proofs.RecordLaws.{tab-same}
use Rattle.case_file.specs.Trailer.{trailer_word, counts_of, words_from, field_from, pressures_from, zones_from, zone_bytes, trailer_from, has_offsets, has_zones, has_parts, trailer_right, opened, words_of}
use Rattle.case_file.proofs.ReadLaws.{same-read_all}
use Rattle.case_file.proofs.TrailerLaws.{zones-some, ends, Opens, opens}
use Rattle.arith.specs.F64.{0·0}
use Rattle.arith.specs.Vec.{origin}
use Rattle.case_file.specs.declared.Counts.{Counts}
use Rattle.case_file.specs.Field.{blank, outside, cells_of, zero_values, values_in, values_of, zone_in, zone_of, zones_of, is_at_most, zones_within}
use Rattle.std.specs.Prelude.{Ok}

module _ (at n : ℕ) (l : List ℕ) (fits : at + n ≤ length l) where
  pub length-blank : length (blank at n l) ≡ length l
  unfolding blank
  length-blank = simp (length-append, length-replicate, length-drop) (omega (arith, length-take at l))

  pub blank-below : (i : ℕ) → i < at → get_or (blank at n l) i 0 ≡ get_or l i 0
  unfolding blank
  blank-below i h =
      get_or-append (take at l) (replicate n 0 ++ drop (at + n) l) 0 i (omega (arith, length-take-le at l (omega arith))) ∙ get_or-take at l i 0 h

  pub blank-past : (j : ℕ) → get_or (blank at n l) (at + n + j) 0 ≡ get_or l (at + n + j) 0
  unfolding blank
  blank-past j =
      let first : length (take at l) ≡ at = length-take-le at l (omega arith) in
      let zeros : List ℕ = replicate n 0 in
      let second : length zeros ≡ n = length-replicate n 0 in
      let there : at + n + j ≡ length (take at l) + (length zeros + j) = omega arith in
      ap (λ i. get_or (take at l ++ (zeros ++ drop (at + n) l)) i 0) there
      ∙ get_or-append-add (take at l) (zeros ++ drop (at + n) l) (length zeros + j) 0
      ∙ get_or-append-add zeros (drop (at + n) l) j 0
      ∙ get_or-drop (at + n) l j 0

  pub blank-above : (i : ℕ) → at + n ≤ i → get_or (blank at n l) i 0 ≡ get_or l i 0
  blank-above i h = let e : at + n + (i - (at + n)) ≡ i = omega arith in rw e at (blank-past (i - (at + n)))

  -- a u32 that lies before or after the zeros
  pub le32-below : (i : ℕ) → i + 4 ≤ at → le32 (blank at n l) i ≡ le32 l i
  unfolding le32
  le32-below i h = rw (blank-below i (omega arith), blank-below (i + 1) (omega arith), blank-below (i + 2) (omega arith), blank-below (i + 3) (omega arith))

  pub le32-above : (i : ℕ) → at + n ≤ i → le32 (blank at n l) i ≡ le32 l i
  unfolding le32
  le32-above i h = rw (blank-above i h, blank-above (i + 1) (omega arith), blank-above (i + 2) (omega arith), blank-above (i + 3) (omega arith))

  -- three floats that lie before the zeros
  le64-below : (i : ℕ) → i + 8 ≤ at → le64 (blank at n l) i ≡ le64 l i
  unfolding le64
  le64-below i h = rw (le32-below i (omega arith), le32-below (i + 4) (omega arith))

  pub vec_at-below : (i : ℕ) → i + 24 ≤ at → vec_at (blank at n l) i ≡ vec_at l i
  unfolding vec_at float_at
  vec_at-below i h = rw (le64-below i (omega arith), le64-below (i + 8) (omega arith), le64-below (i + 16) (omega arith))

module _ (file : List ℕ) (right : trailer_right file ≡ true) where
  long : field_from (counts_of file) + 32 * (counts_of file).cells + zone_bytes (counts_of file) + 32 ≡ length file
  unfolding field_from zones_from trailer_from
  long = let e = ends file right in omega arith

  cut : outside file ≡ blank (field_from (counts_of file)) (32 * (counts_of file).cells) file
  unfolding outside
  cut = rw (right, outside)

  pub same_length : length (outside file) ≡ length file
  same_length = rw cut (length-blank (field_from (counts_of file)) (32 * (counts_of file).cells) file (omega (arith, long)))

  same_word : (k : ℕ) → trailer_word (outside file) k ≡ trailer_word file k
  unfolding trailer_word
  same_word k =
      rw (same_length, cut)
      (le32-above (field_from (counts_of file)) (32 * (counts_of file).cells) file (omega (arith, long)) (length file - 32 + 4 * k) (omega (arith, long)))

  -- the counts, and so refusals 1 and 2
  pub same-counts : counts_of (outside file) ≡ counts_of file
  unfolding counts_of
  same-counts = rw (same_word 0, same_word 1, same_word 2, same_word 3)

  -- the offset of the zones, which edition 2 has
  same-zones : has_zones (outside file) (counts_of file) ≡ has_zones file (counts_of file)
  unfolding has_zones
  same-zones = by (eqb (counts_of file).edition 2) refl
    where
      by : (t : Bool) → eqb (counts_of file).edition 2 ≡ t → has_zones (outside file) (counts_of file) ≡ has_zones file (counts_of file)
      by false e = rw e
      by true e =
          let z = zones-some (counts_of file) (eqb-true _ _ e) in
          let m = same_length in
          let w : le32 (outside file) (length file - 36) ≡ le32 file (length file - 36) =
          rw cut
          (le32-above (field_from (counts_of file)) (32 * (counts_of file).cells) file (omega (arith, long)) (length file - 36) (omega (arith, long, z)))
          in
          rw (e, m, w)

  pub same-right : trailer_right (outside file) ≡ true
  unfolding trailer_right has_parts has_offsets
  same-right = rw (same-counts, same_length, same-zones, same_word 4, same_word 5, same_word 6, same_word 7) right

  pub same-opened : opened (outside file) ≡ opened file
  unfolding opened
  same-opened = rw (same-counts, same-right, right, opened)

  -- points and definition words
  pub same_point : (i : ℕ) → i < (counts_of file).points → vec_at (outside file) (24 * i) ≡ vec_at file (24 * i)
  unfolding field_from
  same_point i h = rw cut (vec_at-below (field_from (counts_of file)) (32 * (counts_of file).cells) file (omega (arith, long)) (24 * i) (omega arith))

  pub same-words : words_of (outside file) (counts_of file) ≡ words_of file (counts_of file)
  unfolding words_of words_from
  same-words =
      rw cut
      (same-read_all _ _ 4 (field_from (counts_of file)) (counts_of file).words (24 * (counts_of file).points)
      (λ i h. le32-below (field_from (counts_of file)) (32 * (counts_of file).cells) file (omega (arith, long)) i h)
      (unfold field_from in omega arith))

  -- the zone of a cell, which stands behind the field
  same-zone : (i : ℕ) → zone_of (outside file) i ≡ zone_of file i
  unfolding zone_of zone_in zones_from
  same-zone i =
      let at : ℕ = 24 * (counts_of file).points + 4 * (counts_of file).words + 32 * (counts_of file).cells + 4 * i in
      let w : le32 (outside file) at ≡ le32 file at =
      rw cut (le32-above (field_from (counts_of file)) (32 * (counts_of file).cells) file (omega (arith, long)) at (unfold field_from in omega arith))
      in
      rw (same-counts, w)

-- ---- for any file, and for a case that opened

module _ (file : List ℕ) where
  -- a wrong file is all outside
  wrong : trailer_right file ≡ false → outside file ≡ file
  unfolding outside
  wrong e = rw (e, outside)

  pub outside-counts : counts_of (outside file) ≡ counts_of file
  outside-counts = by (trailer_right file) refl
    where
      by : (t : Bool) → trailer_right file ≡ t → counts_of (outside file) ≡ counts_of file
      by true e = same-counts file e
      by false e = ap counts_of (wrong e)

  -- refusals 1 and 2
  pub outside-opened : opened (outside file) ≡ opened file
  outside-opened = by (trailer_right file) refl
    where
      by : (t : Bool) → trailer_right file ≡ t → opened (outside file) ≡ opened file
      by true e = same-opened file e
      by false e = ap opened (wrong e)

  -- where lines stop, and refusal 45
  pub outside-zone : (i : ℕ) → zone_of (outside file) i ≡ zone_of file i
  outside-zone i = by (trailer_right file) refl
    where
      by : (t : Bool) → trailer_right file ≡ t → zone_of (outside file) i ≡ zone_of file i
      by true e = same-zone file e i
      by false e = ap (λ f. zone_of f i) (wrong e)

  pub outside-zones : zones_of (outside file) ≡ zones_of file
  unfolding zones_of cells_of
  outside-zones =
      tab-same (zone_of (outside file)) (zone_of file) (counts_of (outside file)).cells (λ i h. outside-zone i)
      ∙ ap (λ (n : Counts). tab (zone_of file) n.cells) outside-counts

  pub outside-zones-within : zones_within (outside file) ≡ zones_within file
  unfolding zones_within
  outside-zones-within = ap (all_of (is_at_most 255)) outside-zones

  module _ (n : Counts) (e : opened file ≡ Ok n) where
    o : Opens file n
    o = opens file n e

    -- refusal 3 and the faces that are counted
    pub outside-words : words_of (outside file) n ≡ words_of file n
    outside-words = rw o.same (same-words file o.right)

    -- refusals 9 and 10, and the mesh
    pub outside-point : (i : ℕ) → i < n.points → vec_at (outside file) (24 * i) ≡ vec_at file (24 * i)
    outside-point i h = same_point file o.right i (rw o.same at h)

    pub values-there : (i : ℕ) → i < n.cells →
        values_of file i ≡ record { velocity = vec_at file (24 * n.points + 4 * n.words + 24 * i); pressure = float_at file (24 * n.points + 4 * n.words + 24 * n.cells + 8 * i) }
    unfolding values_of values_in field_from pressures_from
    values-there i h = ap (λ m. values_in file m i) (sym o.same) ∙ rw (lt-ltb i n.cells h)

    pub values-none : (i : ℕ) → n.cells ≤ i → values_of file i ≡ record { velocity = origin; pressure = 0·0 }
    unfolding values_of values_in zero_values
    values-none i h = ap (λ m. values_in file m i) (sym o.same) ∙ rw (le-ltb i n.cells h)

-- no cell beyond those that a case has
pub values-beyond : (file : List ℕ) (i : ℕ) → cells_of file ≤ i → values_of file i ≡ zero_values
unfolding values_of values_in cells_of
values-beyond file i h = rw (le-ltb i (cells_of file) h)

pub cells-outside : (file : List ℕ) → cells_of (outside file) ≡ cells_of file
unfolding cells_of
cells-outside file = ap (λ (n : Counts). n.cells) (outside-counts file)
