-- What is written is read, and what was read is written again: contents and files determine each other. Assumes nothing.
use Prim.Native.Nat.{ℕ, zero, suc, ◌+◌, ◌-◌, ◌*◌, ◌/◌, ◌≤◌, ◌<◌}
use native.Mathlib.Omega.{arith}
use mathlib.Core.Path.{◌≡◌, refl, ap, ap₂, sym, ◌∙◌}
use mathlib.Core.Logic.{⊎_elim}
use mathlib.Core.Bool.{Bool, true, false, cond, ◌&&◌}
use mathlib.Core.List.{List, [], ◌∷◌, ◌++◌, append_assoc}
use lib.Dec.{leb, ltb, eqb}
use lib.ListN.{length, get_or, take, drop, length-append, length-drop, take-append-drop}
use lib.Seq.{drop-drop, take_at, take_all, ext_get_or}
use borrow.Author.Tests.{eqb-true, eq-eqb, lt-ltb, leb-true, not-false}
use Rattle.arith.specs.Bytes.{le32, le64, read_all}
use Rattle.arith.specs.Lists.{all_of}
use Rattle.arith.proofs.All.{All, all_append, all_get_or}
use Rattle.arith_bytes.specs.Stored.{le_bytes, all_bytes}
use Rattle.arith_bytes.proofs.ByteLaws.{back, reads-words, reads-bits, again, writes-words, writes-bits}
use Rattle.case_file.specs.declared.Counts.{Counts}
use Rattle.case_file.specs.Trailer.{trailer_word, edition_of, dimension_of, counts_of, words_from, field_from, pressures_from, zones_from, zone_bytes, trailer_from, is_dimension, has_offsets, has_zones, has_parts, trailer_right, words_of}
use Rattle.case_file.specs.Field.{cells_of, zone_in, zone_of, zones_of, is_at_most}
use Rattle.case_file.proofs.ReadLaws.{length-read_all, get_or-read_all}
use Rattle.case_file.proofs.TrailerLaws.{and_left, and_right, ends}
use Rattle.case_file.proofs.ZoneLaws.{length-zones, get_or-zones}
use Rattle.case_contents.specs.Contents.{Contents, dimension_word, trailer_of, zone_words, offset_words, front_of, file_of, contents_of}
use Rattle.case_contents.specs.Refusals.{loses_zones}
use Rattle.case_contents.specs.Accepted.{Sized}
use Rattle.case_contents.proofs.LayoutLaws.{a, b, v, q, z, o, t, long-a, long-ab, long-abv, long-abvq, from-b, from-v, from-q, from-z, counts-back, one-or-two}

-- the parts are numbers of 64 and of 32 bits, as the slices of a writer are
pub record Bits (c : Contents) : Type 0 where
  pub points : All (λ w. w < 18446744073709551616) c.points
  pub words : All (λ w. w < 4294967296) c.words
  pub velocities : All (λ w. w < 18446744073709551616) c.velocities
  pub pressures : All (λ w. w < 18446744073709551616) c.pressures
  pub zones : All (λ w. w < 4294967296) c.zones

-- a test that all of a list pass, at a place; and by all places
all-at : (p : ℕ → Bool) (l : List ℕ) (i : ℕ) → all_of p l ≡ true → i < length l → p (get_or l i 0) ≡ true
unfolding all_of
all-at p [] i e h = absurd (omega arith)
all-at p (x ∷ l) zero e h = by (p x) refl
  where
    by : (k : Bool) → p x ≡ k → p x ≡ true
    by true f = f
    by false f = absurd (let w = rw (f, all_of) at e in let m : ◌≡◌ {A = ℕ} 0 1 = cc in omega arith)
all-at p (x ∷ l) (suc i) e h = all-at p l i (by (p x) refl) (omega arith)
  where
    by : (k : Bool) → p x ≡ k → all_of p l ≡ true
    by true f = rw (f, all_of) at e
    by false f = absurd (let w = rw (f, all_of) at e in let m : ◌≡◌ {A = ℕ} 0 1 = cc in omega arith)

pub all-by-place : (p : ℕ → Bool) (l : List ℕ) → ((i : ℕ) → i < length l → p (get_or l i 0) ≡ true) → all_of p l ≡ true
unfolding all_of
all-by-place p [] h = refl
all-by-place p (x ∷ l) h =
    let e : p x ≡ true = h 0 (omega arith) in
    rw (e, all_of) (all-by-place p l (λ i g. h (suc i) (omega arith)))

-- ---- the zone of a cell, by edition

zone-two : (file : List ℕ) (n : Counts) (i : ℕ) → n.edition ≡ 2 → i < n.cells → zone_in file n i ≡ le32 file (zones_from n + 4 * i)
unfolding zone_in
zone-two file n i two h = rw (eq-eqb n.edition 2 two, lt-ltb i n.cells h)

pub zone-one : (file : List ℕ) (n : Counts) (i : ℕ) → n.edition ≡ 1 → zone_in file n i ≡ 0
unfolding zone_in
zone-one file n i one = rw one

-- ---- the written file is read

module _ (c : Contents) (s : Sized c) (w : Bits c) where
  points-back : read_all (le64 (file_of c)) 8 (3 * c.counts.points) 0 ≡ c.points
  unfolding a
  points-back =
      rw (← s.points, from-b c s) (back 8 18446744073709551616 le64 reads-bits [] (b c s ++ (v c s ++ (q c s ++ (z c s ++ (o c s ++ t c s))))) c.points w.points)

  pub words_back : words_of (file_of c) c.counts ≡ c.words
  unfolding words_of b
  words_back =
      rw (from-b c s, ← long-a c s) (rw s.words at (back 4 4294967296 le32 reads-words (a c s) (v c s ++ (q c s ++ (z c s ++ (o c s ++ t c s)))) c.words w.words))

  velocities-back : read_all (le64 (file_of c)) 8 (3 * c.counts.cells) (field_from c.counts) ≡ c.velocities
  unfolding v
  velocities-back =
      rw (← s.velocities, from-v c s, ← long-ab c s) (back 8 18446744073709551616 le64 reads-bits (a c s ++ b c s) (q c s ++ (z c s ++ (o c s ++ t c s))) c.velocities w.velocities)

  pressures-back : read_all (le64 (file_of c)) 8 c.counts.cells (pressures_from c.counts) ≡ c.pressures
  unfolding q
  pressures-back =
      rw (from-q c s, ← long-abv c s) (rw s.pressures at (back 8 18446744073709551616 le64 reads-bits ((a c s ++ b c s) ++ v c s) (z c s ++ (o c s ++ t c s)) c.pressures w.pressures))

  zones-read : c.counts.edition ≡ 2 → read_all (le32 (file_of c)) 4 c.counts.cells (zones_from c.counts) ≡ c.zones
  unfolding z zone_words
  zones-read two =
      let e : zone_words c.counts c.zones ≡ c.zones = rw (eq-eqb c.counts.edition 2 two) in
      let f : z c s ≡ all_bytes 4 c.zones = ap (all_bytes 4) e in
      rw (from-z c s, f, ← long-abvq c s)
      (rw s.zones at (back 4 4294967296 le32 reads-words (((a c s ++ b c s) ++ v c s) ++ q c s) (o c s ++ t c s) c.zones w.zones))

  module _ (kept : loses_zones c ≡ false) where
    zone-zero : c.counts.edition ≡ 1 → (i : ℕ) → i < c.counts.cells → 0 ≡ get_or c.zones i 0
    unfolding loses_zones is_at_most
    zone-zero one i h =
        let k : all_of (is_at_most 0) c.zones ≡ true = not-false _ (rw one at kept) in
        let m : leb (get_or c.zones i 0) 0 ≡ true = all-at (is_at_most 0) c.zones i k (omega (arith, s.zones)) in
        omega (arith, leb-true (get_or c.zones i 0) 0 m)

    zone-back : (i : ℕ) → i < c.counts.cells → zone_in (file_of c) c.counts i ≡ get_or c.zones i 0
    zone-back i h = ⊎_elim first second (one-or-two c.counts.edition s.counts.edition)
      where
        first : c.counts.edition ≡ 1 → zone_in (file_of c) c.counts i ≡ get_or c.zones i 0
        first one = zone-one (file_of c) c.counts i one ∙ zone-zero one i h

        second : c.counts.edition ≡ 2 → zone_in (file_of c) c.counts i ≡ get_or c.zones i 0
        second two =
            zone-two (file_of c) c.counts i two h
            ∙ sym (get_or-read_all (le32 (file_of c)) 4 c.counts.cells (zones_from c.counts) i 0 h)
            ∙ ap (λ l. get_or l i 0) (zones-read two)

    zone-read : (i : ℕ) → i < c.counts.cells → get_or (zones_of (file_of c)) i 0 ≡ get_or c.zones i 0
    unfolding zone_of
    zone-read i h = get_or-zones (file_of c) i ∙ ap (λ m. zone_in (file_of c) m i) (counts-back c s) ∙ zone-back i h

    zones-long : length (zones_of (file_of c)) ≡ c.counts.cells
    unfolding cells_of
    zones-long = length-zones (file_of c) ∙ ap (λ (m : Counts). m.cells) (counts-back c s)

    pub zones-back : zones_of (file_of c) ≡ c.zones
    zones-back =
        ext_get_or 0 (zones_of (file_of c)) c.zones (zones-long ∙ sym s.zones)
        (λ (i : ℕ) (h : i < length (zones_of (file_of c))). zone-read i (rw (← zones-long) h))

    -- "reading its file gives the same contents, floats by their bits"
    pub written_back : contents_of (file_of c) ≡ c
    unfolding contents_of
    written_back = rw (counts-back c s, points-back, words_back, velocities-back, pressures-back, zones-back)

-- ---- the read file is written

-- the offsets of a right trailer
record Offsets (file : List ℕ) (n : Counts) : Type 0 where
  first : trailer_word file 4 ≡ 0
  words : trailer_word file 5 ≡ words_from n
  field : trailer_word file 6 ≡ field_from n
  pressures : trailer_word file 7 ≡ pressures_from n
  zones : has_zones file n ≡ true

offsets : (file : List ℕ) → trailer_right file ≡ true → Offsets file (counts_of file)
unfolding trailer_right has_parts has_offsets
offsets file r =
    let n = counts_of file in
    let w4 : Bool = eqb (trailer_word file 4) 0 in
    let w5 : Bool = eqb (trailer_word file 5) (words_from n) in
    let w6 : Bool = eqb (trailer_word file 6) (field_from n) in
    let w7 : Bool = eqb (trailer_word file 7) (pressures_from n) in
    let both = and_left (w4 && w5 && w6 && w7 && has_zones file n) _ (and_right (leb 32 (length file) && is_dimension n.dimension) _ r) in
    let all = and_left (w4 && w5 && w6 && w7) (has_zones file n) both in
    let three = and_left (w4 && w5 && w6) w7 all in
    let two = and_left (w4 && w5) w6 three in
    record {
      first = eqb-true _ _ (and_left w4 w5 two);
      words = eqb-true _ _ (and_right w4 w5 two);
      field = eqb-true _ _ (and_right (w4 && w5) w6 three);
      pressures = eqb-true _ _ (and_right (w4 && w5 && w6) w7 all);
      zones = and_right (w4 && w5 && w6 && w7) (has_zones file n) both;
    }

-- the edition is 1 or 2, and the dimension word says it
word-said : (file : List ℕ) → is_dimension (counts_of file).dimension ≡ true → dimension_word (counts_of file) ≡ trailer_word file 0
unfolding counts_of
word-said file d = by (eqb (trailer_word file 0) 102) refl (eqb (trailer_word file 0) 103) refl
  where
    by : (x : Bool) → eqb (trailer_word file 0) 102 ≡ x → (y : Bool) → eqb (trailer_word file 0) 103 ≡ y → dimension_word (counts_of file) ≡ trailer_word file 0
    by true f y g = let e = eqb-true (trailer_word file 0) 102 f in unfold dimension_word in unfold counts_of in unfold edition_of in unfold dimension_of in rw e
    by false f true g = let e = eqb-true (trailer_word file 0) 103 g in unfold dimension_word in unfold counts_of in unfold edition_of in unfold dimension_of in rw e
    by false f false g = unfold dimension_word in unfold counts_of in unfold edition_of in unfold dimension_of in rw (f, g)

-- some bytes, and those after them
split : (file : List ℕ) (i m j : ℕ) → i + m ≡ j → take m (drop i file) ++ drop j file ≡ drop i file
split file i m j e = rw (← e, ← drop-drop m i file) (take-append-drop m (drop i file))

module _ (file : List ℕ) (r : trailer_right file ≡ true) (bytes : All (λ b. b < 256) file) where
  n : Counts
  n = counts_of file

  whole : trailer_from n + 32 ≡ length file
  unfolding n
  whole = ends file r

  word-is : (k at : ℕ) → at ≡ trailer_from n + 4 * k → trailer_word file k ≡ le32 file at
  unfolding trailer_word
  word-is k at e = let g : length file - 32 + 4 * k ≡ at = omega (arith, whole) in ap (le32 file) g

  trailer-there : trailer_of n ≡ read_all (le32 file) 4 8 (trailer_from n)
  unfolding trailer_of read_all n counts_of
  trailer-there =
      let p = offsets file r in
      let d : is_dimension (counts_of file).dimension ≡ true = unfold trailer_right in and_right (leb 32 (length file)) _ (and_left (leb 32 (length file) && is_dimension (counts_of file).dimension) _ r) in
      ap₂ ◌∷◌ (word-said file d ∙ word-is 0 _ (omega arith)) (ap₂ ◌∷◌ (word-is 1 _ (omega arith)) (ap₂ ◌∷◌ (word-is 2 _ (omega arith)) (ap₂ ◌∷◌ (word-is 3 _ (omega arith))
      (ap₂ ◌∷◌ (sym p.first ∙ word-is 4 _ (omega arith)) (ap₂ ◌∷◌ (sym p.words ∙ word-is 5 _ (omega arith))
      (ap₂ ◌∷◌ (sym p.field ∙ word-is 6 _ (omega arith)) (ap₂ ◌∷◌ (sym p.pressures ∙ word-is 7 _ (omega arith)) refl)))))))

  trailer-again : all_bytes 4 (trailer_of n) ≡ drop (trailer_from n) file
  trailer-again =
      rw trailer-there
      (again 4 le32 file (writes-words file bytes) 8 (trailer_from n) (omega (arith, whole))
      ∙ take_all 32 (drop (trailer_from n) file) (omega (arith, whole, length-drop (trailer_from n) file)))

  part-again : (k at : ℕ) → at + 8 * k ≤ length file → all_bytes 8 (read_all (le64 file) 8 k at) ≡ take (8 * k) (drop at file)
  part-again k at h = again 8 le64 file (writes-bits file bytes) k at h

  words-at : (k at : ℕ) → at + 4 * k ≤ length file → all_bytes 4 (read_all (le32 file) 4 k at) ≡ take (4 * k) (drop at file)
  words-at k at h = again 4 le32 file (writes-words file bytes) k at h

  size : 24 * n.points + 4 * n.words + 32 * n.cells + zone_bytes n + 32 ≡ length file
  unfolding trailer_from zones_from
  size = whole

  -- ---- the zones

  zone-here : n.edition ≡ 2 → (i : ℕ) → i < n.cells → get_or (zones_of file) i 0 ≡ get_or (read_all (le32 file) 4 n.cells (zones_from n)) i 0
  unfolding n zone_of
  zone-here two i h =
      get_or-zones file i ∙ zone-two file n i two h ∙ sym (get_or-read_all (le32 file) 4 n.cells (zones_from n) i 0 h)

  cells-long : length (zones_of file) ≡ n.cells
  unfolding n cells_of
  cells-long = length-zones file

  zones-there : n.edition ≡ 2 → zones_of file ≡ read_all (le32 file) 4 n.cells (zones_from n)
  zones-there two =
      ext_get_or 0 (zones_of file) (read_all (le32 file) 4 n.cells (zones_from n)) (cells-long ∙ sym (length-read_all (le32 file) 4 n.cells (zones_from n)))
      (λ (i : ℕ) (h : i < length (zones_of file)). zone-here two i (rw (← cells-long) h))

  -- where the trailer starts, by edition
  trailer-one : eqb n.edition 2 ≡ false → trailer_from n ≡ zones_from n
  unfolding trailer_from zone_bytes
  trailer-one f = rw f (omega arith)

  trailer-two : eqb n.edition 2 ≡ true → trailer_from n ≡ zones_from n + 4 * n.cells + 4
  unfolding trailer_from zone_bytes
  trailer-two f = rw f (omega arith)

  offset-there : eqb n.edition 2 ≡ true → le32 file (zones_from n + 4 * n.cells) ≡ zones_from n
  unfolding n has_zones
  offset-there f =
      let h : leb 36 (length file) && eqb (le32 file (length file - 36)) (zones_from n) ≡ true = rw f at (offsets file r).zones in
      let e : le32 file (length file - 36) ≡ zones_from n = eqb-true _ _ (and_right (leb 36 (length file)) _ h) in
      let at : zones_from n + 4 * n.cells ≡ length file - 36 = omega (arith, whole, trailer-two f) in
      ap (le32 file) at ∙ e

  offset-again : eqb n.edition 2 ≡ true → all_bytes 4 (offset_words n) ≡ take 4 (drop (zones_from n + 4 * n.cells) file)
  unfolding offset_words read_all
  offset-again f =
      let m : offset_words n ≡ read_all (le32 file) 4 1 (zones_from n + 4 * n.cells) = rw (f, offset-there f) in
      rw m (words-at 1 (zones_from n + 4 * n.cells) (omega (arith, whole, trailer-two f)))

  zones-again : eqb n.edition 2 ≡ true → all_bytes 4 (zone_words n (zones_of file)) ≡ take (4 * n.cells) (drop (zones_from n) file)
  unfolding zone_words
  zones-again f = rw (f, zones-there (eqb-true n.edition 2 f)) (words-at n.cells (zones_from n) (omega (arith, whole, trailer-two f)))

  after-pressures : all_bytes 4 (zone_words n (zones_of file)) ++ (all_bytes 4 (offset_words n) ++ drop (trailer_from n) file) ≡ drop (zones_from n) file
  unfolding zone_words offset_words all_bytes
  after-pressures = by (eqb n.edition 2) refl
    where
      by : (x : Bool) → eqb n.edition 2 ≡ x →
          all_bytes 4 (zone_words n (zones_of file)) ++ (all_bytes 4 (offset_words n) ++ drop (trailer_from n) file) ≡ drop (zones_from n) file
      by false f = rw (trailer-one f, f)
      by true f =
          let p = zones-again f in
          let k = offset-again f in
          ap₂ ◌++◌ p
          (ap₂ ◌++◌ k (ap (λ (i : ℕ). drop i file) (trailer-two f)) ∙ split file (zones_from n + 4 * n.cells) 4 (zones_from n + 4 * n.cells + 4) refl)
          ∙ split file (zones_from n) (4 * n.cells) (zones_from n + 4 * n.cells) refl

  -- ---- a part, and what follows it

  points-again : all_bytes 8 (read_all (le64 file) 8 (3 * n.points) 0) ++ drop (words_from n) file ≡ file
  unfolding words_from
  points-again = rw (part-again (3 * n.points) 0 (omega (arith, size))) (split file 0 (8 * (3 * n.points)) (24 * n.points) (omega arith))

  words-again : all_bytes 4 (words_of file n) ++ drop (field_from n) file ≡ drop (words_from n) file
  unfolding words_of words_from field_from
  words-again =
      rw (words-at n.words (24 * n.points) (omega (arith, size)))
      (split file (24 * n.points) (4 * n.words) (24 * n.points + 4 * n.words) refl)

  velocities-again : all_bytes 8 (read_all (le64 file) 8 (3 * n.cells) (field_from n)) ++ drop (pressures_from n) file ≡ drop (field_from n) file
  unfolding field_from pressures_from
  velocities-again =
      rw (part-again (3 * n.cells) (24 * n.points + 4 * n.words) (omega (arith, size)))
      (split file (24 * n.points + 4 * n.words) (8 * (3 * n.cells)) (24 * n.points + 4 * n.words + 24 * n.cells) (omega arith))

  pressures-again : all_bytes 8 (read_all (le64 file) 8 n.cells (pressures_from n)) ++ drop (zones_from n) file ≡ drop (pressures_from n) file
  unfolding pressures_from zones_from
  pressures-again =
      rw (part-again n.cells (24 * n.points + 4 * n.words + 24 * n.cells) (omega (arith, size)))
      (split file (24 * n.points + 4 * n.words + 24 * n.cells) (8 * n.cells) (24 * n.points + 4 * n.words + 32 * n.cells) (omega arith))

  -- the parts that both editions have, and what follows them
  front-again : front_of (contents_of file) ++ drop (zones_from n) file ≡ file
  unfolding front_of contents_of n
  front-again = simp append_assoc (rw (pressures-again, velocities-again, words-again) points-again)

  -- a file whose trailer is right is the one that its contents are written to
  pub read_again : file_of (contents_of file) ≡ file
  unfolding file_of contents_of n
  read_again = rw (trailer-again, after-pressures) front-again

  pub front-is : front_of (contents_of file) ≡ take (zones_from (counts_of file)) file
  unfolding n
  front-is =
      let f : List ℕ = front_of (contents_of file) in
      let k : length f ≡ zones_from n = omega (arith, ap length front-again, length-append f (drop (zones_from n) file), length-drop (zones_from n) file, whole, within) in
      sym (take_at f (drop (zones_from n) file) (zones_from n) k) ∙ ap (take (zones_from n)) front-again
    where
      within : zones_from n ≤ trailer_from n
      within = unfold trailer_from in omega arith

-- ---- bytes are below 256, and what is read from such bytes fits its words

below : (k w : ℕ) → All (λ b. b < 256) (le_bytes k w)
unfolding le_bytes
below zero w = tt
below (suc k) w = (omega arith, below k (w / 256))

all-below : (k : ℕ) (ws : List ℕ) → All (λ b. b < 256) (all_bytes k ws)
unfolding all_bytes
all-below k [] = tt
all-below k (w ∷ ws) = all_append (λ b. b < 256) (le_bytes k w) (all_bytes k ws) (below k w) (all-below k ws)

pub file-bytes : (c : Contents) → All (λ b. b < 256) (file_of c)
unfolding file_of front_of
file-bytes c =
    let a : List ℕ = all_bytes 8 c.points in
    let b : List ℕ = all_bytes 4 c.words in
    let v : List ℕ = all_bytes 8 c.velocities in
    let q : List ℕ = all_bytes 8 c.pressures in
    let z : List ℕ = all_bytes 4 (zone_words c.counts c.zones) in
    let o : List ℕ = all_bytes 4 (offset_words c.counts) in
    let t : List ℕ = all_bytes 4 (trailer_of c.counts) in
    let vq = both v q (all-below 8 c.velocities) (all-below 8 c.pressures) in
    let bvq = both b (v ++ q) (all-below 4 c.words) vq in
    let front = both a (b ++ (v ++ q)) (all-below 8 c.points) bvq in
    let ot = both o t (all-below 4 (offset_words c.counts)) (all-below 4 (trailer_of c.counts)) in
    let end = both z (o ++ t) (all-below 4 (zone_words c.counts c.zones)) ot in
    both (a ++ (b ++ (v ++ q))) (z ++ (o ++ t)) front end
  where
    both : (l k : List ℕ) → All (λ b. b < 256) l → All (λ b. b < 256) k → All (λ b. b < 256) (l ++ k)
    both l k h g = all_append (λ b. b < 256) l k h g

all_read : (P : ℕ → Type 0) (f : ℕ → ℕ) → ((i : ℕ) → P (f i)) → (s n at : ℕ) → All P (read_all f s n at)
unfolding read_all
all_read P f h s zero at = tt
all_read P f h s (suc n) at = (h at, all_read P f h s n (at + s))

all-places : (P : ℕ → Type 0) (l : List ℕ) → ((i : ℕ) → P (get_or l i 0)) → All P l
all-places P [] h = tt
all-places P (x ∷ l) h = (h 0, all-places P l (λ i. h (suc i)))

module _ (file : List ℕ) (bytes : All (λ b. b < 256) file) where
  byte : (i : ℕ) → get_or file i 0 < 256
  byte i = all_get_or (λ b. b < 256) file i 0 (omega arith) bytes

  low : (at : ℕ) → le32 file at < 4294967296
  unfolding le32
  low at = omega (arith, byte at, byte (at + 1), byte (at + 2), byte (at + 3))

  high : (at : ℕ) → le64 file at < 18446744073709551616
  unfolding le64
  high at = omega (arith, low at, low (at + 4))

  zone-low : (i : ℕ) → zone_of file i < 4294967296
  unfolding zone_of zone_in
  zone-low i = by (eqb (counts_of file).edition 2 && ltb i (counts_of file).cells)
    where
      by : (x : Bool) → cond x (le32 file (zones_from (counts_of file) + 4 * i)) 0 < 4294967296
      by true = low (zones_from (counts_of file) + 4 * i)
      by false = omega arith

  pub read-bits : Bits (contents_of file)
  unfolding contents_of words_of
  read-bits =
      record {
        points = all_read (λ w. w < 18446744073709551616) (le64 file) high 8 _ _;
        words = all_read (λ w. w < 4294967296) (le32 file) low 4 _ _;
        velocities = all_read (λ w. w < 18446744073709551616) (le64 file) high 8 _ _;
        pressures = all_read (λ w. w < 18446744073709551616) (le64 file) high 8 _ _;
        zones = all-places (λ w. w < 4294967296) (zones_of file) (λ i. rw (get_or-zones file i) (zone-low i));
      }
