-- Where the parts of a written file stand, and its trailer read. Assumes nothing.
use Prim.Native.Nat.{ℕ, ◌+◌, ◌-◌, ◌*◌, ◌≤◌, ◌<◌}
use native.Mathlib.Omega.{arith}
use mathlib.Core.Path.{◌≡◌, refl, ap, sym, ◌∙◌}
use mathlib.Core.Logic.{◌⊎◌, inl, inr, ⊎_elim}
use mathlib.Core.Bool.{Bool, true, false, cond, ◌&&◌, ◌||◌}
use mathlib.Core.List.{List, [], ◌∷◌, ◌++◌, append_assoc, append-nil}
use lib.Dec.{leb, eqb}
use lib.ListN.{length, get_or, length-append}
use borrow.Author.Tests.{eqb-true, eq-eqb, le-leb}
use Rattle.arith.specs.Bytes.{le32, read_all}
use Rattle.arith.proofs.All.{All}
use Rattle.arith_bytes.specs.Stored.{all_bytes}
use Rattle.arith_bytes.proofs.ByteLaws.{length-all_bytes, back, reads-words}
use Rattle.case_file.specs.declared.Counts.{Counts}
use Rattle.case_file.specs.Trailer.{trailer_word, edition_of, dimension_of, counts_of, words_from, field_from, pressures_from, zones_from, zone_bytes, trailer_from, is_dimension, has_offsets, has_zones, has_parts, trailer_right}
use Rattle.case_file.proofs.ReadLaws.{get_or-read_all}
use Rattle.case_file.proofs.TrailerLaws.{zones-some}
use Rattle.case_contents.specs.Contents.{Contents, dimension_word, trailer_of, zone_words, offset_words, front_of, file_of}
use Rattle.case_contents.specs.Refusals.{is_edition}
use Rattle.case_contents.specs.Accepted.{SizedCounts, Sized}

-- ---- the dimension word

-- one of two numbers
either : (k a b : ℕ) → (eqb k a || eqb k b) ≡ true → (k ≡ a) ⊎ (k ≡ b)
either k a b e = by (eqb k a) refl
  where
    by : (x : Bool) → eqb k a ≡ x → (k ≡ a) ⊎ (k ≡ b)
    by true f = inl (eqb-true k a f)
    by false f = inr (eqb-true k b (rw f at e))

pub two-or-three : (d : ℕ) → is_dimension d ≡ true → (d ≡ 2) ⊎ (d ≡ 3)
unfolding is_dimension
two-or-three d e = either d 2 3 e

pub one-or-two : (e : ℕ) → is_edition e ≡ true → (e ≡ 1) ⊎ (e ≡ 2)
unfolding is_edition
one-or-two e h = either e 1 2 h

-- what the dimension word says, and that it is a u32
record Says (n : Counts) : Type 0 where
  dimension : dimension_of (dimension_word n) ≡ n.dimension
  edition : edition_of (dimension_word n) ≡ n.edition
  small : dimension_word n ≤ 103

says : (n : Counts) → SizedCounts n → Says n
says n s = ⊎_elim flat deep (two-or-three n.dimension s.dimension)
  where
    both : (d e : ℕ) → n.dimension ≡ d → n.edition ≡ e → dimension_of (cond (eqb e 2) (d + 100) d) ≡ d → edition_of (cond (eqb e 2) (d + 100) d) ≡ e →
        cond (eqb e 2) (d + 100) d ≤ 103 → Says n
    both d e p q f g h =
        let w : dimension_word n ≡ cond (eqb e 2) (d + 100) d = unfold dimension_word in rw (p, q) in
        record { dimension = rw w (f ∙ sym p); edition = rw w (g ∙ sym q); small = rw w h }

    flat : n.dimension ≡ 2 → Says n
    flat p =
        ⊎_elim
        (λ q. both 2 1 p q (unfold dimension_of in refl) (unfold edition_of in refl) (omega arith))
        (λ q. both 2 2 p q (unfold dimension_of in refl) (unfold edition_of in refl) (omega arith))
        (one-or-two n.edition s.edition)

    deep : n.dimension ≡ 3 → Says n
    deep p =
        ⊎_elim
        (λ q. both 3 1 p q (unfold dimension_of in refl) (unfold edition_of in refl) (omega arith))
        (λ q. both 3 2 p q (unfold dimension_of in refl) (unfold edition_of in refl) (omega arith))
        (one-or-two n.edition s.edition)

-- ---- u32 words

pub small-trailer : (n : Counts) → SizedCounts n → All (λ w. w < 4294967296) (trailer_of n)
unfolding trailer_of words_from field_from pressures_from
small-trailer n s =
    let d = (says n s).small in
    (omega arith, (omega arith, (omega arith, (omega arith, (omega arith, (omega arith, (omega arith, (omega arith, tt))))))))

small-offset : (n : Counts) → SizedCounts n → All (λ w. w < 4294967296) (offset_words n)
unfolding offset_words zones_from
small-offset n s = by (eqb n.edition 2)
  where
    by : (x : Bool) → All (λ w. w < 4294967296) (cond x ((24 * n.points + 4 * n.words + 32 * n.cells) ∷ []) [])
    by true = (omega arith, tt)
    by false = tt

-- how long the zones and their offset are
zone-length : (n : Counts) (zones : List ℕ) → length zones ≡ n.cells → 4 * length (zone_words n zones) + 4 * length (offset_words n) ≡ zone_bytes n
unfolding zone_words offset_words zone_bytes
zone-length n zones e = by (eqb n.edition 2)
  where
    by : (x : Bool) → 4 * length (cond x zones []) + 4 * length (cond x (zones_from n ∷ []) []) ≡ cond x (4 * n.cells + 4) 0
    by true = omega (arith, e)
    by false = refl

-- ---- the parts

module _ (c : Contents) (s : Sized c) where
  unfoldable pub a : List ℕ
  a = all_bytes 8 c.points

  unfoldable pub b : List ℕ
  b = all_bytes 4 c.words

  unfoldable pub v : List ℕ
  v = all_bytes 8 c.velocities

  unfoldable pub q : List ℕ
  q = all_bytes 8 c.pressures

  unfoldable pub z : List ℕ
  z = all_bytes 4 (zone_words c.counts c.zones)

  unfoldable pub o : List ℕ
  o = all_bytes 4 (offset_words c.counts)

  unfoldable pub t : List ℕ
  t = all_bytes 4 (trailer_of c.counts)

  -- where they start
  pub long-a : length a ≡ words_from c.counts
  unfolding words_from a
  long-a = length-all_bytes 8 c.points ∙ omega (arith, s.points)

  pub long-ab : length (a ++ b) ≡ field_from c.counts
  unfolding field_from words_from b
  long-ab = length-append a b ∙ omega (arith, long-a, length-all_bytes 4 c.words, s.words)

  pub long-abv : length ((a ++ b) ++ v) ≡ pressures_from c.counts
  unfolding pressures_from field_from v
  long-abv = length-append (a ++ b) v ∙ omega (arith, long-ab, length-all_bytes 8 c.velocities, s.velocities)

  pub long-abvq : length (((a ++ b) ++ v) ++ q) ≡ zones_from c.counts
  unfolding zones_from pressures_from q
  long-abvq = length-append ((a ++ b) ++ v) q ∙ omega (arith, long-abv, length-all_bytes 8 c.pressures, s.pressures)

  long-zo : length z + length o ≡ zone_bytes c.counts
  unfolding z o
  long-zo =
      omega (arith, length-all_bytes 4 (zone_words c.counts c.zones), length-all_bytes 4 (offset_words c.counts), zone-length c.counts c.zones s.zones)

  long-all : length (((((a ++ b) ++ v) ++ q) ++ z) ++ o) ≡ trailer_from c.counts
  unfolding trailer_from
  long-all =
      length-append ((((a ++ b) ++ v) ++ q) ++ z) o
      ∙ omega (arith, length-append (((a ++ b) ++ v) ++ q) z, long-abvq, long-zo)

  long-t : length t ≡ 32
  unfolding t trailer_of
  long-t = length-all_bytes 4 (trailer_of c.counts)

  -- the file from each of them on
  pub from-b : file_of c ≡ a ++ (b ++ (v ++ (q ++ (z ++ (o ++ t)))))
  unfolding file_of front_of a b v q z o t
  from-b = simp append_assoc

  pub from-v : file_of c ≡ (a ++ b) ++ (v ++ (q ++ (z ++ (o ++ t))))
  from-v = from-b ∙ sym (append_assoc a b (v ++ (q ++ (z ++ (o ++ t)))))

  pub from-q : file_of c ≡ ((a ++ b) ++ v) ++ (q ++ (z ++ (o ++ t)))
  from-q = from-v ∙ sym (append_assoc (a ++ b) v (q ++ (z ++ (o ++ t))))

  pub from-z : file_of c ≡ (((a ++ b) ++ v) ++ q) ++ (z ++ (o ++ t))
  from-z = from-q ∙ sym (append_assoc ((a ++ b) ++ v) q (z ++ (o ++ t)))

  from-o : file_of c ≡ ((((a ++ b) ++ v) ++ q) ++ z) ++ (o ++ t)
  from-o = from-z ∙ sym (append_assoc (((a ++ b) ++ v) ++ q) z (o ++ t))

  from-t : file_of c ≡ (((((a ++ b) ++ v) ++ q) ++ z) ++ o) ++ t
  from-t = from-o ∙ sym (append_assoc ((((a ++ b) ++ v) ++ q) ++ z) o t)

  pub length-file_of : length (file_of c) ≡ trailer_from c.counts + 32
  length-file_of = ap length from-t ∙ length-append (((((a ++ b) ++ v) ++ q) ++ z) ++ o) t ∙ omega (arith, long-all, long-t)

  -- ---- the trailer

  trailer-read : read_all (le32 (file_of c)) 4 8 (trailer_from c.counts) ≡ trailer_of c.counts
  unfolding t trailer_of
  trailer-read =
      let e : file_of c ≡ (((((a ++ b) ++ v) ++ q) ++ z) ++ o) ++ (t ++ []) = from-t ∙ rw (append-nil t) in
      rw (e, ← long-all)
      (back 4 4294967296 le32 reads-words (((((a ++ b) ++ v) ++ q) ++ z) ++ o) [] (trailer_of c.counts) (small-trailer c.counts s.counts))

  trailer-word : (k : ℕ) → k < 8 → trailer_word (file_of c) k ≡ get_or (trailer_of c.counts) k 0
  unfolding trailer_word
  trailer-word k h =
      let e : length (file_of c) - 32 + 4 * k ≡ trailer_from c.counts + 4 * k = omega (arith, length-file_of) in
      rw e (sym (get_or-read_all (le32 (file_of c)) 4 8 (trailer_from c.counts) k 0 h) ∙ ap (λ l. get_or l k 0) trailer-read)

  pub counts-back : counts_of (file_of c) ≡ c.counts
  unfolding counts_of trailer_of
  counts-back =
      let w = says c.counts s.counts in
      rw (trailer-word 0 (omega arith), trailer-word 1 (omega arith), trailer-word 2 (omega arith), trailer-word 3 (omega arith), w.dimension, w.edition)

  -- the offset of the zones
  offset_read : c.counts.edition ≡ 2 → le32 (file_of c) (length (file_of c) - 36) ≡ zones_from c.counts
  unfolding o offset_words read_all
  offset_read two =
      let e : offset_words c.counts ≡ zones_from c.counts ∷ [] = rw (eq-eqb c.counts.edition 2 two) in
      let k : length (offset_words c.counts) ≡ 1 = ap length e in
      let at : length (file_of c) - 36 ≡ length ((((a ++ b) ++ v) ++ q) ++ z) =
      omega (arith, length-file_of, long-all, length-append ((((a ++ b) ++ v) ++ q) ++ z) o, length-all_bytes 4 (offset_words c.counts)) in
      let r = back 4 4294967296 le32 reads-words ((((a ++ b) ++ v) ++ q) ++ z) t (offset_words c.counts) (small-offset c.counts s.counts) in
      let g : read_all (le32 (file_of c)) 4 1 (length ((((a ++ b) ++ v) ++ q) ++ z)) ≡ offset_words c.counts = rw from-o (rw k at r) in
      rw at (ap (λ l. get_or l 0 0) (g ∙ e))

  long-36 : c.counts.edition ≡ 2 → 36 ≤ length (file_of c)
  unfolding trailer_from
  long-36 two = omega (arith, length-file_of, zones-some c.counts two)

  has-zones : has_zones (file_of c) c.counts ≡ true
  unfolding has_zones
  has-zones = by (eqb c.counts.edition 2) refl
    where
      by : (x : Bool) → eqb c.counts.edition 2 ≡ x →
          cond x (leb 36 (length (file_of c)) && eqb (le32 (file_of c) (length (file_of c) - 36)) (zones_from c.counts)) true ≡ true
      by false f = refl
      by true f =
          let two = eqb-true c.counts.edition 2 f in
          rw (le-leb 36 (length (file_of c)) (long-36 two), offset_read two, eq-eqb (zones_from c.counts) (zones_from c.counts) refl)

  pub right-trailer : trailer_right (file_of c) ≡ true
  unfolding trailer_right has_parts has_offsets trailer_of
  right-trailer =
      let n = c.counts in
      let w4 : trailer_word (file_of c) 4 ≡ 0 = trailer-word 4 (omega arith) in
      let w5 : trailer_word (file_of c) 5 ≡ words_from n = trailer-word 5 (omega arith) in
      let w6 : trailer_word (file_of c) 6 ≡ field_from n = trailer-word 6 (omega arith) in
      let w7 : trailer_word (file_of c) 7 ≡ pressures_from n = trailer-word 7 (omega arith) in
      rw (counts-back, s.counts.dimension, w4, w5, w6, w7, has-zones, length-file_of, le-leb 32 (trailer_from n + 32) (omega arith), eq-eqb (words_from n) (words_from n) refl, eq-eqb (field_from n) (field_from n) refl, eq-eqb (pressures_from n) (pressures_from n) refl, eq-eqb (trailer_from n + 32) (trailer_from n + 32) refl)
