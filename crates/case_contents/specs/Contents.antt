-- What a case file holds, and the file that holds it (02, Q-6): "From dimension, counts, points, words, fields and zones the writer makes either edition".
-- `Contents`, `in_edition`: what a file holds, and the same in an edition. `contents_of`: what a reader finds.
-- `dimension_word`, `trailer_of`, `zone_words`, `offset_words`, `front_of`, `file_of`: the file.
use Rattle.std.specs.Prelude.{ℕ, ◌+◌, ◌*◌, cond, List, [], ◌∷◌, ◌++◌, eqb}
use Rattle.arith.specs.Bytes.{le64, read_all}
use Rattle.arith_bytes.specs.Stored.{all_bytes}
use Rattle.case_file.specs.declared.Counts.{Counts}
use Rattle.case_file.specs.Trailer.{counts_of, words_from, field_from, pressures_from, zones_from, words_of}
use Rattle.case_file.specs.Field.{zones_of}

-- the dimension, the counts and the edition, then the parts; floats are their 64 bits
pub record Contents : Type 0 where
  pub counts : Counts
  pub points : List ℕ
  pub words : List ℕ
  pub velocities : List ℕ
  pub pressures : List ℕ
  pub zones : List ℕ

-- counts in edition e
unfoldable pub with_edition : ℕ → Counts → Counts
with_edition e n = record { dimension = n.dimension; points = n.points; words = n.words; cells = n.cells; edition = e }

-- contents in edition e, "other contents kept"
unfoldable pub in_edition : ℕ → Contents → Contents
in_edition e c =
    record {
      counts = with_edition e c.counts;
      points = c.points;
      words = c.words;
      velocities = c.velocities;
      pressures = c.pressures;
      zones = c.zones;
    }

-- what a reader finds in a file: its counts, words and zones, and its points, velocities and pressures "by their bits"
unfoldable pub contents_of : List ℕ → Contents
contents_of file =
    let n = counts_of file in
    record {
      counts = n;
      points = read_all (le64 file) 8 (3 * n.points) 0;
      words = words_of file n;
      velocities = read_all (le64 file) 8 (3 * n.cells) (field_from n);
      pressures = read_all (le64 file) 8 n.cells (pressures_from n);
      zones = zones_of file;
    }

-- ---- the file

-- "u32 dimension (2 or 3)"; "Edition 2 has dimension word 102 or 103"
unfoldable pub dimension_word : Counts → ℕ
dimension_word n = cond (eqb n.edition 2) (n.dimension + 100) n.dimension

-- "u32 dimension (2 or 3), point count P, word count W, cell count C, then the offsets of the four parts: 0, 24P, 24P+4W, 24P+4W+24C"
unfoldable pub trailer_of : Counts → List ℕ
trailer_of n = dimension_word n ∷ n.points ∷ n.words ∷ n.cells ∷ 0 ∷ words_from n ∷ field_from n ∷ pressures_from n ∷ []

-- in edition 2 "a u32 zone per cell after the pressures"
unfoldable pub zone_words : Counts → List ℕ → List ℕ
zone_words n zones = cond (eqb n.edition 2) zones []

-- "and the zone part's offset, 24P+4W+32C, in the four bytes before the trailer"
unfoldable pub offset_words : Counts → List ℕ
offset_words n = cond (eqb n.edition 2) (zones_from n ∷ []) []

-- "points (3 floats each), definition words (u32), velocities (3 floats per cell), pressures (one per cell)", which both editions have
unfoldable pub front_of : Contents → List ℕ
front_of c = all_bytes 8 c.points ++ (all_bytes 4 c.words ++ (all_bytes 8 c.velocities ++ all_bytes 8 c.pressures))

-- "then a 32-byte trailer"; "has no gaps"
unfoldable pub file_of : Contents → List ℕ
file_of c =
    front_of c
    ++ (all_bytes 4 (zone_words c.counts c.zones) ++ (all_bytes 4 (offset_words c.counts) ++ all_bytes 4 (trailer_of c.counts)))
