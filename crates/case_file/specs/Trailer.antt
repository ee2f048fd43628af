-- "Case file: points (3 floats each), definition words (u32), velocities (3 floats per cell), pressures (one per cell), then a 32-byte trailer that
-- points back". 02 adds edition 2: "dimension word 102 or 103, a u32 zone per cell after the pressures, and the zone part's offset, 24P+4W+32C, in
-- the four bytes before the trailer"; "both are read".
-- `trailer_word`, `edition_of`, `dimension_of`, `counts_of`: a word of the trailer, and its counts.
-- `words_from`, `field_from`, `pressures_from`, `zones_from`, `zone_bytes`, `trailer_from`: where the parts of the file start.
-- `is_dimension`, `has_offsets`, `has_zones`, `has_parts`, `trailer_right`: refusal 1. `over_limit`: refusal 2. `opened`: the counts, or the refusal.
-- `words_in`, `words_of`: the definition words.
use Rattle.std.specs.Prelude.{ℕ, ◌+◌, ◌-◌, ◌*◌, ◌/◌, Bool, true, cond, ◌&&◌, ◌||◌, List, leb, ltb, eqb, length, Ok, Err}
use Rattle.arith.specs.Limits.{most_points, most_cells, most_words}
use Rattle.arith.specs.Bytes.{le32, read_all}
use Rattle.reading.specs.Result.{Refusable}
use Rattle.case_file.specs.declared.Counts.{Counts}
use Rattle.refusal.specs.declared.Refusal.TheVariants.{WrongTrailer, CountOverLimit}

-- word k of the trailer
unfoldable pub trailer_word : List ℕ → ℕ → ℕ
trailer_word file k = le32 file (length file - 32 + 4 * k)

-- "Edition 2 has dimension word 102 or 103"; with any other word a file is of edition 1
unfoldable pub edition_of : ℕ → ℕ
edition_of w = cond (eqb w 102 || eqb w 103) 2 1

-- the dimension that the word says, in either edition
unfoldable pub dimension_of : ℕ → ℕ
dimension_of w = cond (eqb w 102) 2 (cond (eqb w 103) 3 w)

-- "u32 dimension (2 or 3), point count P, word count W, cell count C", and the edition
unfoldable pub counts_of : List ℕ → Counts
counts_of file =
    record {
      dimension = dimension_of (trailer_word file 0);
      points = trailer_word file 1;
      words = trailer_word file 2;
      cells = trailer_word file 3;
      edition = edition_of (trailer_word file 0);
    }

-- "then the offsets of the four parts: 0, 24P, 24P+4W, 24P+4W+24C"; here where the definition words start
unfoldable pub words_from : Counts → ℕ
words_from n = 24 * n.points

-- where the velocities start
unfoldable pub field_from : Counts → ℕ
field_from n = 24 * n.points + 4 * n.words

-- where the pressures start
unfoldable pub pressures_from : Counts → ℕ
pressures_from n = 24 * n.points + 4 * n.words + 24 * n.cells

-- where the zones start, in edition 2: "24P+4W+32C"
unfoldable pub zones_from : Counts → ℕ
zones_from n = 24 * n.points + 4 * n.words + 32 * n.cells

-- how long they are with their offset: "a u32 zone per cell", and "the four bytes before the trailer"; edition 1 has neither
unfoldable pub zone_bytes : Counts → ℕ
zone_bytes n = cond (eqb n.edition 2) (4 * n.cells + 4) 0

-- "The file ends with the trailer and has no gaps."
unfoldable pub trailer_from : Counts → ℕ
trailer_from n = zones_from n + zone_bytes n

-- "dimension (2 or 3)"
unfoldable pub is_dimension : ℕ → Bool
is_dimension d = eqb d 2 || eqb d 3

-- no "offset .. not as above, summed exactly"
unfoldable pub has_offsets : List ℕ → Counts → Bool
has_offsets file n =
    eqb (trailer_word file 4) 0
    && eqb (trailer_word file 5) (words_from n)
    && eqb (trailer_word file 6) (field_from n)
    && eqb (trailer_word file 7) (pressures_from n)

-- "in edition 2 another offset, or a file under 36 bytes, gives 1"
unfoldable pub has_zones : List ℕ → Counts → Bool
has_zones file n = cond (eqb n.edition 2) (leb 36 (length file) && eqb (le32 file (length file - 36)) (zones_from n)) true

-- nor "the file's length not as above"
unfoldable pub has_parts : List ℕ → Counts → Bool
has_parts file n = has_offsets file n && has_zones file n && eqb (length file) (trailer_from n + 32)

-- refusal 1 is not due: no "file under 32 bytes, dimension not 2 or 3, an offset or the file's length not as above, summed exactly"
unfoldable pub trailer_right : List ℕ → Bool
trailer_right file = leb 32 (length file) && is_dimension (counts_of file).dimension && has_parts file (counts_of file)

-- refusal 2, "count over its limit": "At most 65,536 points, 16,384 cells, 1,048,576 words."
unfoldable pub over_limit : Counts → Bool
over_limit n = ltb most_points n.points || ltb most_cells n.cells || ltb most_words n.words

-- refusals 1 and 2, in rising order
unfoldable pub opened : List ℕ → Refusable Counts
opened file = cond (trailer_right file) (cond (over_limit (counts_of file)) (Err CountOverLimit) (Ok (counts_of file))) (Err WrongTrailer)

-- what each case of the answer stands for

-- "definition words (u32)": all of some bytes
unfoldable pub words_in : List ℕ → List ℕ
words_in bytes = read_all (le32 bytes) 4 (length bytes / 4) 0

-- those of a case
unfoldable pub words_of : List ℕ → Counts → List ℕ
words_of file n = read_all (le32 file) 4 n.words (words_from n)
