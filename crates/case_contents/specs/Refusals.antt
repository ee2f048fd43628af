-- What the case writer and the edition converter refuse, and how long a file they make (02, Q-6).
-- `is_edition`, `long_as`, `parts_right`, `well_formed`: a writer's 1. `loses_zones`: 46. `writable`: 1, 2, 3, 45 and 46. `written`: then 47, or the length.
-- `converted`: the same of a converter.
use Rattle.std.specs.Prelude.{ℕ, ◌*◌, Bool, not, ◌&&◌, ◌||◌, List, eqb, ltb, length, Ok}
use Rattle.arith.specs.Lists.{all_of}
use Rattle.reading.specs.Result.{Refusable, ◌>>=◌, refuse}
use Rattle.case_file.specs.declared.Counts.{Counts}
use Rattle.case_file.specs.Trailer.{counts_of, is_dimension, over_limit}
use Rattle.case_file.specs.Field.{is_at_most}
use Rattle.case_definitions.specs.Definitions.{definitions}
use Rattle.case_survey.specs.Survey.{survey_of}
use Rattle.case_contents.specs.Contents.{Contents, in_edition, contents_of, file_of}
use Rattle.refusal.specs.declared.Refusal.TheVariants.{WrongTrailer, CountOverLimit, ZoneTooLarge, ZonesLost, ShortOutput}

-- no "edition not 1 or 2"
unfoldable pub is_edition : ℕ → Bool
is_edition e = eqb e 1 || eqb e 2

-- no "part not as long as its count says", of parts that have so many numbers
unfoldable pub long_as : Counts → ℕ → ℕ → ℕ → ℕ → ℕ → Bool
long_as n points words velocities pressures zones =
    eqb points (3 * n.points)
    && eqb words n.words
    && eqb velocities (3 * n.cells)
    && eqb pressures n.cells
    && eqb zones n.cells

unfoldable pub parts_right : Contents → Bool
parts_right c = long_as c.counts (length c.points) (length c.words) (length c.velocities) (length c.pressures) (length c.zones)

-- no "writer's dimension not 2 or 3, a part not as long as its count says, an edition not 1 or 2"
unfoldable pub well_formed : Contents → Bool
well_formed c = is_dimension c.counts.dimension && is_edition c.counts.edition && parts_right c

-- 46: "conversion to edition 1, or writing it, with a nonzero zone"
unfoldable pub loses_zones : Contents → Bool
loses_zones c = eqb c.counts.edition 1 && not (all_of (is_at_most 0) c.zones)

-- "Malformed parts get 1, 2, 3 or, in either edition, 45 as a reader would"; 46 "after those"
unfoldable pub writable : Contents → Refusable (Unit {0})
writable c =
    refuse WrongTrailer (not (well_formed c)) >>= λ _.
    refuse CountOverLimit (over_limit c.counts) >>= λ _.
    definitions c.counts.cells c.words >>= λ _.
    refuse ZoneTooLarge (not (all_of (is_at_most 255) c.zones)) >>= λ _.
    refuse ZonesLost (loses_zones c)

-- "47: output buffer too short, last"; or the file's length
unfoldable pub written : Contents → ℕ → Refusable ℕ
written c room = writable c >>= λ _. refuse ShortOutput (ltb room (length (file_of c))) >>= λ _. Ok (length (file_of c))

-- a converter to edition e: "an edition not 1 or 2, or a converter's file of the other edition, gets 1"; then 1, 2, 3 and 45 "as a reader would", and
-- what is read is written in edition e
unfoldable pub converted : ℕ → List ℕ → ℕ → Refusable ℕ
converted e file room =
    refuse WrongTrailer (not (is_edition e) || eqb (counts_of file).edition e) >>= λ _.
    survey_of file >>= λ _.
    written (in_edition e (contents_of file)) room
