-- The contracts of the writer, of the converter and of their parts.
-- `holding`: contents from a writer's arguments. `zones_checked`: 45 and 46.
-- `end_bytes`, `end_from`: the offset of the zones and the trailer, and where they start. `PutFieldsEntry`, `PutEndEntry`, `CopyEntry`, `PutCopyEntry`: what the stores need.
-- `FileExit`: what is left where nothing is refused but 47.
use Rattle.std.specs.Prelude.{ℕ, ◌+◌, ◌*◌, ◌≤◌, ◌≡◌, true, cond, not, ◌&&◌, List, ◌++◌, eqb, ltb, length, Ok}
use Rattle.arith.specs.Lists.{all_of}
use Rattle.arith_bytes.specs.Stored.{all_bytes}
use Rattle.reading.specs.Result.{Refusable, ◌>>=◌, refuse}
use Rattle.case_file.specs.declared.Counts.{Counts}
use Rattle.case_file.specs.Trailer.{zones_from, trailer_from, opened}
use Rattle.case_file.specs.Field.{is_at_most}
use Rattle.case_survey.specs.Survey.{CaseSurvey, survey_of}
use Rattle.case_contents.specs.Contents.{Contents, trailer_of, offset_words, file_of}
use Rattle.case_contents.specs.Refusals.{is_edition}
use Rattle.case_contents.specs.Accepted.{SizedCounts, Sized}
use Rattle.case_contents.specs.Promise.{output_after}
use Rattle.refusal.specs.declared.Refusal.TheVariants.{ZoneTooLarge, ZonesLost, ShortOutput}

-- contents from counts and parts
abbrev pub holding : Counts → List ℕ → List ℕ → List ℕ → List ℕ → List ℕ → Contents
holding n points words velocities pressures zones =
    record { counts = n; points = points; words = words; velocities = velocities; pressures = pressures; zones = zones }

-- refusals 45 and 46, of the zones in an edition
unfoldable pub zones_checked : ℕ → List ℕ → Refusable (Unit {0})
zones_checked e zones =
    refuse ZoneTooLarge (not (all_of (is_at_most 255) zones)) >>= λ _. refuse ZonesLost (eqb e 1 && not (all_of (is_at_most 0) zones))

-- the offset of the zones in edition 2, and the trailer
unfoldable pub end_bytes : Counts → List ℕ
end_bytes n = all_bytes 4 (offset_words n) ++ all_bytes 4 (trailer_of n)

-- where they start: after the zones in edition 2, and after the pressures in edition 1
unfoldable pub end_from : Counts → ℕ
end_from n = cond (eqb n.edition 2) (zones_from n + 4 * n.cells) (zones_from n)

-- parts of the right sizes, and room for those that both editions have
pub record PutFieldsEntry (c : Contents) (room : ℕ) : Type 0 where
  pub sized : Sized c
  pub fits : zones_from c.counts ≤ room

-- counts of a file, and room for it
pub record PutEndEntry (n : Counts) (room : ℕ) : Type 0 where
  pub sized : SizedCounts n
  pub fits : trailer_from n + 32 ≤ room

-- a case with counts n, and counts of the file that is made of it, which differ in the edition alone, and room for that file
pub record CopyEntry (case : List ℕ) (n to : Counts) (room : ℕ) : Type 0 where
  pub opens : opened case ≡ Ok n
  pub end : PutEndEntry to room
  pub points : to.points ≡ n.points
  pub words : to.words ≡ n.words
  pub cells : to.cells ≡ n.cells

-- a case that is accepted, with counts n, and an edition
pub record PutCopyEntry (case : List ℕ) (n : Counts) (e : ℕ) : Type 0 where
  pub opens : opened case ≡ Ok n
  pub survey : CaseSurvey
  pub accepted : survey_of case ≡ Ok survey
  pub edition : is_edition e ≡ true

-- the file of contents of which nothing was refused before 47
pub record FileExit (c : Contents) (before after : List ℕ) (r : Refusable ℕ) : Type 0 where
  pub answer : r ≡ (refuse ShortOutput (ltb (length before) (length (file_of c))) >>= λ _. Ok (length (file_of c)))
  pub output : after ≡ output_after r (file_of c) before
