-- What a case says outside its fields: its counts and its cells' definitions.
-- `CaseSurvey`, `survey_of`: refusals 1, 2, 3 and 45.
use Rattle.std.specs.Prelude.{ℕ, not, List, Ok}
use Rattle.reading.specs.Result.{Refusable, ◌>>=◌, refuse}
use Rattle.case_definitions.specs.Faces.{Definition}
use Rattle.case_definitions.specs.Definitions.{definitions}
use Rattle.case_file.specs.Trailer.{opened, words_of}
use Rattle.case_file.specs.Field.{zones_within}
use Rattle.case_file.specs.declared.Counts.{Counts}
use Rattle.refusal.specs.declared.Refusal.TheVariants.{ZoneTooLarge}

-- the counts and the definitions of a case
pub record CaseSurvey : Type 0 where
  pub counts : Counts
  pub definitions : List Definition

-- refusals 1, 2 and 3, and 45 "a zone above 255, after 3"
unfoldable pub survey_of : List ℕ → Refusable CaseSurvey
survey_of file =
    (opened file) >>= λ n.
    definitions n.cells (words_of file n) >>= λ ds.
    refuse ZoneTooLarge (not (zones_within file)) >>= λ _.
    Ok (record { counts = n; definitions = ds })
