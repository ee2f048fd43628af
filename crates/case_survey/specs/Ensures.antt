-- The contract of `survey`: `SurveyExit`.
use Rattle.std.specs.Prelude.{ℕ, ◌≡◌, true, List, Ok, Err}
use Rattle.case_definitions.specs.Faces.{Definition, faces_counted}
use Rattle.case_definitions.specs.Definitions.{definitions}
use Rattle.case_file.specs.Trailer.{opened, words_of}
use Rattle.case_file.specs.Field.{zones_within}
use Rattle.case_file.specs.declared.Counts.{Counts}
use Rattle.case_survey.specs.Survey.{survey_of}
use Rattle.refusal.specs.declared.Refusal.{Refusal}
use Rattle.reading.specs.Result.{Refusable}

-- a case with its counts and the number of faces of all its definitions, or the refusal
pub data SurveyExit (file : List ℕ) : Refusable (Counts × ℕ) → Type 0 where
  surveyed : {n : Counts} {ds : List Definition} {f : ℕ} → opened file ≡ Ok n → definitions n.cells (words_of file n) ≡ Ok ds → zones_within file ≡ true → f ≡ faces_counted ds → SurveyExit file (Ok (n, f))
  refusing : {k : Refusal} → survey_of file ≡ Err k → SurveyExit file (Err k)
