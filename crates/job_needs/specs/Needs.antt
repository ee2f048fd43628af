-- How much a case needs: "4 work area under 16F+96C words or 12F+64C floats, F being the faces of all definitions counted singly"; "5 marks shorter than C".
use Rattle.std.specs.Prelude.{ℕ, ◌+◌, ◌*◌, cond, List, ltb, length, set, Ok, Err}
use Rattle.reading.specs.Result.{Refusable}
use Rattle.case_definitions.specs.Faces.{faces_counted}
use Rattle.case_survey.specs.Survey.{CaseSurvey}
use Rattle.refusal.specs.declared.Refusal.TheVariants.{TooFewPlaces}
use Rattle.reading.specs.Result.{refuse}
use Rattle.reading.specs.Result.{◌>>=◌}

-- "16F+96C words"
unfoldable pub words_needed : CaseSurvey → ℕ
words_needed c = 16 * faces_counted c.definitions + 96 * c.counts.cells

-- "12F+64C floats"
unfoldable pub floats_needed : CaseSurvey → ℕ
floats_needed c = 12 * faces_counted c.definitions + 64 * c.counts.cells

-- the refusal of the case, or 21 where there are fewer than three places; 01 has no 21
unfoldable pub needs_result : Refusable CaseSurvey → ℕ → Refusable (Unit {0})
needs_result s places = s >>= λ _. refuse TooFewPlaces (ltb places 3)

-- words, floats and marks, where there are places for the three
unfoldable pub needs_of : Refusable CaseSurvey → List ℕ → List ℕ
needs_of (Err k) l = l
needs_of (Ok c) l = cond (ltb (length l) 3) l (set (set (set l 0 (words_needed c)) 1 (floats_needed c)) 2 c.counts.cells)
