-- The mesh of a case that was surveyed, and of a case alone.
-- `area_short`: refusal 4. `mesh_of`: 8 to 17. `case_faces`: F. `mesh_from`: a case alone.
use Rattle.std.specs.Prelude.{ℕ, ◌+◌, ◌*◌, Bool, ◌||◌, List, ltb, Ok, Err}
use Rattle.reading.specs.Result.{Refusable, ◌>>=◌, refuse}
use Rattle.case_definitions.specs.Faces.{faces_counted}
use Rattle.case_survey.specs.Survey.{CaseSurvey, survey_of}
use Rattle.mesh_area.specs.Tables.{Mesh}
use Rattle.mesh_area.specs.Layout.{points_in}
use Rattle.mesh.specs.Mesh.{from_cells}
use Rattle.refusal.specs.declared.Refusal.TheVariants.{ShortWorkArea}

-- refusal 4: "work area under 16F+96C words or 12F+64C floats"
unfoldable pub area_short : CaseSurvey → ℕ → ℕ → Bool
area_short c words floats =
    let f = faces_counted c.definitions in
    ltb words (16 * f + 96 * c.counts.cells) || ltb floats (12 * f + 64 * c.counts.cells)

-- refusals 8 to 17, or the mesh
unfoldable pub mesh_of : List ℕ → CaseSurvey → Refusable Mesh
mesh_of file c = from_cells c.counts.dimension (points_in file c.counts.points) c.definitions

-- F of a case, "the faces of all definitions counted singly"
unfoldable pub case_faces : Refusable CaseSurvey → ℕ
case_faces (Err k) = 0
case_faces (Ok c) = faces_counted c.definitions

-- a case alone: refusals 1 to 3, 45 and 4, then 8 to 17
unfoldable pub mesh_from : List ℕ → ℕ → ℕ → Refusable Mesh
mesh_from file words floats = survey_of file >>= λ c. refuse ShortWorkArea (area_short c words floats) >>= λ _. mesh_of file c
