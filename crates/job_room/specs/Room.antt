-- The room that requests are served over, and the refusals 1 to 19 and 45.
-- `Room`: the room. `Lent`: how much is lent.
-- `room_from`, `room_of`: the room, or 8 to 19. `requests_wrong`: 6. `shortage`: 4 to 7. `prepared`: the room, or the first refusal of all.
use Rattle.std.specs.Prelude.{ℕ, ◌*◌, ◌/◌, ◌%◌, Bool, true, false, not, ◌||◌, List, ltb, eqb, Ok}
use Rattle.reading.specs.Result.{Refusable, ◌>>=◌, refuse}
use Rattle.case_file.specs.Field.{zones_of}
use Rattle.case_survey.specs.Survey.{CaseSurvey, survey_of}
use Rattle.mesh_area.specs.Tables.{Mesh}
use Rattle.mesh.specs.Case.{area_short, mesh_of}
use Rattle.lines_locate.specs.Field.{StreamlineField, zoned}
use Rattle.lines_field.specs.Field.{field_of}
use Rattle.refusal.specs.declared.Refusal.TheVariants.{ShortWorkArea, ShortMarks, WrongRequestBytes, ShortAnswers}

-- a 2D room is its field, a 3D room its mesh
pub data Room : Type 0 where
  flat : StreamlineField → Room
  solid : Mesh → Room

-- "a work area (u32 words and f64 numbers), a marks buffer (bytes) and an answer buffer (u64 words)": their lengths
pub record Lent : Type 0 where
  pub words : ℕ
  pub floats : ℕ
  pub marks : ℕ
  pub answers : ℕ

-- "in 2D only, 18 flat bounds, 19 a bin count above 65,536"; the field has the zones of its case
unfoldable pub room_from : ℕ → List ℕ → Mesh → Refusable Room
room_from dimension zones m =
    elim (eqb dimension 2) as (λ _. Refusable Room) [ true ↦ field_of m >>= λ f. Ok (flat (zoned zones f)) | false ↦ Ok (solid m) ]

-- 8 to 19
unfoldable pub room_of : List ℕ → CaseSurvey → Refusable Room
room_of file c = mesh_of file c >>= λ m. room_from c.counts.dimension (zones_of file) m

-- 6: "request bytes no multiple of 128, or over 4,096 requests"
unfoldable pub requests_wrong : ℕ → Bool
requests_wrong bytes = not (eqb (bytes % 128) 0) || ltb 524288 bytes

-- 4 "work area under ..", 5 "marks shorter than C", 6, 7 "answers under 2 words per request"
unfoldable pub shortage : CaseSurvey → ℕ → Lent → Refusable (Unit {0})
shortage c requests lent =
    refuse ShortWorkArea (area_short c lent.words lent.floats) >>= λ _.
    refuse ShortMarks (ltb lent.marks c.counts.cells) >>= λ _.
    refuse WrongRequestBytes (requests_wrong requests) >>= λ _.
    refuse ShortAnswers (ltb lent.answers (2 * (requests / 128)))

-- "Checked in rising order": 1 to 3, then 45, 4 to 7, 8 to 19, for so many request bytes
unfoldable pub prepared : List ℕ → ℕ → Lent → Refusable Room
prepared file requests lent =
    survey_of file >>= λ c.
    shortage c requests lent >>= λ _.
    room_of file c
