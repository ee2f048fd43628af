-- The words of one request, for each code. "Request: 16 words of 8 bytes, the code first, then the arguments; words not used are zero."
-- `padded`: all 16 words. `direction_word`, `line_words`: the settings of a line. `plane_words`: a plane.
-- `code_by`: codes 1 to 4, or 9 to 12. `sheet_code`: 13, or 14.
-- `locate_words`, `velocity_words`, `streamline_words`, `rake_words`: codes 1 to 4, or 9 to 12. `one_line_words`: a line by its code. `sheet_words`: code 13, or 14.
-- `section_words`, `statistics_words`, `integrals_words`, `probe_words`: codes 5 to 8.
use Rattle.std.specs.Prelude.{ℕ, ◌+◌, ◌-◌, List, [], ◌∷◌, ◌++◌, length, replicate}
use Rattle.arith.specs.F64.{word}
use Rattle.arith.specs.declared.Vec3.{Vec3}
use Rattle.lines_locate.specs.declared.Search.{Search}
use Rattle.lines_locate.specs.declared.Search.TheVariants.{Bins, All}
use Rattle.lines.specs.declared.Rake.{Rake}
use Rattle.lines.specs.declared.StreamlineDirection.{StreamlineDirection}
use Rattle.lines.specs.declared.StreamlineDirection.TheVariants.{Forward, Backward}
use Rattle.lines.specs.declared.StreamlineSettings.{StreamlineSettings}
use Rattle.planes_cut.specs.declared.Plane.{Plane}
use Rattle.answers.specs.Words.{vec_words}

-- "words not used are zero"
unfoldable pub padded : List ℕ → List ℕ
padded ws = ws ++ replicate (16 - length ws) 0

-- "Codes 9 to 12 do what 1 to 4 do": the code by a search
unfoldable pub code_by : Search → ℕ → ℕ
code_by Bins code = code
code_by All code = code + 8

-- "Code 14 is code 13's sheet over code 11's line."
unfoldable pub sheet_code : Search → ℕ
sheet_code Bins = 13
sheet_code All = 14

-- "direction (0 forward, 1 backward)"
unfoldable pub direction_word : StreamlineDirection → ℕ
direction_word Forward = 0
direction_word Backward = 1

-- "direction .., step_size, max_steps, max_length, stagnation_speed"
unfoldable pub line_words : StreamlineSettings → List ℕ
line_words s =
    direction_word s.direction
    ∷ word s.options.step_size
    ∷ s.options.max_steps
    ∷ word s.options.max_length
    ∷ word s.options.stagnation_speed
    ∷ []

-- "origin, u, v"
unfoldable pub plane_words : Plane → List ℕ
plane_words s = vec_words s.origin ++ (vec_words s.u ++ vec_words s.v)

-- "1 locate, 2 velocity: point."; here 1, or 9
unfoldable pub locate_words : Vec3 → Search → List ℕ
locate_words p search = padded (code_by search 1 ∷ vec_words p)

-- here 2, or 10
unfoldable pub velocity_words : Vec3 → Search → List ℕ
velocity_words p search = padded (code_by search 2 ∷ vec_words p)

-- one line, by a code: "seed, direction .."
unfoldable pub one_line_words : ℕ → Vec3 → StreamlineSettings → List ℕ
one_line_words code seed s = padded (code ∷ (vec_words seed ++ line_words s))

-- "3 streamline", or 11
abbrev pub streamline_words : Vec3 → StreamlineSettings → Search → List ℕ
streamline_words seed s search = one_line_words (code_by search 3) seed s

-- "Code 13 takes a streamline's arguments", and so does 14
abbrev pub sheet_words : Vec3 → StreamlineSettings → Search → List ℕ
sheet_words seed s search = one_line_words (sheet_code search) seed s

-- "4 rake: start, end, seed count, then as 3 from direction on.", or 12
unfoldable pub rake_words : Rake → StreamlineSettings → Search → List ℕ
rake_words r s search = padded (code_by search 4 ∷ (vec_words r.start ++ (vec_words r.end ++ r.count ∷ line_words s)))

-- "5 section: origin, u, v."
unfoldable pub section_words : Plane → List ℕ
section_words s = padded (5 ∷ plane_words s)

-- "6 statistics: the same, field."
unfoldable pub statistics_words : Plane → ℕ → List ℕ
statistics_words s field = padded (6 ∷ (plane_words s ++ field ∷ []))

-- "7 integrals: as 5."
unfoldable pub integrals_words : Plane → List ℕ
integrals_words s = padded (7 ∷ plane_words s)

-- "8 probe: as 5, then a point."
unfoldable pub probe_words : Plane → Vec3 → List ℕ
probe_words s p = padded (8 ∷ (plane_words s ++ vec_words p))
