-- The answer of each code, whatever room there is for it. Refusals 34, 35 and 39 to 43.
-- `cell_word`, `located_words`, `velocity_words`: the words of codes 1 and 2, and 9 and 10. `serve_flat`, `serve_solid`, `serve`: the answers in 2D, in 3D, and in any room.
use Rattle.std.specs.Prelude.{ℕ, ◌-◌, ◌^◌, List, [], ◌∷◌, Some, None, Ok, Err}
use Rattle.reading.specs.Result.{Refusable}
use Rattle.reading.specs.Asks.{Asks, give, ◌>>=◌}
use Rattle.mesh_area.specs.Tables.{Mesh}
use Rattle.lines_polygon.specs.Contains.{position_word}
use Rattle.lines_locate.specs.declared.Located.{Located}
use Rattle.lines_locate.specs.Field.{StreamlineField, searching}
use Rattle.lines_velocity.specs.Velocity.{located_in, velocity_at}
use Rattle.lines.specs.Line.{integrate}
use Rattle.lines.specs.Rake.{integrate_rake}
use Rattle.answers.specs.Words.{vec_words}
use Rattle.answers.specs.Ensures.{decided}
use Rattle.planes.specs.Answers.{section_of, statistics_of, integrals_of, probe_of}
use Rattle.job_requests.specs.declared.Request.{Request}
use Rattle.job_requests.specs.declared.Request.TheVariants.{Refused, Locate, Velocity, Streamline, Rake, Section, Statistics, Integrals, Probe}
use Rattle.job_room.specs.Room.{Room, flat, solid}
use Rattle.std.specs.declared.option.Option.{Option}
use Rattle.refusal.specs.declared.Refusal.TheVariants.{OtherDimension}
use Rattle.arith.specs.declared.Vec3.{Vec3}

-- "cell, or 2^64-1 for none"
unfoldable pub cell_word : Option ℕ → ℕ
cell_word (Some i) = i
cell_word None = 2 ^ 64 - 1

-- the cell, and "a second word: 0 none, 1 edge, 2 inside"
unfoldable pub located_words : Located → List ℕ
located_words l = cell_word l.cell ∷ position_word l.position ∷ []

-- "1 and the velocity, or four zeros"
unfoldable pub velocity_words : Option Vec3 → List ℕ
velocity_words (Some v) = 1 ∷ vec_words v
velocity_words None = 0 ∷ 0 ∷ 0 ∷ 0 ∷ []

-- codes 1 to 4 and 9 to 14. 31 is due before a request's arguments are looked at: `request_of` (crates/job_requests/specs/Requests.antt) refuses with it, and makes no
-- request of codes 5 to 8 over a 2D mesh. So the last four cases do not come in a job; they are here since the definition is of every request.
unfoldable pub serve_flat : StreamlineField → Request → Asks (Refusable (List ℕ))
serve_flat f (Refused n) = give (Err n)
serve_flat f (Locate p search) = give (Ok (located_words (located_in (searching search f) p)))
serve_flat f (Velocity p search) = velocity_at (searching search f) p >>= λ v. give (Ok (velocity_words v))
serve_flat f (Streamline p s style search) = decided (integrate (searching search f) p s style)
serve_flat f (Rake r s search) = decided (integrate_rake (searching search f) r s)
serve_flat f (Section s) = give (Err OtherDimension)
serve_flat f (Statistics s field) = give (Err OtherDimension)
serve_flat f (Integrals s) = give (Err OtherDimension)
serve_flat f (Probe s p) = give (Err OtherDimension)

-- codes 5 to 8; in the same way codes 1 to 4 and 9 to 14 do not come over a 3D mesh
unfoldable pub serve_solid : Mesh → Request → Asks (Refusable (List ℕ))
serve_solid m (Refused n) = give (Err n)
serve_solid m (Locate p search) = give (Err OtherDimension)
serve_solid m (Velocity p search) = give (Err OtherDimension)
serve_solid m (Streamline p s style search) = give (Err OtherDimension)
serve_solid m (Rake r s search) = give (Err OtherDimension)
serve_solid m (Section s) = section_of m s
serve_solid m (Statistics s field) = statistics_of m s field
serve_solid m (Integrals s) = integrals_of m s
serve_solid m (Probe s p) = probe_of m s p

-- each code's answer
unfoldable pub serve : Room → Request → Asks (Refusable (List ℕ))
serve (flat f) q = serve_flat f q
serve (solid m) q = serve_solid m q
