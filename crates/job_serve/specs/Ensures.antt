-- What a refused request leaves among the answer words: code 5 writes its polygons while it reads them.
use Rattle.std.specs.Prelude.{ℕ, List}
use Rattle.reading.specs.declared.Values.{Values}
use Rattle.planes_sections.specs.Intersect.{intersect}
use Rattle.planes.specs.Ensures.{left_by}
use Rattle.job_requests.specs.declared.Request.{Request}
use Rattle.job_requests.specs.declared.Request.TheVariants.{Refused, Locate, Velocity, Streamline, Rake, Section, Statistics, Integrals, Probe}
use Rattle.job_room.specs.Room.{Room, flat, solid}

-- the polygons that code 5 wrote before its refusal; the others write nothing
unfoldable pub left_under : Room → Request → (ℕ → Values) → List ℕ → List ℕ
left_under (flat f) q v o = o
left_under (solid m) (Refused n) v o = o
left_under (solid m) (Locate p search) v o = o
left_under (solid m) (Velocity p search) v o = o
left_under (solid m) (Streamline p s style search) v o = o
left_under (solid m) (Rake r s search) v o = o
left_under (solid m) (Section s) v o = left_by v (intersect m s) o
left_under (solid m) (Statistics s field) v o = o
left_under (solid m) (Integrals s) v o = o
left_under (solid m) (Probe s p) v o = o
