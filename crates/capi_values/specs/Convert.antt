-- The values of the exported functions as those of the crates below.
-- `vector_of`, `plane_of`: a vector, a plane. `direction_of`, `options_of`, `settings_of`: the settings of a line. `rake_of`: a rake.
-- `search_of`: which cells a point is looked for in. `counts_from`, `file_told`: the counts of a case file, and what is told of one that was written.
use Rattle.std.specs.Prelude.{ℕ, Bool, true, false, Ok, Err}
use Rattle.arith.specs.declared.Vec3.{Vec3}
use Rattle.reading.specs.Result.{Refusable}
use Rattle.case_file.specs.declared.Counts.{Counts}
use Rattle.lines_step.specs.declared.StreamlineOptions.{StreamlineOptions}
use Rattle.lines.specs.declared.StreamlineDirection.{StreamlineDirection}
use Rattle.lines.specs.declared.StreamlineDirection.TheVariants.{Forward, Backward}
use Rattle.lines.specs.declared.StreamlineSettings.{StreamlineSettings}
use Rattle.lines.specs.declared.Rake.{Rake}
use Rattle.lines_locate.specs.declared.Search.{Search}
use Rattle.lines_locate.specs.declared.Search.TheVariants.{Bins, All}
use Rattle.planes_cut.specs.declared.Plane.{Plane}
use Rattle.capi_values.specs.declared.Vector.{Vector}
use Rattle.capi_values.specs.declared.SectionPlane.{SectionPlane}
use Rattle.capi_values.specs.declared.LineOptions.{LineOptions}
use Rattle.capi_values.specs.declared.CaseCounts.{CaseCounts}
use Rattle.capi_values.specs.declared.WrittenFile.{WrittenFile}
use Rattle.refusal.specs.Number.{number}

-- a vector
unfoldable pub vector_of : Vector → Vec3
vector_of p = record { x = p.x; y = p.y; z = p.z }

-- a plane by its origin and axes
unfoldable pub plane_of : SectionPlane → Plane
plane_of s = record { origin = vector_of s.origin; u = vector_of s.u; v = vector_of s.v }

-- backward, or forward
unfoldable pub direction_of : Bool → StreamlineDirection
direction_of true = Backward
direction_of false = Forward

-- the options of a line
unfoldable pub options_of : LineOptions → StreamlineOptions
options_of o =
    record {
      step_size = o.step_size;
      max_steps = o.max_steps;
      max_length = o.max_length;
      stagnation_speed = o.stagnation_speed;
    }

-- its direction and its options
unfoldable pub settings_of : Bool → LineOptions → StreamlineSettings
settings_of backward o = record { direction = direction_of backward; options = options_of o }

-- a rake by its two ends and its number of seeds
unfoldable pub rake_of : Vector → Vector → ℕ → Rake
rake_of start end count = record { start = vector_of start; end = vector_of end; count = count }

-- all cells, or those that are listed in the point's bin
unfoldable pub search_of : Bool → Search
search_of true = All
search_of false = Bins

-- the counts of a case file
unfoldable pub counts_from : CaseCounts → Counts
counts_from n = record { dimension = n.dimension; points = n.points; words = n.words; cells = n.cells; edition = n.edition }

-- 0 and the file's length, or the refusal and 0
unfoldable pub file_told : Refusable ℕ → WrittenFile
file_told (Ok n) = record { refusal = 0; length = n }
file_told (Err k) = record { refusal = number k; length = 0 }
