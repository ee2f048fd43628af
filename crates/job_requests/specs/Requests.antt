-- "Request: 16 words of 8 bytes, the code first, then the arguments; words not used are zero." Refusals 30 to 33 and 36 to 38.
-- `words_at`, `requests_in`: the words of one request, and all requests.
-- `number`, `real`, `point`: an argument as a whole number or a float, and three as a point. `refuse_if`: a refusal, where a test holds.
-- `unused_set`, `bad_direction`, `ill_formed`: refusal 30. `wrong_dimension`: refusal 31.
-- `direction`, `options`, `settings`: the settings of a line. `streamline`: codes 3, 11, 13 and 14. `rake_of`, `rake`: codes 4 and 12.
-- `over_field`: codes 1 to 4 and 9 to 12.
-- `plane_of`: the plane. `statistics`: code 6. `over_plane`, `unless`, `planar`: codes 5 to 8.
-- `search_of`, `plain_code`, `is_planar`, `by_code`, `request_of`: all codes.
use Rattle.std.specs.Prelude.{ℕ, ◌+◌, ◌-◌, ◌/◌, Bool, not, cond, ◌&&◌, ◌||◌, List, ltb, leb, eqb, length, get_or, drop, Float, Ok, Err}
use Rattle.arith.specs.Limits.{most_steps}
use Rattle.arith.specs.F64.{float}
use Rattle.arith.specs.Bytes.{le64, read_all}
use Rattle.arith.specs.Lists.{any_of}
use Rattle.arith.specs.Vec.{vec}
use Rattle.arith.specs.declared.Vec3.{Vec3}
use Rattle.lines_locate.specs.declared.Search.{Search}
use Rattle.lines_locate.specs.declared.Search.TheVariants.{Bins, All}
use Rattle.lines_step.specs.declared.StreamlineOptions.{StreamlineOptions}
use Rattle.lines.specs.declared.StreamlineDirection.{StreamlineDirection}
use Rattle.lines.specs.declared.StreamlineDirection.TheVariants.{Forward, Backward}
use Rattle.lines.specs.declared.StreamlineSettings.{StreamlineSettings}
use Rattle.lines_millimetres.specs.declared.Rounding.TheVariants.{AwayFromZero}
use Rattle.lines_words.specs.declared.Style.{Style}
use Rattle.lines_words.specs.declared.Style.TheVariants.{Points, Sheet}
use Rattle.planes_cut.specs.declared.Plane.{Plane}
use Rattle.planes_cut.specs.Plane.{validated}
use Rattle.job_requests.specs.declared.Code.{Code}
use Rattle.job_requests.specs.declared.Request.{Request}
use Rattle.job_requests.specs.declared.Request.TheVariants.{Refused, Locate, Velocity, Streamline, Rake, Section, Statistics, Integrals, Probe}
use Rattle.job_requests.specs.Codes.{is_unknown, code_of}
use Rattle.refusal.specs.declared.Refusal.{Refusal}
use Rattle.reading.specs.Result.{Refusable}
use Rattle.refusal.specs.declared.Refusal.TheVariants.{IllFormed, OtherDimension, TooFewSeeds, TooManySteps, NoSuchField}

-- the 16 words of the request at a place
unfoldable pub words_at : List ℕ → ℕ → List ℕ
words_at bytes at = read_all (le64 bytes) 8 16 at

-- the requests of the bytes, one for each 128 of them
unfoldable pub requests_in : List ℕ → List (List ℕ)
requests_in bytes = read_all (words_at bytes) 128 (length bytes / 128) 0

-- "Direction, max_steps, counts, cells and fields are unsigned whole numbers, all else floats."
unfoldable pub number : List ℕ → ℕ → ℕ
number r k = get_or r k 0

-- argument k as a float
unfoldable pub real : List ℕ → ℕ → Float
real r k = float (number r k)

-- arguments k to k + 2 as a point
unfoldable pub point : List ℕ → ℕ → Vec3
point r k = vec (real r k) (real r (k + 1)) (real r (k + 2))

-- refusal n where the test holds
unfoldable pub refuse_if : Refusal → Bool → Request → Request
refuse_if n bad r = cond bad (Refused n) r

-- ---- refusal 30: "unknown code, unused word not zero, direction above 1"

-- "unused word not zero": one behind the words that the code uses
unfoldable pub unused_set : List ℕ → Code → Bool
unused_set r c = any_of (ltb 0) (drop c.used r)

-- "direction above 1", where the code asks for lines
unfoldable pub bad_direction : List ℕ → Code → Bool
bad_direction r c = ltb 0 c.line && ltb 1 (number r c.line)

-- 30 is due
unfoldable pub ill_formed : List ℕ → Code → Bool
ill_formed r c = is_unknown c || (unused_set r c || bad_direction r c)

-- refusal 31: "codes 1 to 4 need 2D, 5 to 8 need 3D"; 9 to 14 as 1 to 4
unfoldable pub wrong_dimension : Bool → Code → Bool
wrong_dimension flat c = not (eqb c.dimension (cond flat 2 3))

-- ---- lines: from word k on stand direction, step_size, max_steps, max_length, stagnation_speed

-- "direction (0 forward, 1 backward)"
unfoldable pub direction : List ℕ → ℕ → StreamlineDirection
direction r k = cond (eqb (number r k) 0) Forward Backward

-- the other four
unfoldable pub options : List ℕ → ℕ → StreamlineOptions
options r k =
    record {
      step_size = real r (k + 1);
      max_steps = number r (k + 2);
      max_length = real r (k + 3);
      stagnation_speed = real r (k + 4);
    }

-- all five
unfoldable pub settings : List ℕ → ℕ → StreamlineSettings
settings r k = record { direction = direction r k; options = options r k }

-- refusal 33: "max_steps above 65,536"
unfoldable pub streamline : List ℕ → ℕ → Style → Search → Request
streamline r k style search = refuse_if TooManySteps (ltb most_steps (settings r k).options.max_steps) (Streamline (point r 1) (settings r k) style search)

-- the same of a rake with so many seeds
unfoldable pub rake_of : List ℕ → ℕ → ℕ → Search → Request
rake_of r k count search =
    refuse_if TooManySteps (ltb most_steps (settings r k).options.max_steps) (Rake (record { start = point r 1; end = point r 4; count = count }) (settings r k) search)

-- refusal 32: "rake count below 2"; 33: "count above 64 or max_steps above 65,536"
unfoldable pub rake : List ℕ → ℕ → Search → Request
rake r k search = refuse_if TooFewSeeds (ltb (number r 7) 2) (refuse_if TooManySteps (ltb 64 (number r 7)) (rake_of r k (number r 7) search))

-- codes 1 to 4, by a search
unfoldable pub over_field : List ℕ → ℕ → ℕ → Search → Request
over_field r code k search =
    cond (eqb code 1) (Locate (point r 1) search)
    (cond (eqb code 2) (Velocity (point r 1) search)
    (cond (eqb code 3) (streamline r k Points search) (rake r k search)))

-- ---- planes

-- "origin, u, v"
unfoldable pub plane_of : List ℕ → Plane
plane_of r = record { origin = point r 1; u = point r 4; v = point r 7 }

-- refusal 38: "field above 5"
unfoldable pub statistics : List ℕ → Plane → Request
statistics r s = refuse_if NoSuchField (ltb 5 (number r 10)) (Statistics s (number r 10))

-- codes 5 to 8 over an accepted plane
unfoldable pub over_plane : List ℕ → ℕ → Plane → Request
over_plane r code s = cond (eqb code 5) (Section s) (cond (eqb code 6) (statistics r s) (cond (eqb code 7) (Integrals s) (Probe s (point r 10))))

-- the request, unless a refusal is due
unfoldable pub unless : Refusable (Unit {0}) → Request → Request
unless (Err n) q = Refused n
unless (Ok t) q = q

-- refusals 36 and 37, by the plane
unfoldable pub planar : List ℕ → ℕ → Request
planar r code = unless (validated (plane_of r)) (over_plane r code (plane_of r))

-- ---- all codes

-- "Codes 1 to 4 and 13 keep the bins."; "Code 14 is code 13's sheet over code 11's line"
unfoldable pub search_of : ℕ → Search
search_of code = cond (leb code 4 || eqb code 13) Bins All

-- "Codes 9 to 12 do what 1 to 4 do, but locate the lowest cell whose polygon contains the point"
unfoldable pub plain_code : ℕ → ℕ
plain_code code = cond (ltb 8 code) (code - 8) code

-- codes 5 to 8
unfoldable pub is_planar : ℕ → Bool
is_planar code = ltb 4 code && leb code 8

-- a request by its code; lines' arguments stand from word k on
unfoldable pub by_code : List ℕ → ℕ → ℕ → Request
by_code r code k =
    cond (ltb 12 code) (streamline r k (Sheet AwayFromZero) (search_of code))
    (cond (is_planar code) (planar r code) (over_field r (plain_code code) k (search_of code)))

-- "30 unknown code ..; 31 codes 1 to 4 need 2D, 5 to 8 need 3D", then by code
unfoldable pub request_of : Bool → List ℕ → Request
request_of flat r =
    let code = number r 0 in
    let c = code_of code in
    refuse_if IllFormed (ill_formed r c) (refuse_if OtherDimension (wrong_dimension flat c) (by_code r code c.line))
