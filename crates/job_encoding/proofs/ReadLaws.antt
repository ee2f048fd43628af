-- Read back, the words of a request are the request with its arguments. Assumes nothing.
use Prim.Native.Nat.{ℕ}
use mathlib.Core.Path.{◌≡◌, refl}
use mathlib.Core.Bool.{true, false, not, cond}
use lib.Dec.{ltb, eqb}
use lib.Ieee.{Float, binary64}
use lib.Ieee.Bits.{of_bits-to_bits}
use Rattle.arith.specs.F64.{float, word}
use Rattle.arith.specs.Lists.{any_of}
use Rattle.arith.specs.Vec.{vec}
use Rattle.arith.specs.declared.Vec3.{Vec3}
use Rattle.lines_locate.specs.declared.Search.{Search}
use Rattle.lines_locate.specs.declared.Search.TheVariants.{Bins, All}
use Rattle.lines_step.specs.declared.StreamlineOptions.{StreamlineOptions}
use Rattle.lines.specs.declared.StreamlineDirection.{StreamlineDirection}
use Rattle.lines.specs.declared.StreamlineDirection.TheVariants.{Forward, Backward}
use Rattle.lines.specs.declared.StreamlineSettings.{StreamlineSettings}
use Rattle.lines.specs.declared.Rake as declared
use Rattle.lines_millimetres.specs.declared.Rounding.TheVariants.{AwayFromZero}
use Rattle.lines_words.specs.declared.Style.TheVariants.{Points, Sheet}
use Rattle.planes_cut.specs.declared.Plane.{Plane}
use Rattle.planes_cut.specs.Plane.{validated}
use Rattle.job_requests.specs.Requests.{unless}
use Rattle.answers.specs.Words.{vec_words}
use Rattle.job_requests.specs.Requests.{number, real, point, refuse_if, unused_set, bad_direction, ill_formed, wrong_dimension, direction, options, settings, streamline, rake_of, rake, over_field, search_of, plain_code, is_planar, plane_of, statistics, over_plane, planar, by_code, request_of}
use Rattle.job_requests.specs.Codes.{row, unknown, codes, code_of, is_unknown}
use Rattle.job_requests.specs.declared.Request.{Request}
use Rattle.job_requests.specs.declared.Request.TheVariants.{Locate, Velocity, Streamline, Rake, Section, Statistics, Integrals, Probe}
use Rattle.job_encoding.specs.Single.{padded, code_by, sheet_code, direction_word, line_words, plane_words, locate_words, velocity_words, one_line_words, streamline_words, sheet_words, rake_words, section_words, statistics_words, integrals_words, probe_words}
use Rattle.job_encoding.proofs.Laws.{F64, F64s, OptionsHeld, RakeHeld, PlaneHeld}
use Rattle.refusal.specs.declared.Refusal.TheVariants.{TooFewSeeds, TooManySteps, NoSuchField}

-- ---- one float, one point, one plane, and a line's direction and options

float_back : (x : Float) → F64 x → float (word x) ≡ x
float_back x h = of_bits-to_bits binary64 x h

vec-back : (p : Vec3) → F64s p → vec (float (word p.x)) (float (word p.y)) (float (word p.z)) ≡ p
vec-back p h = rw (float_back _ h.x, float_back _ h.y, float_back _ h.z)

direction-back : (d : StreamlineDirection) → cond (eqb (direction_word d) 0) Forward Backward ≡ d
unfolding direction_word
direction-back Forward = refl
direction-back Backward = refl

good-direction : (d : StreamlineDirection) → ltb 1 (direction_word d) ≡ false
unfolding direction_word
good-direction Forward = refl
good-direction Backward = refl

options-back : (o : StreamlineOptions) → OptionsHeld o →
    ◌≡◌ {A = StreamlineOptions} (record { step_size = float (word o.step_size); max_steps = o.max_steps; max_length = float (word o.max_length); stagnation_speed = float (word o.stagnation_speed) }) o
options-back o h = rw (float_back _ h.step, float_back _ h.length, float_back _ h.speed)

-- all that takes the words of a request apart, and puts them together
unfoldable taken-apart : Unit {0}
unfolding request_of code_of codes unknown row refuse_if ill_formed is_unknown unused_set bad_direction wrong_dimension by_code over_field search_of plain_code is_planar number point real any_of padded code_by sheet_code vec_words
taken-apart = tt

-- ---- codes 1 and 2, and 9 and 10

pub locate-read : (p : Vec3) (search : Search) → F64s p → request_of true (locate_words p search) ≡ Locate p search
unfolding taken-apart locate_words
locate-read p Bins h = rw (vec-back p h)
locate-read p All h = rw (vec-back p h)

pub velocity-read : (p : Vec3) (search : Search) → F64s p → request_of true (velocity_words p search) ≡ Velocity p search
unfolding taken-apart velocity_words
velocity-read p Bins h = rw (vec-back p h)
velocity-read p All h = rw (vec-back p h)

-- ---- codes 3, 4 and 11 to 14: refusals 32 and 33 are by the arguments

module _ (s : StreamlineSettings) (l : OptionsHeld s.options) where
  pub streamline-read : (seed : Vec3) (search : Search) → F64s seed
      → request_of true (streamline_words seed s search) ≡ refuse_if TooManySteps (ltb 65536 s.options.max_steps) (Streamline seed s Points search)
  unfolding taken-apart streamline settings direction options one_line_words line_words
  streamline-read seed Bins h = rw (good-direction s.direction, direction-back s.direction, vec-back seed h, options-back s.options l)
  streamline-read seed All h = rw (good-direction s.direction, direction-back s.direction, vec-back seed h, options-back s.options l)

  pub sheet-read : (seed : Vec3) (search : Search) → F64s seed
      → request_of true (sheet_words seed s search) ≡ refuse_if TooManySteps (ltb 65536 s.options.max_steps) (Streamline seed s (Sheet AwayFromZero) search)
  unfolding taken-apart streamline settings direction options one_line_words line_words
  sheet-read seed Bins h = rw (good-direction s.direction, direction-back s.direction, vec-back seed h, options-back s.options l)
  sheet-read seed All h = rw (good-direction s.direction, direction-back s.direction, vec-back seed h, options-back s.options l)

  pub rake-read : (r : declared.Rake) (search : Search) → RakeHeld r
      → request_of true (rake_words r s search) ≡ refuse_if TooFewSeeds (ltb r.count 2) (refuse_if TooManySteps (ltb 64 r.count) (refuse_if TooManySteps (ltb 65536 s.options.max_steps) (Rake r s search)))
  unfolding taken-apart rake rake_of settings direction options rake_words line_words
  rake-read r Bins h =
      rw (good-direction s.direction, direction-back s.direction, vec-back r.start h.start, vec-back r.end h.end, options-back s.options l)
  rake-read r All h =
      rw (good-direction s.direction, direction-back s.direction, vec-back r.start h.start, vec-back r.end h.end, options-back s.options l)

-- ---- codes 5 to 8: refusals 36 to 38 are by the arguments

module _ (s : Plane) where
  -- where the plane is accepted
  abbrev pub over : Request → Request
  over q = unless (validated s) q

  module _ (h : PlaneHeld s) where
    pub section-read : request_of false (section_words s) ≡ over (Section s)
    unfolding taken-apart planar over_plane plane_of section_words plane_words
    section-read = rw (vec-back s.origin h.origin, vec-back s.u h.u, vec-back s.v h.v)

    pub statistics-read : (field : ℕ) → request_of false (statistics_words s field) ≡ over (refuse_if NoSuchField (ltb 5 field) (Statistics s field))
    unfolding taken-apart planar over_plane plane_of statistics statistics_words plane_words
    statistics-read field = rw (vec-back s.origin h.origin, vec-back s.u h.u, vec-back s.v h.v)

    pub integrals-read : request_of false (integrals_words s) ≡ over (Integrals s)
    unfolding taken-apart planar over_plane plane_of integrals_words plane_words
    integrals-read = rw (vec-back s.origin h.origin, vec-back s.u h.u, vec-back s.v h.v)

    pub probe-read : (p : Vec3) → F64s p → request_of false (probe_words s p) ≡ over (Probe s p)
    unfolding taken-apart planar over_plane plane_of probe_words plane_words
    probe-read p k = rw (vec-back s.origin h.origin, vec-back s.u h.u, vec-back s.v h.v, vec-back p k)
