-- A request is refused with a number from 30 to 44. Assumes nothing.
use Prim.Native.Nat.{ℕ}
use mathlib.Core.Path.{◌≡◌, refl, sym, subst}
use mathlib.Core.Bool.{Bool, true, false, not, cond}
use mathlib.Core.List.{List}
use lib.Dec.{ltb, eqb}
use lib.Ieee.{Float}
use Rattle.arith.specs.F64.{finite}
use Rattle.arith.specs.declared.Vec3.{Vec3}
use Rattle.reading.specs.declared.Values.{Values}
use Rattle.reading.specs.Result.{Refusable}
use Rattle.reading.specs.Asks.{Asks, give, run, ◌>>=◌}
use Rattle.reading.proofs.AsksLaws.{run_bind}
use Rattle.mesh_area.specs.Tables.{Mesh}
use Rattle.planes_cut.specs.declared.Plane.{Plane}
use Rattle.planes_cut.specs.Plane.{validated}
use Rattle.lines_locate.specs.declared.Search.{Search}
use Rattle.lines_locate.specs.Field.{StreamlineField}
use Rattle.planes_sections.specs.Intersect.{PlaneCell, intersect}
use Rattle.planes_sums.specs.declared.Sums.{Sums}
use Rattle.planes_sums.specs.Sample.{Sample}
use Rattle.planes_sums.specs.Statistics.{summing, add_sample, empty, statistics_from, statistics}
use Rattle.planes_sums.specs.Integrals.{is_valid, add_integral, no_integrals, integrals_from, integrals}
use Rattle.planes_samples.specs.Sampling.{Taken, taken, complete, sample}
use Rattle.planes.specs.Answers.{sampled, section_of, statistics_of, integrals_of, probe_of}
use Rattle.lines.specs.declared.Rake.{Rake}
use Rattle.lines_millimetres.specs.declared.Rounding.TheVariants.{AwayFromZero}
use Rattle.lines_words.specs.declared.Style.{Style}
use Rattle.lines_words.specs.declared.Style.TheVariants.{Points, Sheet}
use Rattle.lines.specs.declared.StreamlineSettings.{StreamlineSettings}
use Rattle.lines.specs.Line.{integrate}
use Rattle.lines.specs.Rake.{integrate_rake}
use Rattle.job_requests.specs.declared.Request.{Request}
use Rattle.job_requests.specs.declared.Request.TheVariants as requests
use Rattle.job_requests.specs.Requests.{number, refuse_if, unless, streamline, rake_of, rake, over_field, plain_code, is_planar, plane_of, statistics as fieldStatistics, over_plane, planar, by_code, request_of}
use Rattle.job_room.specs.Room.{Room, flat, solid}
use Rattle.answers.specs.Ensures.{decided}
use Rattle.job_serve.specs.Serve.{serve_flat, serve_solid, serve}
use Rattle.job_reads.proofs.Ranges.{among, Ranged, due, none, bind, barred, either, through}
use Rattle.std.specs.Prelude.{Ok, Err}
use Rattle.refusal.specs.declared.Refusal.{Refusal}
use Rattle.refusal.specs.Number as numbers
use Rattle.refusal.specs.declared.Refusal.TheVariants.{IllFormed, OtherDimension, TooFewSeeds, TooManySteps, WrongOptions, SeedNowhere, WrongPlane, OriginTooLarge, NoSuchField, SampleNotFinite, FluxNotFinite, NoStatistics, InvalidSample, NoIntegrals}

abbrev pub Answer : {A : Type 0} → Refusable A → Type 0
Answer r = Ranged (among 30 44) r

-- ---- 30 to 33, 36 to 38: a request that is refused when it is taken apart

data Good : Request → Type 0 where
  refusal : (k : Refusal) → among 30 44 (numbers.number k) ≡ true → Good (requests.Refused k)
  locate : {p : Vec3} {search : Search} → Good (requests.Locate p search)
  velocity : {p : Vec3} {search : Search} → Good (requests.Velocity p search)
  line : {p : Vec3} {s : StreamlineSettings} {style : Style} {search : Search} → Good (requests.Streamline p s style search)
  lines : {r : Rake} {s : StreamlineSettings} {search : Search} → Good (requests.Rake r s search)
  section : {s : Plane} → Good (requests.Section s)
  sums : {s : Plane} {field : ℕ} → Good (requests.Statistics s field)
  means : {s : Plane} → Good (requests.Integrals s)
  probe : {s : Plane} {p : Vec3} → Good (requests.Probe s p)

good-either : (t : Bool) {q r : Request} → Good q → Good r → Good (cond t q r)
good-either true x y = x
good-either false x y = y

good-unless : (n : Refusal) (t : Bool) {q : Request} → among 30 44 (numbers.number n) ≡ true → Good q → Good (refuse_if n t q)
unfolding refuse_if
good-unless n t h g = good-either t (refusal n h) g

-- refusal 36, 37 or none
good-plane : (t : Refusable (Unit {0})) {q : Request} → Answer t → Good q → Good (unless t q)
unfolding unless
good-plane (Err n) (due _ h) g = refusal n h
good-plane (Ok u) none g = g

module _ (r : List ℕ) where
  good-line : (k : ℕ) (style : Style) (search : Search) → Good (streamline r k style search)
  unfolding streamline
  good-line k style search = good-unless TooManySteps _ refl line

  good-rake : (k : ℕ) (search : Search) → Good (rake r k search)
  unfolding rake rake_of
  good-rake k search = good-unless TooFewSeeds _ refl (good-unless TooManySteps _ refl (good-unless TooManySteps _ refl lines))

  good-field : (code k : ℕ) (search : Search) → Good (over_field r code k search)
  unfolding over_field
  good-field code k search =
      good-either (eqb code 1) locate (good-either (eqb code 2) velocity
      (good-either (eqb code 3) (good-line k Points search) (good-rake k search)))

  good-planes : (code : ℕ) → Good (planar r code)
  unfolding planar validated over_plane fieldStatistics
  good-planes code =
      good-plane _ (bind (barred WrongPlane _ refl) (λ _. barred OriginTooLarge _ refl))
      (good-either (eqb code 5) section (good-either (eqb code 6) (good-unless NoSuchField _ refl sums) (good-either (eqb code 7) means probe)))

  good-request : (in-2d : Bool) → Good (request_of in-2d r)
  unfolding request_of by_code
  good-request in-2d =
      let code = number r 0 in
      good-unless IllFormed _ refl (good-unless OtherDimension _ refl
      (good-either (ltb 12 code) (good-line _ (Sheet AwayFromZero) _)
      (good-either (is_planar code) (good-planes code) (good-field (plain_code code) _ _))))

module _ (f : ℕ → Values) where
  -- a tree that gives what h makes of its answer
  then-gives : {A B : Type 0} (t : Asks A) (h : A → Refusable B) → Answer (h (run t f)) → Answer (run (t >>= λ a. give (h a)) f)
  then-gives t h w = subst Answer (sym (run_bind t (λ a. give (h a)) f)) w

  -- ---- 34 and 35

  decided-answer : (j : Refusable (Asks (List ℕ))) → Answer j → Answer (run (decided j) f)
  unfolding decided
  decided-answer (Err n) (due _ h) = due n h
  decided-answer (Ok t) w = then-gives t Ok none

  flat-answer : (field : StreamlineField) {q : Request} → Good q → Answer (run (serve_flat field q) f)
  unfolding serve_flat integrate integrate_rake
  flat-answer field (refusal k h) = due k h
  flat-answer field locate = none
  flat-answer field velocity = then-gives _ _ none
  flat-answer field line = decided-answer _ (bind (barred WrongOptions _ refl) (λ _. bind (barred SeedNowhere _ refl) (λ _. none)))
  flat-answer field lines = decided-answer _ (bind (barred WrongOptions _ refl) (λ _. bind (barred SeedNowhere _ refl) (λ _. none)))
  flat-answer field section = due OtherDimension refl
  flat-answer field sums = due OtherDimension refl
  flat-answer field means = due OtherDimension refl
  flat-answer field probe = due OtherDimension refl

  -- ---- 39 to 43

  complete-answer : (t : Taken) → Answer (complete t)
  unfolding complete
  complete-answer t = bind (barred SampleNotFinite _ refl) (λ _. none)

  sample-answer : (l : List PlaneCell) → Answer (run (sample l) f)
  unfolding sample
  sample-answer l = then-gives (taken l) complete (complete-answer (run (taken l) f))

  summing-answer : (t : Bool) (s : Sums) (a b c : Float) → Answer (summing t s a b c)
  unfolding summing
  summing-answer true s a b c = either (finite c) none (due FluxNotFinite refl)
  summing-answer false s a b c = none

  statistics-answer : (normal : Vec3) (field : ℕ) (l : List Sample) → Answer (statistics normal field l)
  unfolding statistics statistics_from add_sample
  statistics-answer normal field l =
      bind (through _ (λ t s. summing-answer _ t _ _ _) _ l) (λ t. either (empty t) (due NoStatistics refl) none)

  integrals-answer : (normal : Vec3) (l : List Sample) → Answer (integrals normal l)
  unfolding integrals integrals_from add_integral
  integrals-answer normal l =
      bind (through _ (λ t s. either (is_valid _ _) none (due InvalidSample refl)) _ l) (λ t. either (no_integrals t) (due NoIntegrals refl) none)

  module _ (m : Mesh) where
    sampled-answer : (s : Plane) (answer : List Sample → Refusable (List ℕ)) → ((l : List Sample) → Answer (answer l)) → Answer (run (sampled m s answer) f)
    unfolding sampled
    sampled-answer s answer h = then-gives _ _ (bind (sample-answer (intersect m s)) h)

    solid-answer : {q : Request} → Good q → Answer (run (serve_solid m q) f)
    unfolding serve_solid section_of statistics_of integrals_of probe_of
    solid-answer (refusal k h) = due k h
    solid-answer locate = due OtherDimension refl
    solid-answer velocity = due OtherDimension refl
    solid-answer line = due OtherDimension refl
    solid-answer lines = due OtherDimension refl
    solid-answer section = sampled-answer _ _ (λ l. none)
    solid-answer (sums {field = field}) = sampled-answer _ _ (statistics-answer _ field)
    solid-answer means = sampled-answer _ _ (integrals-answer _)
    solid-answer probe = sampled-answer _ _ (λ l. none)

  -- ---- all

  pub request-refusals : (room : Room) (in-2d : Bool) (r : List ℕ) → Answer (run (serve room (request_of in-2d r)) f)
  unfolding serve
  request-refusals (flat field) in-2d r = flat-answer field (good-request r in-2d)
  request-refusals (solid m) in-2d r = solid-answer m (good-request r in-2d)
