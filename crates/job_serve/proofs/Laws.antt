-- From what a code's function leaves to its answer. Assumes nothing.
use Prim.Native.Nat.{ℕ, ◌≤◌}
use native.Mathlib.Omega.{arith}
use mathlib.Core.Path.{◌≡◌, refl, ap, sym, ◌∙◌}
use mathlib.Core.Logic.{inl, inr}
use mathlib.Core.List.{List, [], ◌∷◌, map, append-nil}
use lib.ListN.{length}
use lib.Seq.{sets, length-sets}
use lib.Ieee.{Float}
use Rattle.arith.specs.Lists.{flatten}
use Rattle.arith.specs.declared.Vec3.{Vec3}
use Rattle.reading.specs.declared.Values.{Values}
use Rattle.reading.specs.Result.{Refusable}
use Rattle.reading.specs.Asks.{Asks, give, run, reads, ◌>>=◌}
use Rattle.reading.specs.Marks.{mark_all}
use Rattle.reading.specs.Served.{Served}
use Rattle.reading.proofs.AsksLaws.{run_bind, reads-bind}
use Rattle.mesh_area.specs.Tables.{Mesh}
use Rattle.mesh_area.specs.Layout.{points_in, mesh_in}
use Rattle.mesh_area.specs.declared.Sizes.{Sizes}
use Rattle.lines_locate.specs.declared.Located.{Located}
use Rattle.lines_locate.specs.declared.Search.{Search}
use Rattle.lines_locate.specs.Field.{StreamlineField, searching}
use Rattle.case_file.specs.declared.Counts.{Counts}
use Rattle.planes_cut.specs.declared.Plane.{Plane}
use Rattle.planes_sections.specs.Intersect.{intersect}
use Rattle.lines_velocity.specs.declared.Tracer.{Tracer}
use Rattle.lines_velocity.specs.Velocity.{located_in, velocity_at}
use Rattle.lines_velocity.specs.Ensures.{tracer_field, TracerEntry}
use Rattle.lines.specs.declared.Rake as declared
use Rattle.lines_words.specs.declared.Style.{Style}
use Rattle.lines.specs.declared.StreamlineSettings.{StreamlineSettings}
use Rattle.lines.specs.Line.{integrate}
use Rattle.lines.specs.Rake.{integrate_rake}
use Rattle.planes.specs.Answers.{section_of, statistics_of, integrals_of, probe_of}
use Rattle.answers.specs.Words.{vec_words}
use Rattle.answers.specs.Ensures.{length_of, decided, replied, Reply}
use Rattle.planes_sums.specs.Words.{sample_words}
use Rattle.planes_samples.specs.Ensures as Planes
use Rattle.planes_samples.specs.Sampling.{taken}
use Rattle.planes.specs.Ensures.{left_by}
use Rattle.job_requests.specs.declared.Request.{Request}
use Rattle.job_requests.specs.declared.Request.TheVariants.{Refused, Locate, Velocity, Streamline, Rake, Section, Statistics, Integrals, Probe}
use Rattle.job_requests.specs.Bounds.{Allowed}
use Rattle.job_room.specs.Room.{Room, flat, solid}
use Rattle.job_room.specs.declared.Place.{Place}
use Rattle.job_room.specs.declared.Place.TheVariants.{Flat, Solid}
use Rattle.job_room.specs.Ensures.{room_in, counts_in, Servable, RoomStands}
use Rattle.job_requests.specs.contracts.Request.{the_type}
use types.Run.{OneOf}
use denote.Enum.Declared.{tag_of}
use Rattle.job_serve.specs.Serve.{located_words, velocity_words, serve_flat, serve_solid, serve}
use Rattle.job_serve.specs.Ensures.{left_under}
use Rattle.std.specs.Prelude.{Some, None, Ok, Err}
use Rattle.std.specs.declared.option.Option.{Option}
use Rattle.refusal.specs.declared.Refusal.{Refusal}
use Rattle.refusal.specs.declared.Refusal.TheVariants.{OtherDimension}

-- ---- an answer, or a refusal, that is decided before any value is read

module _ {f : ℕ → Values} {o m : List ℕ} where
  pub replied-no : (n : Refusal) → Reply (give (Err n)) f o (Err n) o o m m
  unfolding length_of replied
  replied-no n = record { result = refl; answers = refl; marks = refl }

  pub replied-yes : {left o' : List ℕ} (ws : List ℕ) (n : ℕ) → length ws ≡ n → o' ≡ sets o 0 ws → Reply (give (Ok ws)) f left (Ok n) o o' m m
  unfolding length_of replied
  replied-yes ws n e h = record { result = rw e; answers = h; marks = refl }

-- ---- codes 1 to 4, and 9 to 12

located-two : (r : Located) → length (located_words r) ≡ 2
unfolding located_words
located-two r = refl

velocity-four : (r : Option Vec3) → length (velocity_words r) ≡ 4
unfolding velocity_words vec_words
velocity-four (Some u) = refl
velocity-four None = refl

module _ {v : ℕ → Values} {o o' m : List ℕ} where
  pub locate-reply : (F G : StreamlineField) (p : Vec3) (search : Search) (r : Located) → G ≡ searching search F → r ≡ located_in G p → o' ≡ sets o 0 (located_words r)
      → Reply (serve_flat F (Locate p search)) v o (Ok 2) o o' m m
  unfolding serve_flat
  locate-reply F G p search r g e h = rw (sym g, sym e) (replied-yes (located_words r) 2 (located-two r) h)

  pub velocity-reply : (F G : StreamlineField) {m' : List ℕ} (p : Vec3) (search : Search) (r : Option Vec3) → G ≡ searching search F → Served (velocity_at G p) v m m' r → o' ≡ sets o 0 (velocity_words r)
      → Reply (serve_flat F (Velocity p search)) v o (Ok 4) o o' m m'
  unfolding serve_flat length_of replied
  velocity-reply F G p search r g t h =
      let tail : Option Vec3 → Asks (Refusable (List ℕ)) = λ u. give (Ok (velocity_words u)) in
      let answer : run (velocity_at G p >>= tail) v ≡ Ok (velocity_words r) = run_bind (velocity_at G p) tail v ∙ ap (λ (u : Option Vec3). Ok (velocity_words u)) (sym t.answer) in
      rw (sym g)
      (record {
        result = rw answer (ap Ok (sym (velocity-four r)));
        answers = rw answer h;
        marks = t.marks ∙ ap (mark_all m) (sym (reads-bind (velocity_at G p) tail v ∙ append-nil (reads (velocity_at G p) v)));
      })

-- ---- which code it is

pub allowed-streamline : (q : Request) (p : Vec3) (s : StreamlineSettings) (style : Style) (search : Search) → q ≡ Streamline p s style search → Allowed q
    → s.options.max_steps ≤ 65536
unfolding Allowed
allowed-streamline q p s style search e h = rw e at h

pub allowed-rake : (q : Request) (k : declared.Rake) (s : StreamlineSettings) (search : Search) → q ≡ Rake k s search → Allowed q
    → (2 ≤ k.count) × (k.count ≤ 64) × (s.options.max_steps ≤ 65536)
unfolding Allowed
allowed-rake q k s search e h = rw e at h

abbrev tag : Request → ℕ
tag = tag_of the_type

low : (x : ℕ) → OneOf (1 ∷ 2 ∷ 3 ∷ 4 ∷ []) x → (1 ≤ x) × (x ≤ 4)
low x (inl e) = (omega arith, omega arith)
low x (inr (inl e)) = (omega arith, omega arith)
low x (inr (inr (inl e))) = (omega arith, omega arith)
low x (inr (inr (inr e))) = (omega arith, omega arith)

high : (x : ℕ) → OneOf (5 ∷ 6 ∷ 7 ∷ 8 ∷ []) x → 5 ≤ x
high x (inl e) = omega arith
high x (inr (inl e)) = omega arith
high x (inr (inr (inl e))) = omega arith
high x (inr (inr (inr e))) = omega arith

module _ (F : StreamlineField) {v : ℕ → Values} {o m : List ℕ} where
  pub flat-refused : (q : Request) (n : Refusal) → q ≡ Refused n → Reply (serve_flat F q) v o (Err n) o o m m
  unfolding serve_flat
  flat-refused q n e = rw e (replied-no n)

  pub flat-other : (q : Request) → OneOf (5 ∷ 6 ∷ 7 ∷ 8 ∷ []) (tag q) → Reply (serve_flat F q) v o (Err OtherDimension) o o m m
  unfolding serve_flat
  flat-other (Refused n) h = absurd (let k = high 0 h in omega arith)
  flat-other (Locate p search) h = absurd (let k = high 1 h in omega arith)
  flat-other (Velocity p search) h = absurd (let k = high 2 h in omega arith)
  flat-other (Streamline p s style search) h = absurd (let k = high 3 h in omega arith)
  flat-other (Rake k s search) h = absurd (let k = high 4 h in omega arith)
  flat-other (Section s) h = replied-no OtherDimension
  flat-other (Statistics s field) h = replied-no OtherDimension
  flat-other (Integrals s) h = replied-no OtherDimension
  flat-other (Probe s p) h = replied-no OtherDimension

  pub flat-code : {r : Refusable ℕ} {o' m' : List ℕ} (q k : Request) → q ≡ k → Reply (serve_flat F k) v o r o o' m m' → Reply (serve_flat F q) v o r o o' m m'
  flat-code q k e h = rw e h

  module _ {r : Refusable ℕ} {o' m' : List ℕ} (G : StreamlineField) (q : Request) (s : StreamlineSettings) (search : Search) (g : G ≡ searching search F) where
    pub flat-streamline : (p : Vec3) (style : Style) → q ≡ Streamline p s style search → Reply (decided (integrate G p s style)) v o r o o' m m' → Reply (serve_flat F q) v o r o o' m m'
    unfolding serve_flat
    flat-streamline p style e h = rw (e, sym g) h

    pub flat-rake : (k : declared.Rake) → q ≡ Rake k s search → Reply (decided (integrate_rake G k s)) v o r o o' m m' → Reply (serve_flat F q) v o r o o' m m'
    unfolding serve_flat
    flat-rake k e h = rw (e, sym g) h

module _ (M : Mesh) (v : ℕ → Values) (o : List ℕ) {m : List ℕ} where
  pub solid-refused : (q : Request) (n : Refusal) → q ≡ Refused n → Reply (serve_solid M q) v (left_under (solid M) q v o) (Err n) o o m m
  unfolding serve_solid left_under
  solid-refused q n e = rw e (replied-no n)

  pub solid-other : (q : Request) → OneOf (1 ∷ 2 ∷ 3 ∷ 4 ∷ []) (tag q) → Reply (serve_solid M q) v (left_under (solid M) q v o) (Err OtherDimension) o o m m
  unfolding serve_solid left_under
  solid-other (Refused n) h = absurd (let k = low 0 h in omega arith)
  solid-other (Locate p search) h = replied-no OtherDimension
  solid-other (Velocity p search) h = replied-no OtherDimension
  solid-other (Streamline p s style search) h = replied-no OtherDimension
  solid-other (Rake k s search) h = replied-no OtherDimension
  solid-other (Section s) h = absurd (let k = low 5 h in omega arith)
  solid-other (Statistics s field) h = absurd (let k = low 6 h in omega arith)
  solid-other (Integrals s) h = absurd (let k = low 7 h in omega arith)
  solid-other (Probe s p) h = absurd (let k = low 8 h in omega arith)

  module _ {r : Refusable ℕ} {o' m' : List ℕ} (q : Request) (s : Plane) where
    pub solid-section : q ≡ Section s → Reply (section_of M s) v (left_by v (intersect M s) o) r o o' m m' → Reply (serve_solid M q) v (left_under (solid M) q v o) r o o' m m'
    unfolding serve_solid left_under
    solid-section e h = rw e h

    pub solid-statistics : (field : ℕ) → q ≡ Statistics s field → Reply (statistics_of M s field) v o r o o' m m' → Reply (serve_solid M q) v (left_under (solid M) q v o) r o o' m m'
    unfolding serve_solid left_under
    solid-statistics field e h = rw e h

    pub solid-integrals : q ≡ Integrals s → Reply (integrals_of M s) v o r o o' m m' → Reply (serve_solid M q) v (left_under (solid M) q v o) r o o' m m'
    unfolding serve_solid left_under
    solid-integrals e h = rw e h

    pub solid-probe : (p : Vec3) → q ≡ Probe s p → Reply (probe_of M s p) v o r o o' m m' → Reply (serve_solid M q) v (left_under (solid M) q v o) r o o' m m'
    unfolding serve_solid left_under
    solid-probe p e h = rw e h

-- ---- which room it is

module _ (file words : List ℕ) (floats : List Float) (p : Place) where
  pub stands-flat : (t : Tracer) → p ≡ Flat t → RoomStands file words floats p → TracerEntry file words floats t
  unfolding Servable
  stands-flat t e h = rw e at h.servable

  pub stands-solid : (n : Counts) (s : Sizes) (marks : List ℕ) → p ≡ Solid n s → RoomStands file words floats p → (counts_in p).cells ≤ length marks → Planes.SampleEntry file n s words marks
  unfolding Servable counts_in
  stands-solid n s marks e h b = (rw e at h.servable) marks (rw e at b)

  module _ (v : ℕ → Values) {r : Refusable ℕ} (o : List ℕ) {o' m m' : List ℕ} (q : Request) where
    pub in-flat : (t : Tracer) → p ≡ Flat t → Reply (serve_flat (tracer_field t file words floats) q) v o r o o' m m'
        → Reply (serve (room_in file words floats p) q) v (left_under (room_in file words floats p) q v o) r o o' m m'
    unfolding serve room_in left_under
    in-flat t e h = rw e h

    pub in-solid : (n : Counts) (s : Sizes) → p ≡ Solid n s
        → Reply (serve_solid (mesh_in (points_in file n.points) s words floats) q) v (left_under (solid (mesh_in (points_in file n.points) s words floats)) q v o) r o o' m m'
        → Reply (serve (room_in file words floats p) q) v (left_under (room_in file words floats p) q v o) r o o' m m'
    unfolding serve room_in
    in-solid n s e h = rw e h

-- ---- the answer words keep their number

pub left-long : (room : Room) (q : Request) (v : ℕ → Values) (o : List ℕ) → length (left_under room q v o) ≡ length o
unfolding left_under left_by
left-long (flat f) q v o = refl
left-long (solid m) (Refused n) v o = refl
left-long (solid m) (Locate p search) v o = refl
left-long (solid m) (Velocity p search) v o = refl
left-long (solid m) (Streamline p s style search) v o = refl
left-long (solid m) (Rake k s search) v o = refl
left-long (solid m) (Section s) v o = length-sets o 1 (flatten (map sample_words (run (taken (intersect m s)) v).samples))
left-long (solid m) (Statistics s field) v o = refl
left-long (solid m) (Integrals s) v o = refl
left-long (solid m) (Probe s p) v o = refl

long_of : (o left : List ℕ) (r : Refusable (List ℕ)) → length left ≡ length o → length (replied o left r) ≡ length o
unfolding replied
long_of o left (Err n) h = h
long_of o left (Ok ws) h = length-sets o 0 ws

pub replied-long : (room : Room) (q : Request) (v : ℕ → Values) (o : List ℕ) → length (replied o (left_under room q v o) (run (serve room q) v)) ≡ length o
replied-long room q v o = long_of o (left_under room q v o) (run (serve room q) v) (left-long room q v o)
