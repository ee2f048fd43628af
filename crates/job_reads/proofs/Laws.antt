-- A request over an accepted case reads only cells of the case. Assumes nothing.
use Prim.Native.Nat.{ℕ, ◌≤◌}
use native.Mathlib.Omega.{arith}
use mathlib.Core.Path.{◌≡◌, refl, ap, ◌∙◌, subst}
use mathlib.Core.Bool.{Bool, true, false}
use mathlib.Core.List.{List}
use lib.Dec.{eqb}
use lib.ListN.{length}
use Rattle.reading.specs.Result.{Refusable, ◌>>=◌}
use Rattle.reading.proofs.ResultLaws.{bound}
use Rattle.reading.proofs.Within.{Within, given, within-bind}
use Rattle.mesh_area.specs.Tables.{Mesh}
use Rattle.case_file.specs.declared.Counts.{Counts}
use Rattle.case_file.specs.Trailer.{counts_of, opened}
use Rattle.case_file.specs.Field.{zones_of}
use Rattle.case_file.proofs.TrailerLaws.{opens}
use Rattle.case_definitions.proofs.Walking.{length-definitions}
use Rattle.lines_locate.specs.declared.Search.{Search}
use Rattle.lines_locate.specs.Field.{StreamlineField, searching, zoned}
use Rattle.lines_field.specs.Field.{field_of}
use Rattle.case_survey.specs.Survey.{CaseSurvey, survey_of}
use Rattle.mesh.specs.Case.{mesh_of}
use Rattle.job_requests.specs.declared.Request.{Request}
use Rattle.job_requests.specs.declared.Request.TheVariants as requests
use Rattle.job_room.specs.Room.{Room, flat, solid, Lent, room_from, room_of, prepared}
use Rattle.job_serve.specs.Serve.{serve_flat, serve_solid, serve}
use Rattle.job_reads.proofs.Within.{Numbers, Sound, RoomWithin}
use Rattle.job_reads.proofs.LineLaws.{velocity-within, integrate-within, rake-within}
use Rattle.job_reads.proofs.PlaneLaws.{section-within, statistics-within, integrals-within, probe-within}
use Rattle.job_reads.proofs.MeshLaws.{mesh-numbers}
use Rattle.job_reads.proofs.FieldLaws.{field-sound}
use Rattle.std.specs.Prelude.{Ok, Err}

-- ---- the requests

-- the same field under another search, or with other zones
searching-sound : (n : ℕ) (f : StreamlineField) → Sound n f → (search : Search) → Sound n (searching search f)
unfolding searching
searching-sound n f h search = record { few = h.few; near = h.near }

zoned-sound : (n : ℕ) (f : StreamlineField) → Sound n f → (zones : List ℕ) → Sound n (zoned zones f)
unfolding zoned
zoned-sound n f h zones = record { few = h.few; near = h.near }

flat-within : (n : ℕ) (f : StreamlineField) → Sound n f → (q : Request) → Within n (serve_flat f q)
unfolding serve_flat
flat-within n f h (requests.Refused k) = given
flat-within n f h (requests.Locate p search) = given
flat-within n f h (requests.Velocity p search) = within-bind (velocity-within n _ (searching-sound n f h search) p) (λ v. given)
flat-within n f h (requests.Streamline p s style search) = integrate-within n _ (searching-sound n f h search) p s style
flat-within n f h (requests.Rake r s search) = rake-within n _ (searching-sound n f h search) r s
flat-within n f h (requests.Section s) = given
flat-within n f h (requests.Statistics s field) = given
flat-within n f h (requests.Integrals s) = given
flat-within n f h (requests.Probe s p) = given

solid-within : (n : ℕ) (m : Mesh) → length m.cells ≤ n → (q : Request) → Within n (serve_solid m q)
unfolding serve_solid
solid-within n m h (requests.Refused k) = given
solid-within n m h (requests.Locate p search) = given
solid-within n m h (requests.Velocity p search) = given
solid-within n m h (requests.Streamline p s style search) = given
solid-within n m h (requests.Rake r s search) = given
solid-within n m h (requests.Section s) = section-within n m h s
solid-within n m h (requests.Statistics s field) = statistics-within n m h s field
solid-within n m h (requests.Integrals s) = integrals-within n m h s
solid-within n m h (requests.Probe s p) = probe-within n m h s p

-- ---- the room

pub room_within : (n : ℕ) (room : Room) → RoomWithin n room → (q : Request) → Within n (serve room q)
unfolding serve
room_within n (flat f) h q = flat-within n f h q
room_within n (solid m) h q = solid-within n m h q

fine-same : {A : Type 0} {x y : A} → ◌≡◌ {A = Refusable A} (Ok x) (Ok y) → x ≡ y
fine-same e = cc

mesh-within : (n d : ℕ) (zones : List ℕ) (m : Mesh) (room : Room) → Numbers n m → room_from d zones m ≡ Ok room → RoomWithin n room
unfolding room_from
mesh-within n d zones m room h e = by (eqb d 2) e
  where
    by : (t : Bool) → (elim t as (λ _. Refusable Room) [ true ↦ field_of m >>= λ f. Ok (flat (zoned zones f)) | false ↦ Ok (solid m) ]) ≡ Ok room → RoomWithin n room
    by true e =
        let a = bound _ _ _ e in
        let w : flat (zoned zones a.value) ≡ room = fine-same a.then in
        subst (RoomWithin n) w (zoned-sound n a.value (field-sound n m a.value h a.had) zones)
    by false e =
        let w : solid m ≡ room = fine-same e in
        subst (RoomWithin n) w (omega (arith, h.cells))

case-within : (file : List ℕ) (c : CaseSurvey) (room : Room) → room_of file c ≡ Ok room → RoomWithin (length c.definitions) room
unfolding room_of mesh_of
case-within file c room e =
    let a = bound _ _ _ e in
    mesh-within (length c.definitions) c.counts.dimension (zones_of file) a.value room (mesh-numbers _ _ c.definitions a.value a.had) a.then

-- ---- the case

counts-of : (file : List ℕ) (n : Counts) (r : Refusable Counts) → opened file ≡ r → r ≡ Ok n → n ≡ counts_of file
counts-of file n (Ok k) q e = let w : k ≡ n = fine-same e in rw (← w) (opens file k q).same
counts-of file n (Err k) q e = absurd (let z : ◌≡◌ {A = ℕ} 0 1 = cc in omega arith)

-- as many definitions as the trailer says
survey-counts : (file : List ℕ) (c : CaseSurvey) → survey_of file ≡ Ok c → length c.definitions ≡ (counts_of file).cells
unfolding survey_of
survey-counts file c e =
    let a = bound _ _ _ e in
    let b = bound _ _ _ a.then in
    let d = bound _ _ _ b.then in
    let w : record { counts = a.value; definitions = b.value } ≡ c = fine-same d.then in
    rw (← w) (length-definitions _ _ b.value b.had ∙ ap (λ (k : Counts). k.cells) (counts-of file a.value (opened file) refl a.had))

-- the room of an accepted case has the case's cells
pub prepared-within : (file : List ℕ) (requests : ℕ) (lent : Lent) (room : Room) → prepared file requests lent ≡ Ok room → RoomWithin (counts_of file).cells room
unfolding prepared
prepared-within file requests lent room e =
    let a = bound _ _ _ e in
    let b = bound _ _ _ a.then in
    subst (λ n. RoomWithin n room) (survey-counts file a.value a.had) (case-within file a.value room b.then)

-- "An accepted job reads the cells that its requests read": only cells of the case
pub serve-within : (file : List ℕ) (requests : ℕ) (lent : Lent) (room : Room) → prepared file requests lent ≡ Ok room
    → (q : Request) → Within (counts_of file).cells (serve room q)
serve-within file requests lent room e q = room_within (counts_of file).cells room (prepared-within file requests lent room e) q
