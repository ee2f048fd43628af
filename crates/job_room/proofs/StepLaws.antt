-- The ways out of the parts of `prepare`. Assumes nothing.
use Prim.Native.Nat.{ℕ, zero, suc, ◌*◌, ◌/◌, ◌≤◌, ◌<◌}
use native.Mathlib.Omega.{arith}
use mathlib.Core.Path.{◌≡◌, refl, ap, sym, ◌∙◌, subst}
use mathlib.Core.Bool.{Bool, true, false}
use mathlib.Core.List.{List}
use lib.ListN.{length}
use lib.Ieee.{Float}
use borrow.Author.Tests.{eq-eqb, ne_eqb, lt-ltb, le-ltb}
use Rattle.reading.specs.Result.{Refusable, ◌>>=◌, refuse}
use Rattle.reading.proofs.ResultLaws.{bound, not-due}
use Rattle.case_definitions.specs.Faces.{Definition, faces_counted}
use Rattle.case_definitions.specs.Definitions.{definitions}
use Rattle.case_file.specs.Trailer.{opened, words_of}
use Rattle.case_file.specs.Field.{zones_of}
use Rattle.case_file.specs.declared.Counts.{Counts}
use Rattle.case_file.proofs.TrailerLaws.{opens}
use Rattle.case_definitions.proofs.Walking.{length-definitions}
use Rattle.mesh_area.specs.declared.Sizes.{Sizes}
use Rattle.mesh_area.specs.Tables.{Mesh}
use Rattle.mesh_area.specs.Layout.{points_in, mesh_in}
use Rattle.mesh_area.proofs.LayoutLaws.{length-cells_in}
use Rattle.mesh.specs.Mesh.{from_cells}
use Rattle.case_survey.specs.Survey.{CaseSurvey, survey_of}
use Rattle.case_survey.proofs.Laws.{Surveys, survey-right}
use Rattle.mesh.specs.Case.{area_short, mesh_of}
use Rattle.mesh.specs.Ensures.{BuildExit, BuildEntry}
use Rattle.mesh.proofs.Laws.{area-long, building-refused, building-mesh}
use Rattle.lines_locate.specs.declared.Search.TheVariants.{Bins}
use Rattle.lines_locate.specs.declared.Grid.{Grid}
use Rattle.lines_field.specs.Field.{polygons_of, grid_of, field_of}
use Rattle.lines_locate.specs.Field.{StreamlineField, searching, zoned, staying}
use Rattle.lines_locate.specs.Layout.{field_in}
use Rattle.lines_velocity.specs.Ensures.{tracer_field, vertices_within}
use Rattle.lines_field.specs.Ensures.{FromDatasetExit}
use Rattle.lines_field.proofs.BuildLaws.{lent-words, lent-floats}
use Rattle.planes_cut.specs.Ensures.{bare}
use Rattle.planes_sections.proofs.PieceLaws.{same-bounds}
use Rattle.job_room.specs.Room.{Room, flat, solid, Lent, room_from, room_of, requests_wrong, shortage, prepared}
use Rattle.job_room.specs.Ensures.{room_in, counts_in, Servable, RoomStands, PrepareExit, standing, barred, Shortage, AddFieldEntry}
use Rattle.job_room.specs.declared.Place.TheVariants.{Flat, Solid}
use Rattle.job_room.proofs.Laws.{prepared-then}
use Rattle.job_room.proofs.MeshLaws.{mesh-count, mesh-few, mesh-within, mesh-bounded}
use Rattle.job_room.proofs.WithinLaws.{vertex-within, field-within}
use Rattle.std.specs.Prelude.{Ok, Err}
use Rattle.refusal.specs.declared.Refusal.{Refusal}
use Rattle.job_room.specs.declared.Place.{Place}
use Rattle.refusal.specs.declared.Refusal.TheVariants.{ShortWorkArea, ShortMarks, WrongRequestBytes, ShortAnswers}

-- ---- 4 to 7

module _ (n : Counts) (faces requests words floats marks answers : ℕ) where
  abbrev lent : Lent
  lent = record { words = words; floats = floats; marks = marks; answers = answers }

  module _ (s : Bool) (told : (defs : List Definition) → faces ≡ faces_counted defs → s ≡ area_short (record { counts = n; definitions = defs }) words floats) where
    pub short-area : s ≡ true → Shortage n faces requests lent (Err ShortWorkArea)
    unfolding Shortage shortage refuse ◌>>=◌
    short-area h = λ defs e. rw (sym (told defs e) ∙ h, refuse, ◌>>=◌)

    module _ (long : s ≡ false) where
      area : (defs : List Definition) → faces ≡ faces_counted defs → area_short (record { counts = n; definitions = defs }) words floats ≡ false
      area defs e = sym (told defs e) ∙ long

      pub short-marks : marks < n.cells → Shortage n faces requests lent (Err ShortMarks)
      unfolding Shortage shortage refuse ◌>>=◌
      short-marks h = λ defs e. rw (area defs e, lt-ltb marks n.cells h, refuse, ◌>>=◌)

      module _ (reach : n.cells ≤ marks) where
        pub short-requests : requests_wrong requests ≡ true → Shortage n faces requests lent (Err WrongRequestBytes)
        unfolding Shortage shortage refuse ◌>>=◌
        short-requests h = λ defs e. rw (area defs e, le-ltb marks n.cells reach, h, refuse, ◌>>=◌)

        module _ (right : requests_wrong requests ≡ false) where
          pub short-answers : answers < 2 * (requests / 128) → Shortage n faces requests lent (Err ShortAnswers)
          unfolding Shortage shortage refuse ◌>>=◌
          short-answers h = λ defs e. rw (area defs e, le-ltb marks n.cells reach, right, lt-ltb answers (2 * (requests / 128)) h, refuse, ◌>>=◌)

          pub short-nothing : 2 * (requests / 128) ≤ answers → Shortage n faces requests lent (Ok tt)
          unfolding Shortage shortage refuse ◌>>=◌
          short-nothing h = λ defs e. rw (area defs e, le-ltb marks n.cells reach, right, le-ltb answers (2 * (requests / 128)) h, refuse, ◌>>=◌)

-- ---- the field of a mesh, or the mesh

module _ (case : List ℕ) (n : Counts) (s : Sizes) (w : List ℕ) (f : List Float) (d : AddFieldEntry case n s w f) where
  abbrev m : Mesh
  m = mesh_in (points_in case n.points) s w f

  solid-stands : RoomStands case w f (Solid n s)
  unfolding Servable counts_in bare
  solid-stands =
      let o = opens case n d.opens in
      record {
        opens = d.opens;
        servable = λ marks h.
            record {
              is_open = d.opens;
              lent = record { few-points = o.points; long-case = omega (arith, o.whole); long-words = d.lent-words };
              bounded = same-bounds (points_in case n.points) s w f d.bounded;
              room = rw d.cells h;
            };
      }

  pub add-field-solid : (n.dimension ≡ 2 → ⊥) → PrepareExit (room_from n.dimension (zones_of case) m) case w f (Ok (Solid n s))
  unfolding room_from room_in
  add-field-solid h =
      let e : room_from n.dimension (zones_of case) m ≡ Ok (solid m) = rw (ne_eqb n.dimension 2 h, room_from) in standing {p = Solid n s} e solid-stands

  mesh-field-within : (k : StreamlineField) → field_of m ≡ Ok k → vertices_within k ≡ true
  unfolding mesh_in
  mesh-field-within k e = field-within m (vertex-within case n.points d.points-within) k e

  module _ (two : n.dimension ≡ 2) (w' : List ℕ) (f' : List Float) where
    room-from-flat : room_from n.dimension (zones_of case) m ≡ (field_of m >>= λ k. Ok (flat (zoned (zones_of case) k)))
    unfolding room_from
    room-from-flat = rw (eq-eqb n.dimension 2 two, room_from)

    module _ (r : Refusable Grid) (t : FromDatasetExit m s w' f' r) where
      count : length m.cells ≡ s.cells
      unfolding mesh_in
      count = length-cells_in s w f

      field-refused : (k : Refusal) → r ≡ Err k → field_of m ≡ Err k
      unfolding field_of ◌>>=◌
      field-refused k e =
          let g : grid_of s.cells (polygons_of m) ≡ Err k = sym t.result ∙ e in
          rw (count, g, ◌>>=◌)

      pub add-field-refused : (k : Refusal) → r ≡ Err k → PrepareExit (room_from n.dimension (zones_of case) m) case w' f' (Err k)
      unfolding ◌>>=◌
      add-field-refused k e =
          let g : room_from n.dimension (zones_of case) m ≡ Err k = room-from-flat ∙ rw (field-refused k e, ◌>>=◌) in barred g

      pub add-field-flat : (g : Grid) → r ≡ Ok g → length w' ≡ length w → length f' ≡ length f → PrepareExit (room_from n.dimension (zones_of case) m) case w' f' (Ok (Flat (record { counts = n; sizes = s; grid = g; search = Bins; home = 0 })))
      unfolding ◌>>=◌ room_in Servable counts_in tracer_field staying zoned searching field_in vertices_within
      add-field-flat g e lw lf =
          let whole : room_from n.dimension (zones_of case) m ≡ Ok (flat (zoned (zones_of case) (field_in g s w' f'))) = room-from-flat ∙ rw (t.field g e, ◌>>=◌) in
          standing {p = Flat (record { counts = n; sizes = s; grid = g; search = Bins; home = 0 })} whole
          (record {
            opens = d.opens;
            servable =
                record {
                  opens = d.opens;
                  area = record { lent-words = lent-words s w w' d.lent-words lw; lent-floats = lent-floats s f f' d.lent-floats lf; searchable = t.searchable g e };
                  within = mesh-field-within (field_in g s w' f') (t.field g e);
                };
          })

-- ---- 8 to 17

module _ (case : List ℕ) (n : Counts) (defs : List Definition) (k : ℕ) (w : List ℕ) (f : List Float) (x : Refusable Sizes)
    (b : BuildExit (from_cells n.dimension (points_in case n.points) defs) k (points_in case n.points) w f x) where
  pub built-refused : (k : Refusal) → x ≡ Err k → PrepareExit (room_of case (record { counts = n; definitions = defs })) case w f (Err k)
  unfolding room_of mesh_of ◌>>=◌
  built-refused k e =
      let g : room_of case (record { counts = n; definitions = defs }) ≡ Err k = rw (building-refused k b e, ◌>>=◌) in barred g

  module _ (s : Sizes) (e : x ≡ Ok s) where
    pub built-room : room_from n.dimension (zones_of case) (mesh_in (points_in case n.points) s w f) ≡ room_of case (record { counts = n; definitions = defs })
    unfolding room_of mesh_of ◌>>=◌
    built-room = rw ((building-mesh s b e).mesh, ◌>>=◌)

    pub field-ready : opened case ≡ Ok n → definitions n.cells (words_of case n) ≡ Ok defs → AddFieldEntry case n s w f
    unfolding mesh_in
    field-ready o r =
        let p = building-mesh s b e in
        record {
          opens = o;
          lent-words = p.lent-words;
          lent-floats = p.lent-floats;
          cells = sym (length-cells_in s w f) ∙ mesh-count n.dimension n.cells (points_in case n.points) (words_of case n) defs (mesh_in (points_in case n.points) s w f) r p.mesh ∙ length-definitions n.cells (words_of case n) defs r;
          few = mesh-few n.dimension n.cells (points_in case n.points) (words_of case n) defs (mesh_in (points_in case n.points) s w f) r p.mesh;
          points-within = mesh-within n.dimension n.cells (points_in case n.points) (words_of case n) defs (mesh_in (points_in case n.points) s w f) r p.mesh;
          bounded = mesh-bounded n.dimension n.cells (points_in case n.points) (words_of case n) defs (mesh_in (points_in case n.points) s w f) r p.mesh;
        }

-- the room of a definition is that of another
pub prepared-as : {r r' : Refusable Room} {case w : List ℕ} {f : List Float} {x : Refusable Place} → r ≡ r' → PrepareExit r case w f x → PrepareExit r' case w f x
prepared-as {case} {w} {f} {x} e p = subst (λ (r : Refusable Room). PrepareExit r case w f x) e p

-- ---- 1 to 7, then the room

module _ (case : List ℕ) (n : Counts) (faces requests : ℕ) (lent : Lent) (s : Surveys case n faces) (r : Refusable (Unit {0})) (h : Shortage n faces requests lent r) where
  abbrev c : CaseSurvey
  c = record { counts = n; definitions = s.ds }

  short : shortage c requests lent ≡ r
  unfolding Shortage
  short = h s.ds s.count

  there : survey_of case ≡ Ok c
  there = survey-right case n s.opens s.ds s.right s.zones

  pub prepare-short : (w : List ℕ) (f : List Float) (k : Refusal) → r ≡ Err k → PrepareExit (prepared case requests lent) case w f (Err k)
  unfolding ◌>>=◌
  prepare-short w f k e =
      let g : prepared case requests lent ≡ Err k = prepared-then case requests lent c there ∙ rw (short, e, ◌>>=◌) in barred g

  module _ {u : Unit {0}} (e : r ≡ Ok u) where
    fitting : shortage c requests lent ≡ Ok u
    fitting = short ∙ e

    prepare-room : room_of case c ≡ prepared case requests lent
    unfolding ◌>>=◌
    prepare-room = sym (prepared-then case requests lent c there ∙ rw (fitting, ◌>>=◌))

    pub prepare-ready : {w : List ℕ} {f : List Float} {x : Refusable Place} → PrepareExit (room_of case c) case w f x → PrepareExit (prepared case requests lent) case w f x
    prepare-ready p = prepared-as prepare-room p

    long : area_short c lent.words lent.floats ≡ false
    unfolding shortage
    long = let b = bound _ _ _ fitting in not-due ShortWorkArea _ _ b.had

    pub buildable : (w : List ℕ) (f : List Float) → lent.words ≡ length w → lent.floats ≡ length f → BuildEntry case n faces w f
    buildable w f ew ef =
        let a = area-long n faces lent.words lent.floats s.ds s.count long in
        record {
          opens = s.opens;
          defs = s.ds;
          right = s.right;
          counted = s.count;
          long-words = rw (← ew) a.words_long;
          long-floats = rw (← ef) a.floats-long;
        }
