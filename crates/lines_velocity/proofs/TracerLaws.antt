-- The zones of a tracer's field; and a tracer under another search, or for a line that stays in another zone: the same field under it, and the same
-- needs. Assumes nothing.
use Prim.Native.Nat.{ℕ}
use mathlib.Core.Path.{◌≡◌, refl, sym, ◌∙◌}
use mathlib.Core.List.{List}
use lib.Ieee.{Float}
use Rattle.case_file.specs.Field.{zone_of}
use Rattle.case_file.proofs.ZoneLaws.{get_or-zones}
use Rattle.lines_locate.specs.declared.Search.{Search}
use Rattle.lines_locate.specs.Field.{zone_at, searching, zoned, staying}
use Rattle.lines_velocity.specs.declared.Tracer.{Tracer}
use Rattle.lines_velocity.specs.Ensures.{tracer_field, tracer_searching, tracer_staying, vertices_within, LocateEntry, TracerEntry}

module _ (t : Tracer) (case words : List ℕ) (floats : List Float) where
  pub tracer-zone : (i z : ℕ) → z ≡ zone_of case i → z ≡ zone_at (tracer_field t case words floats) i
  unfolding zone_at tracer_field staying zoned
  tracer-zone i z e = e ∙ sym (get_or-zones case i)

  pub tracer-home : t.home ≡ (tracer_field t case words floats).home
  unfolding tracer_field staying
  tracer-home = refl

module _ (t u : Tracer) (search : Search) (words : List ℕ) (floats : List Float) (e : u ≡ tracer_searching search t) where
  pub searching-field : (case : List ℕ) → tracer_field u case words floats ≡ searching search (tracer_field t case words floats)
  unfolding tracer_field tracer_searching searching zoned staying
  searching-field case = rw e

  pub searching-locates : LocateEntry words floats t → LocateEntry words floats u
  unfolding tracer_searching
  searching-locates h = rw e (record { lent-words = h.lent-words; lent-floats = h.lent-floats; searchable = h.searchable })

  pub searching-traces : {case : List ℕ} → TracerEntry case words floats t → TracerEntry case words floats u
  unfolding tracer_searching searching vertices_within
  searching-traces {case} h = record { opens = rw e h.opens; area = searching-locates h.area; within = rw (searching-field case) h.within }

module _ (t u : Tracer) (home : ℕ) (case words : List ℕ) (floats : List Float) (e : u ≡ tracer_staying home t) where
  pub staying-field : tracer_field u case words floats ≡ staying home (tracer_field t case words floats)
  unfolding tracer_field tracer_staying searching zoned staying
  staying-field = rw e

  pub staying-traces : TracerEntry case words floats t → TracerEntry case words floats u
  unfolding tracer_staying staying vertices_within
  staying-traces h =
      record {
        opens = rw e h.opens;
        area = rw e (record { lent-words = h.area.lent-words; lent-floats = h.area.lent-floats; searchable = h.area.searchable });
        within = rw staying-field h.within;
      }
