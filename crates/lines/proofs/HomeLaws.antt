-- The zone of a seed. Assumes nothing.
use Prim.Native.Nat.{ℕ}
use mathlib.Core.Path.{◌≡◌, refl, ap, sym, ◌∙◌}
use mathlib.Core.List.{List}
use lib.Ieee.{Float}
use Rattle.arith.specs.declared.Vec3.{Vec3}
use Rattle.case_file.specs.Field.{zone_of}
use Rattle.case_file.proofs.ZoneLaws.{zone-first}
use Rattle.lines_locate.specs.Field.{StreamlineField, staying}
use Rattle.lines_velocity.specs.declared.Tracer.{Tracer}
use Rattle.lines_velocity.specs.Velocity.{locate_in}
use Rattle.lines_velocity.specs.Ensures.{tracer_field, tracer_staying, TracerEntry}
use Rattle.lines_velocity.proofs.TracerLaws.{tracer-zone, staying-field}
use Rattle.lines.specs.Line.{zone_found, home_of}
use Rattle.std.specs.Prelude.{Some, None}
use Rattle.std.specs.declared.option.Option.{Option}

module _ (t : Tracer) (case words : List ℕ) (floats : List Float) (seed : Vec3) where
  abbrev F : StreamlineField
  F = tracer_field t case words floats

  -- of no cell in edition 1 is it other than 0
  pub home-first : TracerEntry case words floats t → (t.counts.edition ≡ 2 → ⊥) → 0 ≡ home_of F seed
  unfolding home_of
  home-first h one = by (locate_in F seed)
    where
      by : (r : Option ℕ) → 0 ≡ zone_found F r
      by None = unfold zone_found in refl
      by (Some i) = unfold zone_found in tracer-zone t case words floats i 0 (sym (zone-first case t.counts h.opens i one))

  module _ (r : Option ℕ) (e : r ≡ locate_in F seed) where
    pub home-there : (i z : ℕ) → r ≡ Some i → z ≡ zone_of case i → z ≡ home_of F seed
    unfolding home_of zone_found
    home-there i z n ez = rw (sym e ∙ n) (tracer-zone t case words floats i z ez)

    pub home-none : r ≡ None → 0 ≡ home_of F seed
    unfolding home_of zone_found
    home-none n = rw (sym e ∙ n)

  -- a tracer that stays there
  pub stays-home : (u : Tracer) (home : ℕ) → u ≡ tracer_staying home t → home ≡ home_of F seed → tracer_field u case words floats ≡ staying (home_of F seed) F
  stays-home u home e h = staying-field t u home case words floats e ∙ ap (λ z. staying z F) h
