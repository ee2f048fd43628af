-- The points of a line locate, and so their millimetres fit. Assumes nothing.
use Prim.Native.Nat.{ℕ}
use native.Mathlib.Omega.{arith}
use mathlib.Core.Path.{◌≡◌, refl, ap, sym, ◌∙◌}
use mathlib.Core.Bool.{Bool, true, false, cond, not, ◌&&◌, true≢false}
use lib.Dec.{eqb}
use lib.Ieee.{Float}
use Rattle.arith.specs.F64.{◌⊕◌, ◌≺◌, finite}
use Rattle.arith.specs.Vec.{minus, norm}
use Rattle.arith.specs.declared.Vec3.{Vec3}
use Rattle.reading.specs.declared.Values.{Values}
use Rattle.reading.specs.Asks.{give, run}
use Rattle.reading.proofs.AsksLaws.{run_bind}
use Rattle.lines_millimetres.specs.Nearest.{under2^53}
use Rattle.lines_words.specs.Ensures.{SheetPointEntry}
use Rattle.lines_locate.specs.Field.{StreamlineField, zone_at}
use Rattle.lines_velocity.specs.Velocity.{locate_in, from, direction_at}
use Rattle.lines_velocity.specs.Ensures.{vertices_within}
use Rattle.lines_velocity.proofs.ReachLaws.{located-near}
use Rattle.lines_step.specs.declared.Step.{Step}
use Rattle.lines_step.specs.declared.Step.TheVariants.{Next, Ended}
use Rattle.lines_step.specs.declared.StreamlineOptions.{StreamlineOptions}
use Rattle.lines_step.specs.RungeKutta.{runge_kutta}
use Rattle.lines_step.specs.Step.{here_if, rk4_step, within_length, step}
use Rattle.lines.specs.Line.{is_nowhere, nowhere}
use Rattle.std.specs.Prelude.{Some, None}
use Rattle.std.specs.declared.option.Option.{Option}

found-near : (F : StreamlineField) (p : Vec3) (r : Option ℕ) → locate_in F p ≡ r → vertices_within F ≡ true → is_nowhere r ≡ false → SheetPointEntry p
unfolding is_nowhere under2^53
found-near F p None e w h = absurd (true≢false h)
found-near F p (Some i) e w h = let n = located-near F p i w e in record { x = n.0; y = n.1 }

-- a point that locates is no further out than a sheet can say
pub near : (F : StreamlineField) (p : Vec3) → vertices_within F ≡ true → nowhere F p ≡ false → SheetPointEntry p
unfolding nowhere
near F p w h = found-near F p (locate_in F p) refl w h

module _ (F : StreamlineField) where
  -- the point itself, where it locates
  here-locates : (p q : Vec3) (r : Option ℕ) → locate_in F p ≡ r → here_if F r p ≡ Some q → nowhere F q ≡ false
  unfolding here_if nowhere is_nowhere
  here-locates p q None e h = absurd (let z : ◌≡◌ {A = ℕ} 0 1 = cc in omega arith)
  here-locates p q (Some i) e h = by (eqb (zone_at F i) F.home) h
    where
      by : (b : Bool) → cond b (Some p) None ≡ Some q → nowhere F q ≡ false
      by true h = let same : p ≡ q = cc in rw (← same, e)
      by false h = absurd (let z : ◌≡◌ {A = ℕ} 0 1 = cc in omega arith)

  from-locates : (v : Option Vec3) (f : ℕ → Values) (q : Vec3) → run (from (λ p. give (here_if F (locate_in F p) p)) v) f ≡ Some q → nowhere F q ≡ false
  unfolding from
  from-locates None f q h = absurd (let z : ◌≡◌ {A = ℕ} 0 1 = cc in omega arith)
  from-locates (Some p) f q h = here-locates p q (locate_in F p) refl h

  rk4-locates : (stagnation h : Float) (p : Vec3) (f : ℕ → Values) (q : Vec3) → run (rk4_step F stagnation h p) f ≡ Some q → nowhere F q ≡ false
  unfolding rk4_step
  rk4-locates stagnation h p f q e =
      let t = runge_kutta (direction_at F stagnation) h p in
      from-locates (run t f) f q (sym (run_bind t (from (λ r. give (here_if F (locate_in F r) r))) f) ∙ e)

  within-here : (longest : Float) (p : Vec3) (total : Float) (v : Option Vec3) (q : Vec3) (segment : Float) → within_length longest p total v ≡ Next q segment → v ≡ Some q
  unfolding within_length
  within-here longest p total None q segment h = absurd (let z : ◌≡◌ {A = ℕ} 0 1 = cc in omega arith)
  within-here longest p total (Some r) q segment h =
      let s = norm (minus r p) in by (finite s && not (longest ≺ total ⊕ s)) h
    where
      by : (b : Bool) → cond b (Next r (norm (minus r p))) Ended ≡ Next q segment → Some r ≡ Some q
      by true h = let same : r ≡ q = cc in ap Some same
      by false h = absurd (let z : ◌≡◌ {A = ℕ} 0 1 = cc in omega arith)

  -- a step that goes on goes to a point that locates
  pub step-locates : (o : StreamlineOptions) (h : Float) (p : Vec3) (total : Float) (f : ℕ → Values) {r : Step} {q : Vec3} {segment : Float} → r ≡ run (step F o h p total) f
      → r ≡ Next q segment → nowhere F q ≡ false
  unfolding step
  step-locates o h p total f {q} {segment} e n =
      let t = rk4_step F o.stagnation_speed h p in
      rk4-locates o.stagnation_speed h p f q
      (within-here o.max_length p total (run t f) q segment (sym (run_bind t (λ v. give (within_length o.max_length p total v)) f) ∙ sym e ∙ n))
