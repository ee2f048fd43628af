-- How the promises of the parts of a step make its own. Assumes nothing.
use Prim.Native.Nat.{ℕ}
use mathlib.Core.Path.{◌≡◌, sym, ◌∙◌}
use mathlib.Core.Bool.{Bool, true, false}
use mathlib.Core.List.{List}
use lib.Ieee.{Float}
use borrow.Author.Tests.{eq-eqb, ne_eqb}
use Rattle.arith.specs.F64.{◌⊕◌, ◌≺◌, finite}
use Rattle.arith.specs.Vec.{plus, minus, times, norm}
use Rattle.arith.specs.declared.Vec3.{Vec3}
use Rattle.reading.specs.declared.Values.{Values}
use Rattle.reading.specs.Asks.{Asks, give, ◌>>=◌}
use Rattle.reading.specs.Served.{Served}
use Rattle.reading.proofs.ServedLaws.{served-give, served-then}
use Rattle.lines_locate.specs.Field.{StreamlineField, zone_at}
use Rattle.lines_velocity.specs.Velocity.{locate_in, from, direction_at}
use Rattle.lines_velocity.proofs.VelocityLaws.{served-lost, served-found}
use Rattle.lines_step.specs.declared.Step.{Step}
use Rattle.lines_step.specs.declared.Step.TheVariants.{Next, Ended}
use Rattle.lines_step.specs.declared.StreamlineOptions.{StreamlineOptions}
use Rattle.lines_step.specs.RungeKutta.{runge_kutta}
use Rattle.lines_step.specs.Step.{here_if, rk4_step, within_length, step}
use Rattle.std.specs.Prelude.{Some, None}
use Rattle.std.specs.declared.option.Option.{Option}

-- a direction taken a way along another one, k
module _ (direction next : Vec3 → Asks (Option Vec3)) (p k : Vec3) (h : Float) {v : ℕ → Values} {m m' : List ℕ} {r : Option Vec3} {way q : Vec3} (ew : way ≡ times k h) (eq : q ≡ plus p way)
    (d : Served (direction q) v m m' r) where
  pub along-lost : r ≡ None → Served (direction (plus p (times k h)) >>= from next) v m m' None
  along-lost e = served-lost next (rw (eq, ew) at d) e

  pub along-found : {m'' : List ℕ} {u : Vec3} {a : Option Vec3} → r ≡ Some u → Served (next u) v m' m'' a → Served (direction (plus p (times k h)) >>= from next) v m m'' a
  along-found e s = served-found next (rw (eq, ew) at d) e s

module _ (F : StreamlineField) (v : ℕ → Values) (m m' : List ℕ) (still h : Float) (p : Vec3) (r : Option Vec3)
    (d : Served (runge_kutta (direction_at F still) h p) v m m' r) where
  pub rk4-lost : r ≡ None → Served (rk4_step F still h p) v m m' None
  unfolding rk4_step
  rk4-lost e = served-lost (λ q. give (here_if F (locate_in F q) q)) d e

  module _ (q : Vec3) (l : Option ℕ) (e : r ≡ Some q) (el : l ≡ locate_in F q) where
    pub rk4-outside : l ≡ None → Served (rk4_step F still h p) v m m' None
    unfolding rk4_step here_if
    rk4-outside n =
        served-found (λ q. give (here_if F (locate_in F q) q)) d e (rw (sym el ∙ n) served-give)

    -- the zone of the cell that was found, and the line's
    module _ (i z home : ℕ) (n : l ≡ Some i) (ez : z ≡ zone_at F i) (eh : home ≡ F.home) where
      pub rk4-inside : z ≡ home → Served (rk4_step F still h p) v m m' (Some q)
      unfolding rk4_step here_if
      rk4-inside k =
          served-found (λ q. give (here_if F (locate_in F q) q)) d e (rw (sym el ∙ n) (rw (eq-eqb (zone_at F i) F.home (sym ez ∙ k ∙ eh)) served-give))

      pub rk4-across : (z ≡ home → ⊥) → Served (rk4_step F still h p) v m m' None
      unfolding rk4_step here_if
      rk4-across k =
          served-found (λ q. give (here_if F (locate_in F q) q)) d e (rw (sym el ∙ n) (rw (ne_eqb (zone_at F i) F.home (λ w. k (ez ∙ w ∙ sym eh))) served-give))

module _ (f : StreamlineField) (v : ℕ → Values) (m m' : List ℕ) (o : StreamlineOptions) (h : Float) (p : Vec3) (total : Float) (r : Option Vec3)
    (d : Served (rk4_step f o.stagnation_speed h p) v m m' r) where
  pub step-ended : r ≡ None → Served (step f o h p total) v m m' Ended
  unfolding step within_length
  step-ended e =
      let s : Served (rk4_step f o.stagnation_speed h p >>= λ q. give (within_length o.max_length p total q)) v m m' Ended =
      served-then (λ q. give (within_length o.max_length p total q)) (rw e at d) served-give
      in
      s

  pub step_kept : (q : Vec3) (x : Step) → r ≡ Some q → x ≡ within_length o.max_length p total (Some q) → Served (step f o h p total) v m m' x
  unfolding step
  step_kept q x e k = rw k (served-then (λ q. give (within_length o.max_length p total q)) (rw e at d) served-give)

-- what is kept of a point q, by the tests of its segment
module _ (longest total segment : Float) (p q offset : Vec3) (is_finite : Bool) (eo : offset ≡ minus q p) (es : segment ≡ norm offset) (ef : is_finite ≡ finite segment) where
  pub kept-too-long : is_finite ≡ true → (longest ≺ total ⊕ segment) ≡ true → Ended ≡ within_length longest p total (Some q)
  unfolding within_length
  kept-too-long h k = rw (← eo, ← es, ← ef, h, k)

  pub kept_on : is_finite ≡ true → (longest ≺ total ⊕ segment) ≡ false → Next q segment ≡ within_length longest p total (Some q)
  unfolding within_length
  kept_on h k = rw (← eo, ← es, ← ef, h, k)

  pub kept-endless : is_finite ≡ false → Ended ≡ within_length longest p total (Some q)
  unfolding within_length
  kept-endless h = rw (← eo, ← es, ← ef, h)
