use Rattle.std.proofs.Common.{◌≡◌, Bool, true, false, not, refl, sym, ◌∙◌}
use Rattle.std.proofs.lemmas.Float.{lt_irrefl, lt_of_le_of_lt, lt_of_not-le}
use lib.Dec.{T}
use lib.Ieee.{Float, nan, inf, fin, is_nan, of_bits}
use Rattle.arith.specs.F64.{◌≺◌, ◌≼◌, 2^-52, finite}
use Rattle.lines_velocity.specs.Velocity.{apart}
use Rattle.lines_velocity.proofs.interpolate.apart.Goals as goal

number : (x : Float) → finite x ≡ true → T (not (is_nan x))
unfolding finite is_nan
number nan h = cc
number (inf s) h = tt
number (fin s m e) h = tt

holds : (b : Bool) → T b → b ≡ true
holds true t = refl
holds false t = absurd t

-- a number is above 2^-52 where it is not at most 2^-52
above_is : (x : Float) → finite x ≡ true → (2^-52 ≺ x) ≡ not (x ≼ 2^-52)
unfolding is_nan of_bits
above_is x h = by (x ≼ 2^-52) refl (2^-52 ≺ x) refl
  where
    by : (a : Bool) → (x ≼ 2^-52) ≡ a → (b : Bool) → (2^-52 ≺ x) ≡ b → b ≡ not a
    by true p true q = absurd (lt_irrefl x (lt_of_le_of_lt x 2^-52 x (rw p tt) (rw q tt)))
    by true p false q = refl
    by false p b q = sym q ∙ holds (2^-52 ≺ x) (lt_of_not-le x 2^-52 (number x h) tt (rw p tt))

pub returns-then-is_finite : goal.returns-then-is_finite
unfolding apart
returns-then-is_finite c =
    let f = sym c.is_finite.ensures ∙ c.if-is_finite.true in
    rw (← c.norm_squared-d.ensures, f) (above_is c.norm_squared-d.result f)

pub returns-else-is_finite : goal.returns-else-is_finite
unfolding apart
returns-else-is_finite c = rw (← c.norm_squared-d.ensures, ← c.is_finite.ensures, c.if-is_finite.false)
