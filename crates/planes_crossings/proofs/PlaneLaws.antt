-- A point in the plane, within the tolerance, is not beyond it. Assumes nothing.
use Prim.Native.Nat.{ℕ, ◌+◌, ◌*◌, ◌≤◌}
use native.Mathlib.Omega.{arith}
use mathlib.Core.Path.{◌≡◌, refl}
use mathlib.Core.Bool.{Bool, true, false, cond, ◌&&◌, ◌||◌, true≢false, false≢true}
use mathlib.Core.List.{List}
use lib.Dec.{ltb, eqb}
use lib.Ieee.{Float, nan, inf, fin, lt, le, eq, neg, up, down}
use borrow.Author.Tests.{ltb-true, le-ltb, eqb-true}
use Rattle.arith.specs.F64.{abs}
use Rattle.arith.specs.Lists.{add_new}
use Rattle.arith.specs.declared.Vec3.{Vec3}
use Rattle.planes_cut.specs.declared.Cut.{Cut}
use Rattle.planes_cut.specs.Cut.{height, near, below, above}
use Rattle.planes_crossings.specs.Crossings.{rises, parted, close, between, add_end, add_between, add_crossing}
use Rattle.planes_crossings.specs.Ensures.{crossing_of}
use Rattle.std.specs.Prelude.{Some, None}

or_cases : (a b : Bool) → (a || b) ≡ true → a ≡ false → b ≡ true
or_cases true b e f = absurd (true≢false f)
or_cases false b e f = e

-- at most: less, or equal
pub at_most : (a b : ℕ) (c : Bool) → (ltb a b || (eqb a b && c)) ≡ true → a ≤ b
at_most a b c e = by (ltb a b) refl (eqb a b) refl e
  where
    by : (t : Bool) → ltb a b ≡ t → (u : Bool) → eqb a b ≡ u → (t || (u && c)) ≡ true → a ≤ b
    by true p u q e = let h = ltb-true a b p in omega arith
    by false p true q e = let h = eqb-true a b q in omega arith
    by false p false q e = absurd (false≢true e)

both_zero : (a b : ℕ) → (eqb a b && eqb a 0) ≡ true → (a ≡ b) × (a ≡ 0)
both_zero a b e = by (eqb a b) refl (eqb a 0) refl e
  where
    by : (t : Bool) → eqb a b ≡ t → (u : Bool) → eqb a 0 ≡ u → (t && u) ≡ true → (a ≡ b) × (a ≡ 0)
    by true p true q e = (eqb-true a b p, eqb-true a 0 q)
    by true p false q e = absurd (false≢true e)
    by false p u q e = absurd (false≢true e)

pub record Inside (x e : Float) : Type 0 where
  pub not-below : lt x (neg e) ≡ false
  pub not-above : lt e x ≡ false

pub inside : (x e : Float) → le (abs x) e ≡ true → Inside x e
unfolding le lt eq abs neg
inside nan e h = absurd (false≢true h)
inside (inf s) nan h = absurd (false≢true h)
inside (inf true) (inf false) h = record { not-below = refl; not-above = refl }
inside (inf false) (inf false) h = record { not-below = refl; not-above = refl }
inside (inf s) (inf true) h = absurd (false≢true h)
inside (inf s) (fin t n d) h = absurd (false≢true h)
inside (fin s m k) nan h = absurd (false≢true h)
inside (fin s m k) (inf false) h = record { not-below = refl; not-above = refl }
inside (fin s m k) (inf true) h = absurd (false≢true h)
inside (fin true m k) (fin false n d) h =
    let l = at_most (m * up k * down d) (n * up d * down k) true h in
    record { not-below = le-ltb (n * up d * down k) (m * up k * down d) l; not-above = refl }
inside (fin false m k) (fin false n d) h =
    let l = at_most (m * up k * down d) (n * up d * down k) true h in
    record { not-below = refl; not-above = le-ltb (n * up d * down k) (m * up k * down d) l }
inside (fin true m k) (fin true n d) h =
    let z = both_zero (m * up k * down d) (n * up d * down k) h in
    record { not-below = le-ltb 0 (m * up k * down d + n * up d * down k) (omega (arith, z.0, z.1)); not-above = le-ltb (m * up k * down d) (n * up d * down k) (omega (arith, z.0)) }
inside (fin false m k) (fin true n d) h =
    let z = both_zero (m * up k * down d) (n * up d * down k) h in
    record { not-below = le-ltb (m * up k * down d) (n * up d * down k) (omega (arith, z.0)); not-above = le-ltb 0 (n * up d * down k + m * up k * down d) (omega (arith, z.0, z.1)) }

-- ---- one side meets the plane at one point at most

module _ (c : Cut) (a b : Vec3) where
  pub near-not-parted : near c a ≡ true → parted c a b ≡ false
  unfolding near parted rises below above
  near-not-parted h =
      let i = inside (height c a) c.tolerance h in
      rw (i.not-below, i.not-above) (last (lt (height c b) (neg c.tolerance)))
    where
      last : (t : Bool) → (t && false) ≡ false
      last true = refl
      last false = refl

  module _ (l : List Vec3) where
    pub meeting-point : (p : Vec3) → crossing_of c a b ≡ Some p → add_new (close c) l p ≡ add_crossing c l a b
    unfolding crossing_of add_crossing add_end add_between
    meeting-point p e = by (near c a) refl (parted c a b) refl e
      where
        by : (t : Bool) → near c a ≡ t → (u : Bool) → parted c a b ≡ u → cond t (Some a) (cond u (Some (between c a b)) None) ≡ Some p →
            add_new (close c) l p ≡ cond (parted c a b) (add_new (close c) (cond (near c a) (add_new (close c) l a) l) (between c a b)) (cond (near c a) (add_new (close c) l a) l)
        by true g u k e = let w : a ≡ p = cc in rw (near-not-parted g, g, w)
        by false g true k e = let w : between c a b ≡ p = cc in rw (k, g, w)
        by false g false k e = absurd (let z : ◌≡◌ {A = ℕ} 0 1 = cc in omega arith)

    pub meeting-none : crossing_of c a b ≡ None → l ≡ add_crossing c l a b
    unfolding crossing_of add_crossing add_end add_between
    meeting-none e = by (near c a) refl (parted c a b) refl e
      where
        by : (t : Bool) → near c a ≡ t → (u : Bool) → parted c a b ≡ u → cond t (Some a) (cond u (Some (between c a b)) None) ≡ None →
            l ≡ cond (parted c a b) (add_new (close c) (cond (near c a) (add_new (close c) l a) l) (between c a b)) (cond (near c a) (add_new (close c) l a) l)
        by true g u k e = absurd (let z : ◌≡◌ {A = ℕ} 0 1 = cc in omega arith)
        by false g true k e = absurd (let z : ◌≡◌ {A = ℕ} 0 1 = cc in omega arith)
        by false g false k e = rw (k, g)
