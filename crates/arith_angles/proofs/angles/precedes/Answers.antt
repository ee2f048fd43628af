use Prim.Native.Nat.{◌%◌}
use mathlib.Core.Path.{◌≡◌, refl}
use mathlib.Core.Bool.{Bool, true, false, ◌||◌}
use borrow.Author.Tests.{le-ltb, eq-eqb, ne_eqb}
use native.Mathlib.Omega.{arith}
use Rattle.arith_angles.specs.Angle.{precedes}
use Rattle.arith_angles.proofs.angles.precedes.Goals as goal

or-false : (b : Bool) → b ≡ b || false
or-false true = refl
or-false false = refl

pub returns-then-a-b : goal.returns-then-a-b
unfolding precedes
returns-then-a-b c = rw (ne_eqb _ _ c.if-a-b.true) (or-false _)

pub returns-then-a-eq0 : goal.returns-then-a-eq0
unfolding precedes
returns-then-a-eq0 c =
    rw (le-ltb c.args.a.quarter c.args.b.quarter (omega arith), eq-eqb c.args.a.quarter c.args.b.quarter c.if-a-b.false, eq-eqb (c.args.a.quarter % 2) 0 c.if-a-eq0.true)

pub returns-else-a-eq0 : goal.returns-else-a-eq0
unfolding precedes
returns-else-a-eq0 c =
    rw (le-ltb c.args.a.quarter c.args.b.quarter (omega arith), eq-eqb c.args.a.quarter c.args.b.quarter c.if-a-b.false, ne_eqb (c.args.a.quarter % 2) 0 c.if-a-eq0.false)
