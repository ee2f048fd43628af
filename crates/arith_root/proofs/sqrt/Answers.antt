use mathlib.Core.Path.{◌≡◌, sym, subst, ◌∙◌}
use lib.Dec.{T}
use mathlib.Core.Bool.{true}
use lib.Ieee.{Float, binary64, fits, of_bits, div}
use Rattle.arith_root.specs.Root.{root, SquareRoot}
use Rattle.arith_root.proofs.Cases.{above_no_nan, some_bits, root-above, root-top, root_below, root-else}
use Rattle.arith_root.proofs.Nearest.{root_is}
use Rattle.arith_root.proofs.sqrt.Goals as goal

-- what owning an `f64` tells: the format holds it
held : (x : Float) → fits binary64 x ≡ true → T (fits binary64 x)
held x e = subst T (sym e) tt

-- the second clause, of the value that `root` computes
nearest : (x r : Float) → fits binary64 x ≡ true → r ≡ root x → SquareRoot x r
nearest x r f e = subst (λ (y : Float). SquareRoot x y) (sym e) (root_is x (held x f))

pub float_to_bits-b : goal.float_to_bits-b
unfolding of_bits
float_to_bits-b c = above_no_nan c.args.x c.if-x.true

pub positive-requires : goal.positive-requires
unfolding of_bits
positive-requires c =
    (some_bits c.args.x (held c.args.x c.well_formed.0.1) c.if-x.true, c.if-b-lt9218868437227405312.true)

pub returns-then-b-lt9218868437227405312 : goal.returns-then-b-lt9218868437227405312
unfolding of_bits
returns-then-b-lt9218868437227405312 c =
    let e : _ ≡ root c.args.x = (c.positive.ensures ∙ root-above c.args.x (held c.args.x c.well_formed.0.1) c.if-x.true c.if-b-lt9218868437227405312.true) in record { value = e; square_root = nearest c.args.x _ c.well_formed.0.1 e }

pub returns-else-b-lt9218868437227405312 : goal.returns-else-b-lt9218868437227405312
unfolding of_bits
returns-else-b-lt9218868437227405312 c = let e : _ ≡ root c.args.x = (root-top c.args.x (held c.args.x c.well_formed.0.1) c.if-x.true c.if-b-lt9218868437227405312.false) in record { value = e; square_root = nearest c.args.x _ c.well_formed.0.1 e }

pub returns-then-x-2 : goal.returns-then-x-2
unfolding of_bits div
returns-then-x-2 c = let e : _ ≡ root c.args.x = (root_below c.args.x c.if-x-2.true) in record { value = e; square_root = nearest c.args.x _ c.well_formed.0.1 e }

pub returns-else-x-2 : goal.returns-else-x-2
unfolding of_bits
returns-else-x-2 c = let e : _ ≡ root c.args.x = (root-else c.args.x c.if-x.false c.if-x-2.false) in record { value = e; square_root = nearest c.args.x _ c.well_formed.0.1 e }
