-- The largest distances are the roots of the largest squares. Assumes nothing.
use mathlib.Core.Path.{◌≡◌, refl, sym, ap, ◌∙◌}
use mathlib.Core.List.{List}
use lib.Dec.{T}
use lib.Ieee.{Float, binary64, fits, of_bits}
use Rattle.arith_root.specs.Root.{root}
use Rattle.arith.specs.F64.{0·0, fmax}
use Rattle.arith.specs.Lists.{fold}
use Rattle.arith.specs.Vec.{minus, norm_squared, norm}
use Rattle.arith.specs.declared.Vec3.{Vec3}
use Rattle.arith.proofs.RootLaws.{largest-norm, square-fits}
use Rattle.planes_cut.specs.Cut.{widest, farthest}

-- the larger square
unfoldable pub wider : Vec3 → Float → Vec3 → Float
wider from r p = fmax r (norm_squared (minus p from))

unfoldable pub farther : Float → Vec3 → Float
farther r p = fmax r (norm_squared p)

root-zero : root 0·0 ≡ 0·0
unfolding root of_bits
root-zero = refl

zero-fits : T (fits binary64 0·0)
unfolding fits of_bits
zero-fits = tt

pub widest-root : (from : Vec3) (l : List Vec3) → root (fold (wider from) 0·0 l) ≡ fold (widest from) 0·0 l
unfolding wider widest
widest-root from l = sym (ap (λ (s : Float). fold (widest from) s l) (sym root-zero) ∙ largest-norm (λ p. minus p from) 0·0 l zero-fits)

pub farthest-root : (from : Vec3) (l : List Vec3) → root (fold farther (norm_squared from) l) ≡ fold farthest (norm from) l
unfolding farther farthest norm
farthest-root from l = sym (largest-norm (λ p. p) (norm_squared from) l (square-fits from))
