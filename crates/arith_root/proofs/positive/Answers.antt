use mathlib.Core.Path.{sym, subst, ◌∙◌}
use Prim.Native.Nat.{◌*◌, ◌^◌}
use native.Mathlib.Omega.{arith}
use lib.Dec.{T}
use Rattle.arith_whole_root.specs.Whole.{HalfRoot}
use Rattle.arith_root.proofs.Pack.{wide, wide-in, half_pos, half-fits, half-packed, half-no-nan}
use Rattle.arith_root.proofs.positive.Goals as goal

-- half of the root of the parts that `unpack` gave
found : (c : goal.After-half_root) → let p = c in HalfRoot (wide p.unpack-p.result.a p.unpack-p.result.h * 2 ^ 54) c.half_root.result
found c = c.half_root.ensures

pub overflow_mul-d : goal.overflow_mul-d
overflow_mul-d c =
    omega (arith, (wide-in c.args.b c.unpack-p.result.a c.unpack-p.result.h c.unpack-p.ensures).1)

pub returns-then-is_half_root : goal.returns-then-is_half_root
returns-then-is_half_root c =
    let h = c.is_half_root.ensures (subst T (sym c.if-is_half_root.true) tt) in
    c.pattern_from-m.ensures (half_pos c.args.b c.unpack-p.result.a c.unpack-p.result.h c.pattern_from-m.result c.unpack-p.ensures h)
    ∙ half-packed c.args.b c.unpack-p.result.a c.unpack-p.result.h c.pattern_from-m.result c.unpack-p.ensures h

pub half_root-requires : goal.half_root-requires
half_root-requires c =
    omega (arith, (wide-in c.args.b c.unpack-p.result.a c.unpack-p.result.h c.unpack-p.ensures).1)

pub overflow_add-result : goal.overflow_add-result
overflow_add-result c =
    omega (arith, half-fits c.args.b c.unpack-p.result.a c.unpack-p.result.h c.half_root.result c.unpack-p.ensures (found c), c.unpack-p.ensures.to)

pub float_from_bits-result : goal.float_from_bits-result
float_from_bits-result c =
    half-no-nan c.args.b c.unpack-p.result.a c.unpack-p.result.h c.half_root.result c.unpack-p.ensures (found c)

pub returns : goal.returns
returns c =
    half-packed c.args.b c.unpack-p.result.a c.unpack-p.result.h c.half_root.result c.unpack-p.ensures (found c)
