use native.Mathlib.Omega.{arith}
use Rattle.arith_whole_root.proofs.Halves.{product, checked}
use Rattle.arith_whole_root.proofs.is_root_from.Goals as goal

pub overflow_mul-h : goal.overflow_mul-h
overflow_mul-h c = omega (arith, product c.args.h c.args.h c.requires.0 c.requires.0)

pub overflow_mul-m : goal.overflow_mul-m
overflow_mul-m c = omega (arith, product c.args.h c.args.l c.requires.0 c.requires.1)

pub overflow_mul-m-2 : goal.overflow_mul-m-2
overflow_mul-m-2 c = omega (arith, product c.args.h c.args.l c.requires.0 c.requires.1)

pub overflow_mul-l : goal.overflow_mul-l
overflow_mul-l c = omega (arith, product c.args.l c.args.l c.requires.1 c.requires.1)

pub returns : goal.returns
returns c t =
    let a = c.args in
    checked a.d a.h a.l c.if-d-h.false c.if-a-m.false c.if-b-l.false t
