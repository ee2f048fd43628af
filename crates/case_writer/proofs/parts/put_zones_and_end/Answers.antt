use mathlib.Core.Path.{◌∙◌}
use native.Mathlib.Omega.{arith}
use Rattle.case_writer.proofs.PartLaws.{end_fits, tail-first, tail-second}
use Rattle.case_writer.proofs.parts.put_zones_and_end.Goals as goal
use Rattle.case_writer.proofs.parts.put_zones_and_end.Goals.{then-n-eq2, else-n-eq2}

pub put_u32s-requires : goal.put_u32s-requires
put_u32s-requires c = omega (arith, end_fits _ c.args.out.now c.if-n-eq2.true c.requires.0, c.requires.1)

pub returns : goal.returns
returns c = elim c.if-n-eq2.branch [
  | then-n-eq2 w ↦ tail-second _ _ _ w.if-n-eq2.true c.requires.1 c.requires.0 (w.out-is ∙ w.put_u32s.ensures) c.put_end.ensures
  | else-n-eq2 w ↦ tail-first _ _ _ w.if-n-eq2.false (rw w.out-is at c.put_end.ensures)
]
