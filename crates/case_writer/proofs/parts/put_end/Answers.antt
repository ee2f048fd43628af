use native.Mathlib.Omega.{arith}
use Rattle.case_file.specs.Trailer.{zones_from, trailer_from}
use Rattle.case_writer.proofs.PartLaws.{end-first, end_fits, end-second}
use Rattle.case_writer.proofs.parts.put_end.Goals as goal

pub put_trailer-requires : goal.put_trailer-requires
unfolding trailer_from zones_from
put_trailer-requires c = (c.requires.sized, omega (arith, c.requires.fits))

pub returns-then-n-ne2 : goal.returns-then-n-ne2
returns-then-n-ne2 c = end-first _ _ c.if-n-ne2.true c.put_trailer.ensures

pub put_number-requires : goal.put_number-requires
put_number-requires c = omega (arith, end_fits _ c.args.out.now c.if-n-ne2.false c.requires)

pub put_trailer-requires-2 : goal.put_trailer-requires-2
put_trailer-requires-2 c = (c.requires.sized, omega (arith, end_fits _ c.args.out.now c.if-n-ne2.false c.requires))

pub returns : goal.returns
returns c =
    end-second _ _ c.if-n-ne2.false c.requires c.put_number.ensures c.put_trailer-2.ensures
