use native.Mathlib.Omega.{arith}
use Rattle.case_file.specs.Trailer.{zones_from}
use Rattle.case_writer.proofs.PartLaws.{fields-joined}
use Rattle.case_writer.proofs.parts.put_fields.Goals as goal

pub put_u64s-requires : goal.put_u64s-requires
unfolding zones_from
put_u64s-requires c = omega (arith, c.requires.sized.points, c.requires.sized.words, c.requires.sized.velocities, c.requires.sized.pressures, c.requires.fits)

pub put_u32s-requires : goal.put_u32s-requires
unfolding zones_from
put_u32s-requires c = omega (arith, c.requires.sized.points, c.requires.sized.words, c.requires.sized.velocities, c.requires.sized.pressures, c.requires.fits)

pub put_u64s-requires-2 : goal.put_u64s-requires-2
unfolding zones_from
put_u64s-requires-2 c = omega (arith, c.requires.sized.points, c.requires.sized.words, c.requires.sized.velocities, c.requires.sized.pressures, c.requires.fits)

pub put_u64s-requires-3 : goal.put_u64s-requires-3
unfolding zones_from
put_u64s-requires-3 c = omega (arith, c.requires.sized.points, c.requires.sized.words, c.requires.sized.velocities, c.requires.sized.pressures, c.requires.fits)

pub returns : goal.returns
returns c =
    fields-joined _ _ _ _ _ _ _ _ _ _ _ c.requires c.put_u64s.ensures c.put_u32s.ensures c.put_u64s-2.ensures
    c.put_u64s-3.ensures
