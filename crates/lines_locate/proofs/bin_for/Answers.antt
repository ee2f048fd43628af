use native.Mathlib.Omega.{arith}
use Rattle.lines_locate.specs.Bins.{bin_along, bin_for}
use Rattle.lines_locate.proofs.bin_for.Goals as goal

pub returns : goal.returns
unfolding bin_for bin_along
returns c =
    let x = c.bin_at_place.ensures in
    let y = c.bin_at_place-2.ensures in
    let p = c.requires in (
      rw (x.0, y.0, c.floor_usize.ensures, c.floor_usize-2.ensures, c.place_along-x.ensures, c.place_along-y.ensures),
      omega (arith, x.1, p.few-wide),
      omega (arith, y.1, p.few-high),
    )
