use native.Mathlib.Omega.{arith}
use Rattle.lines_locate.specs.Ranges.{index_along, index_bin}
use Rattle.lines_locate.proofs.index_bin.Goals as goal

pub returns : goal.returns
unfolding index_bin index_along
returns c =
    let x = c.index_at.ensures in
    let y = c.index_at-2.ensures in
    let p = c.requires in (
      rw (x.0, y.0, c.place_along-x.ensures, c.place_along-y.ensures),
      omega (arith, x.1, p.few-wide),
      omega (arith, y.1, p.few-high),
    )
