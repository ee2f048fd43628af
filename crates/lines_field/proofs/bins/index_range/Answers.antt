use native.Mathlib.Omega.{arith}
use Rattle.lines_locate.specs.Ranges.{first_bin, last_bin}
use Rattle.lines_field.proofs.bins.index_range.Goals as goal

pub returns : goal.returns
unfolding first_bin last_bin
returns c =
    let a = c.index_bin.ensures in
    let b = c.index_bin-2.ensures in
    (a.0, b.0, record { first-x = omega (arith, a.1); first-y = omega (arith, a.2); last-x = omega (arith, b.1); last-y = omega (arith, b.2) })
