use mathlib.Core.Path.{sym}
use Rattle.planes_crossings.specs.Crossings.{rises}
use Rattle.planes_cut.specs.Cut.{below, above}
use Rattle.planes_crossings.proofs.crossings.rises.Goals as goal

pub returns-then-a-cut : goal.returns-then-a-cut
unfolding rises below above
returns-then-a-cut c =
    let p = c.requires in
    rw (sym p.0.same, sym p.1.same, c.if-a-cut.true)

pub returns-else-a-cut : goal.returns-else-a-cut
unfolding rises below above
returns-else-a-cut c =
    let p = c.requires in
    rw (sym p.0.same, c.if-a-cut.false)
