use Rattle.planes_crossings.specs.Crossings.{between}
use Rattle.planes_crossings.proofs.crossings.between.Goals as goal

pub returns : goal.returns
unfolding between
returns c =
    let p = c.requires in
    rw (c.add.ensures, c.scale.ensures, c.sub.ensures, p.0.same, p.1.same)
