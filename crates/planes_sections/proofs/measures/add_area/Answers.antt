use Rattle.planes_sections.specs.Intersect.{add_area}
use Rattle.planes_sections.proofs.measures.add_area.Goals as goal

pub returns : goal.returns
unfolding add_area
returns c = rw (c.norm.ensures, c.cross.ensures, c.sub-2.ensures, c.sub.ensures)
