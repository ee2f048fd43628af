use Rattle.planes_sums.proofs.measures.side_crosses.Goals as goal

pub returns : goal.returns
returns c = rw (c.crosses.ensures, c.project-b.ensures, c.point_in-2.ensures, c.project-a.ensures, c.point_in.ensures, c.next_of-j.ensures.0)
