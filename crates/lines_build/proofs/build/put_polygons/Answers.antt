use Rattle.lines_field.proofs.BuildLaws.{building-start, building-fits, building-turn, building-end}
use borrow.Author.Rules.{rules}
use Rattle.lines_build.proofs.build.put_polygons.Goals as goal

pub loop-i-init : goal.loop-i-init
loop-i-init c = building-start _ _ _ _

pub put_polygon-requires : goal.put_polygon-requires
put_polygon-requires c = record { points_le_most_points = search rules; i_len_bound = building-fits _ _ _ _ _ _ _ c.loop-i.invariant c.requires.vertex_limit }

pub loop-i-preserved : goal.loop-i-preserved
loop-i-preserved c = building-turn _ _ _ _ _ _ _ _ _ c.loop-i.invariant c.loop-i-test.true (search rules) (search rules) c.put_polygon.ensures

pub returns : goal.returns
returns c = building-end _ _ _ _ _ _ _ c.loop-i.invariant c.loop-i-test.false
