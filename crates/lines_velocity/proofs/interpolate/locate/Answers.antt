use mathlib.Core.Path.{ap}
use Rattle.lines_locate.specs.declared.Located.{Located}
use Rattle.lines_locate.specs.Field.{searching, zoned, staying}
use Rattle.lines_locate.specs.Layout.{field_in}
use Rattle.lines_locate.specs.Locate.{with_position, located}
use Rattle.lines_velocity.specs.Velocity.{located_in, locate_in}
use Rattle.lines_velocity.specs.Ensures.{tracer_field}
use Rattle.lines_velocity.proofs.interpolate.locate.Goals as goal

pub returns : goal.returns
unfolding located_in locate_in tracer_field staying zoned searching field_in located with_position
returns c = record { by_index = λ case. c.locate_cell.ensures.value; by_index_2 = λ case. ap (λ (l : Located). l.cell) c.locate_cell.ensures.value }
