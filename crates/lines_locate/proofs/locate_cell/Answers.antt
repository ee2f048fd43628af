use mathlib.Core.Path.{refl}
use Rattle.lines_locate.proofs.FoundLaws.{found, first-not, second-not}
use Rattle.lines_locate.specs.Layout.{cell_polygons_in}
use Rattle.lines_locate.specs.Locate.{xy_of}
use Rattle.lines_locate.proofs.locate_cell.Goals as goal
use Rattle.lines_locate.proofs.locate_cell.Goals.{else-is_finite-via-then-is_finite+else-is_finite-2, else-is_finite-via-else-is_finite}

pub returns-then-is_finite-2 : goal.returns-then-is_finite-2
returns-then-is_finite-2 c =
    let a = c.args in
    let r = found a.search a.g (cell_polygons_in a.s a.words.now a.floats.now) a.p c.first_at.result _ _ c.is_finite.ensures c.is_finite-then-is_finite.ensures c.if-is_finite.true c.if-is_finite-2.true (unfold xy_of in c.first_at.ensures) in
    record { value = r.0; at_or_below = r.1 }

pub returns-else-is_finite : goal.returns-else-is_finite
returns-else-is_finite c =
    let a = c.args in
    let cells = cell_polygons_in a.s a.words.now a.floats.now in
    elim c.else-is_finite.branch [
      | else-is_finite-via-then-is_finite+else-is_finite-2 w ↦
          (let r = second-not a.search a.g cells a.p c.nowhere.result _ _ c.is_finite.ensures w.is_finite-then-is_finite.ensures w.if-is_finite.true w.if-is_finite-2.false c.nowhere.ensures in
          record { value = r.0; at_or_below = r.1 })
      | else-is_finite-via-else-is_finite w ↦
          (let r = first-not a.search a.g cells a.p c.nowhere.result _ _ c.is_finite.ensures refl w.if-is_finite.false c.nowhere.ensures in
          record { value = r.0; at_or_below = r.1 })
    ]
