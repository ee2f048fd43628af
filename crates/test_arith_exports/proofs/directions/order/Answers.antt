use Rattle.test_arith_exports.proofs.Laws.{order-done}
use Rattle.test_arith_exports.proofs.directions.order.Goals as goal

pub returns : goal.returns
returns c =
    let m = c.measure.ensures in
    order-done _ _ _ _ _ m.quarters_after m.slopes_after c.sort_by_angle.ensures.places_after
