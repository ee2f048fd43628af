use mathlib.Core.Path.{sym}
use lib.Seq.{length-take-le}
use Rattle.test_arith_exports.proofs.directions.sort.Goals as goal

pub slice_bounds-order-end : goal.slice_bounds-order-end
slice_bounds-order-end c = sym (length-take-le _ _ c.requires.0)

pub slice_bounds-order-end-2 : goal.slice_bounds-order-end-2
slice_bounds-order-end-2 c = sym (length-take-le _ _ c.requires.0)

pub order-requires : goal.order-requires
order-requires c =
    let p = c.requires in
    record { equal_lengths = record { second = p.1; quarter = length-take-le _ _ p.0; slope = length-take-le _ _ p.0 }; places_len = p.2 }
