use Rattle.lines_locate.specs.Bins.{bin_along, bin_for}
use Rattle.lines_locate.specs.Ranges.{index_along, index_bin}
use Rattle.lines_locate.proofs.places_of.Goals as goal

pub returns : goal.returns
unfolding bin_for bin_along index_bin index_along
returns c =
    let x = c.place_along-x.ensures in
    let y = c.place_along-y.ensures in (
      rw (c.bin_at_place.ensures.0, c.bin_at_place-2.ensures.0, c.floor_usize-column.ensures, c.floor_usize-row.ensures, x, y),
      rw (c.index_at.ensures.0, c.index_at-2.ensures.0, x, y),
    )
