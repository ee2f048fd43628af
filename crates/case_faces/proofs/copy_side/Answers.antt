use Rattle.case_faces.proofs.FaceLaws.{side-of-polygon, side-copied}
use Rattle.case_faces.proofs.copy_side.Goals as goal

-- `case_faces::copy_side` meets its contract. Assumes nothing.
pub number_at-requires : goal.number_at-requires
number_at-requires c = let p = c.requires in (side-of-polygon _ _ _ p.0 p.1 p.3).room _ p.1

pub number_at-requires-2 : goal.number_at-requires-2
number_at-requires-2 c =
    let p = c.requires in
    (side-of-polygon _ _ _ p.0 p.1 p.3).room _ c.place_after.ensures.1

pub returns : goal.returns
returns c =
    let p = c.requires in
    side-copied _ _ _ p.0 p.1 _ p.2 _ _ _ _ p.3 c.number_at.ensures c.place_after.ensures.0 c.number_at-2.ensures
    c.passed.ensures
