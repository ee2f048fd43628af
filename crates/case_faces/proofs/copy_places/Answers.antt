use Rattle.case_faces.proofs.FaceLaws.{three-room, four-room, last-room, three-copied, four-copied}
use Rattle.case_faces.proofs.copy_places.Goals as goal

-- `case_faces::copy_places` meets its contract. Assumes nothing.
pub copy_three-requires : goal.copy_three-requires
copy_three-requires c =
    let p = c.requires in
    three-room _ _ _ p.0 p.1 c.args.out.now p.2 p.3 p.4 _ p.5 _ _ _ c.in-Three.is

pub copy_three-requires-in-Four : goal.copy_three-requires-in-Four
copy_three-requires-in-Four c =
    let p = c.requires in
    four-room _ _ _ p.0 p.1 c.args.out.now p.2 p.3 p.4 _ p.5 _ _ _ _ c.in-Four.is

pub number_at-requires : goal.number_at-requires
number_at-requires c =
    let p = c.requires in
    last-room _ _ _ p.0 p.1 c.args.out.now p.2 p.3 p.4 _ p.5 _ _ _ _ c.in-Four.is

pub returns-in-Three : goal.returns-in-Three
returns-in-Three c =
    let p = c.requires in
    three-copied _ _ _ p.0 p.1 _ p.2 p.3 p.4 _ p.5 _ _ _ _ c.copy_three.ensures _ c.in-Three.is c.passed.ensures

pub returns-in-Four : goal.returns-in-Four
returns-in-Four c =
    let p = c.requires in
    four-copied _ _ _ p.0 p.1 _ p.2 p.3 p.4 _ p.5 _ _ _ _ c.copy_three-in-Four.ensures _ _ _ c.in-Four.is c.number_at.ensures c.passed-in-Four.ensures
