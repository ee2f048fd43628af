use Rattle.test_rooms.specs.Starred.{starred}
use Rattle.test_rooms.proofs.known_rooms.Goals as goal

-- `test_rooms::known_rooms`: the table of the starred rooms. Assumes nothing.
pub returns : goal.returns
returns c = starred
