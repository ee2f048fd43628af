use Rattle.test_stored.proofs.PieceLaws.{named}
use Rattle.test_stored.proofs.show_name.Goals as goal

-- `test_stored::show_name`: where the name stands. Assumes nothing.
pub returns : goal.returns
returns g c = named c.args.room.now c.read_exact.new.buf c.number-n.result c.number-n.ensures.0 c.read_exact.auto.buf
