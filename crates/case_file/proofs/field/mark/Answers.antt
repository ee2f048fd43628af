use mathlib.Core.Path.{sym}
use lib.Seq.{set_out}
use Rattle.case_file.proofs.field.mark.Goals as goal

pub returns-else-i-marks : goal.returns-else-i-marks
returns-else-i-marks c = sym (set_out _ _ _ c.if-i-marks.false)
