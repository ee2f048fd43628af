use native.Mathlib.Omega.{arith}
use Rattle.case_file.proofs.TrailerLaws.{zones-none, zones-some}
use Rattle.case_file.proofs.trailer.zone_bytes.Goals as goal

pub returns-then-n-eq2 : goal.returns-then-n-eq2
returns-then-n-eq2 c = (zones-some _ c.if-n-eq2.true, omega arith)

pub returns-else-n-eq2 : goal.returns-else-n-eq2
returns-else-n-eq2 c = (zones-none _ c.if-n-eq2.false, omega arith)
