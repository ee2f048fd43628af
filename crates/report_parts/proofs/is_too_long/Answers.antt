use mathlib.Core.Path.{refl}
use Rattle.report_parts.specs.Parts.{is_too_long}
use Rattle.report_parts.proofs.is_too_long.Goals as goal

-- `report_parts::is_too_long`: above 65,536. Assumes nothing.
pub returns : goal.returns
unfolding is_too_long
returns c = refl
