use native.Mathlib.Omega.{arith}
use Rattle.arith_root.proofs.Cases.{no-nan-to}
use Rattle.arith_root.proofs.inverse_root.Goals as goal

pub float_from_bits-result : goal.float_from_bits-result
float_from_bits-result c = no-nan-to _ (omega arith)
