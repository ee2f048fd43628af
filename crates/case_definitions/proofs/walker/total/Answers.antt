use mathlib.Core.Path.{sym}
use native.Mathlib.Omega.{arith}
use Rattle.case_file.proofs.ReadLaws.{length-words_in}
use Rattle.case_definitions.proofs.walker.total.Goals as goal

-- `case_definitions::walker::total` meets its contract. Assumes nothing.
pub returns : goal.returns
returns c = (sym (length-words_in c.args.words.now), omega arith)
